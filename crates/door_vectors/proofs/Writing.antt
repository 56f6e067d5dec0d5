-- The vector's writing: one row, staged and finished.
use Prim.Native.Nat.{ℕ, ◌≤◌}
use native.Mathlib.Omega.{arith}
use mathlib.Core.Path.{◌≡◌, sym, ap, subst, ◌∙◌}
use mathlib.Core.List.{List}
use lib.ListN.{length, take}
use Rattle.grid.specs.Entries.{column}
use Rattle.grid.proofs.Gather.{gather_most}
use Rattle.rows.specs.Row.{Holds}
use Rattle.rows.proofs.Lookup.{gather_row}
use Rattle.matrix.specs.Layout.{max_matrix_words}
use Rattle.encoding.specs.Encode.{written_over}
use Rattle.results.specs.Staging.{RowBounds, ResultBounds, staged_row, finished, Staged}
use Rattle.results.proofs.Staged.{staged_none, staged_more}
use Rattle.results.proofs.Finished.{finished_written}
use Rattle.door_vectors.specs.Vectors.{round_at, vector_of, Room, Written}

module _ (doors : List ℕ) {oc ov : List ℕ} {n : ℕ} (h : Holds (length doors) (round_at doors) n oc ov) where
  -- no more entries than doors
  pub vector_most : n ≤ length doors
  vector_most = omega (arith, h.count, gather_most column (round_at doors) (length doors))

  -- how many words are staged
  pub vector_columns : n ≡ length (take n oc)
  vector_columns = h.count ∙ sym (ap length h.columns)

  pub vector_values : n ≡ length (take n ov)
  vector_values = h.count ∙ sym (gather_row (length doors) (round_at doors)).even ∙ sym (ap length h.values)

module _ (out : List ℕ) {doors oc₀ ov₀ oc ov : List ℕ} {n : ℕ} (r : Room doors oc₀ ov₀)
    (l : max_matrix_words ≤ length out)
    (h : Holds (length doors) (round_at doors) n oc ov) where
  -- the row fits
  pub vector_bounds : RowBounds 1 0 0 (take n oc) (take n ov) out
  vector_bounds =
      record {
        rows = omega arith;
        row = omega arith;
        even = sym (vector_values doors h) ∙ vector_columns doors h;
        few = omega (arith, r.few, vector_most doors h, vector_columns doors h);
        space = l;
      }

  pub finish_bounds : {out₁ : List ℕ} → length out₁ ≡ length out → ResultBounds 1 (length doors) n out₁
  finish_bounds e = record {
    rows = omega arith;
    cols = r.few;
    few = omega (arith, r.few, vector_most doors h);
    space = omega (arith, e);
  }

  vector_staged : Staged (vector_of doors) 1 n (staged_row 1 0 0 (take n oc) (take n ov) out)
  vector_staged =
      let s = staged_more (vector_of doors) 0 0 (take n oc) (take n ov) out vector_bounds
      (staged_none (vector_of doors) out)
      h.columns h.values in
      subst (λ (k : ℕ). Staged (vector_of doors) 1 k (staged_row 1 0 0 (take n oc) (take n ov) out))
      (omega (arith, vector_columns doors h)) s

  pub vector_written : {out₁ out₂ : List ℕ} → out₁ ≡ staged_row 1 0 0 (take n oc) (take n ov) out
      → length out₁ ≡ length out → out₂ ≡ finished 1 (length doors) n out₁ → Written (vector_of doors) n out₂
  vector_written {out₁} {out₂} e z f =
      let s : Staged (vector_of doors) 1 n out₁ = subst (λ (x : List ℕ). Staged (vector_of doors) 1 n x) (sym e)
      vector_staged in
      record {
        count = s.count;
        words = subst (λ (x : List ℕ). x ≡ written_over (vector_of doors) x) (sym f)
            (finished_written (vector_of doors) n out₁ (finish_bounds z) s);
      }
