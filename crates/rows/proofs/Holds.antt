-- Laws of `Holds`: a row that is written entry by entry to the front of two buffers. Cited by the functions that leave a
-- row there.
use Rattle.std.proofs.Common.{None, Some}
use Prim.Native.Nat.{ℕ, ◌+◌, ◌≤◌, ◌<◌}
use native.Mathlib.Omega.{arith}
use native.Mathlib.Numerals.{add-one}
use mathlib.Core.Path.{◌≡◌, refl, ap, ◌∙◌}
use mathlib.Core.List.{List}
use lib.ListN.{length, set, length-append}
use lib.Seq.{take-suc-set}
use Rattle.grid.specs.Cell.{Cell}
use Rattle.grid.specs.Entries.{column, value, one, gather}
use Rattle.grid.proofs.Gather.{gather_same, gather_next, gather_skip, gather_most}
use Rattle.rows.specs.Row.{Holds}

-- before the first column nothing is written
pub holds_none : (f : ℕ → Cell) (cols vals : List ℕ) → Holds 0 f 0 cols vals
unfolding gather
holds_none f cols vals = record { count = refl; columns = refl; values = refl }

-- the first n columns are written, e entries
module _ {n e : ℕ} {f : ℕ → Cell} {cols vals : List ℕ} (h : Holds n f e cols vals) where
  -- there are no more entries than columns
  pub holds_most : e ≤ n
  holds_most = omega (arith, h.count, gather_most column f n)

  -- column n has an entry, which is written behind the others
  pub holds_put : {v : ℕ} → e < length cols → e < length vals → f n ≡ Some v
      → Holds (n + 1) f (e + 1) (set cols e n) (set vals e v)
  unfolding one
  holds_put {v} a b p = record {
    count = rw (gather_next column f n, length-append, p) (omega (arith, h.count));
    columns = rw (gather_next column f n, p, add-one e, take-suc-set cols e n a, h.columns);
    values = rw (gather_next value f n, p, add-one e, take-suc-set vals e v b, h.values);
  }

  -- the columns from n up to q have none
  pub holds_skip : (q : ℕ) → n ≤ q → ((j : ℕ) → n ≤ j → j < q → f j ≡ None) → Holds q f e cols vals
  holds_skip q l a = record {
    count = rw (gather_skip column f n q l a) h.count;
    columns = rw (gather_skip column f n q l a) h.columns;
    values = rw (gather_skip value f n q l a) h.values;
  }

  -- the same cells, written in another way
  pub holds_same : (g : ℕ → Cell) → ((j : ℕ) → j < n → f j ≡ g j) → Holds n g e cols vals
  holds_same g s = record {
    count = h.count ∙ ap length (gather_same column n f g s);
    columns = h.columns ∙ gather_same column n f g s;
    values = h.values ∙ gather_same value n f g s;
  }

-- a row without entries
pub holds_absent : (n : ℕ) (f : ℕ → Cell) (cols vals : List ℕ) → ((j : ℕ) → f j ≡ None) → Holds n f 0 cols vals
holds_absent n f cols vals a = holds_skip (holds_none f cols vals) n (omega arith) (λ j l m. a j)
