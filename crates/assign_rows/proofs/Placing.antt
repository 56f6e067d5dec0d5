-- The loop of `place_listed`: the entries of A's row before p stand at the columns that the list has for them.
use Rattle.std.proofs.Common.{None}
use Prim.Native.Nat.{ℕ, ◌+◌, ◌≤◌, ◌<◌}
use native.Mathlib.Omega.{arith}
use native.Mathlib.Decide.{dec_lt}
use mathlib.Core.Path.{◌≡◌, refl, sym, ◌∙◌}
use mathlib.Core.List.{List}
use mathlib.Core.Bool.{cond}
use lib.ListN.{length, set, length-set}
use lib.Dec.{ltb}
use borrow.Author.Tests.{lt-ltb, le-ltb}
use Rattle.limits.specs.Limits.{max_cols}
use Rattle.words.specs.Words.{at}
use Rattle.grid.specs.Cell.{Cell}
use Rattle.rows.specs.Row.{lookup, Row}
use Rattle.rows.proofs.Walk.{lookup_entry}
use Rattle.dense_rows.proofs.Sweep.{Swept, swept_start, swept_step, swept_done}
use Rattle.bit_rows.specs.Bits.{flagged, Tracked, Carries, Marking}
use Rattle.bit_rows.proofs.Marks.{marked_here, marked_other}
use Rattle.extract_rows.specs.Indices.{Indices}
use Rattle.assign_rows.specs.Assigned.{AtListed}

-- what stands at the column that the list has at k
abbrev at_index : List ℕ → (ℕ → Cell) → ℕ → Cell
at_index list cells k = cond (ltb k (length list)) (cells (at list k)) None

-- the entries before p are put, nothing stands at other columns, and the buffer is as long as it was
pub record Placing (list cols vals ov₀ : List ℕ) (top : ℕ) (map ov : List ℕ) (p : ℕ) : Type 0 where
  pub tracked : Tracked top map
  pub long : length ov ≡ length ov₀
  pub swept : Swept (length list) cols (λ k. None) (lookup cols vals) (at_index list (flagged map ov)) p
  pub others : (j : ℕ) → ((k : ℕ) → k < length list → at list k ≡ j → ⊥) → flagged map ov j ≡ None

module _ {list cols vals : List ℕ} (w : Row (length list) cols vals) (ix : Indices list) where
  -- a column without an entry stays absent
  keeps : (k : ℕ) → lookup cols vals k ≡ None → lookup cols vals k ≡ None
  keeps k e = e

  pub placing_start : (ov : List ℕ) {map : List ℕ} → Carries (λ j. None) 0 map ov
      → Placing list cols vals ov 0 map ov 0
  placing_start ov {map} h = record {
    tracked = h.tracked;
    long = refl;
    swept = swept_start w keeps (λ k. none k (dec_lt k (length list)));
    others = λ j n. h.cell j;
  }
    where
      none : (k : ℕ) → Dec (k < length list) → at_index list (flagged map ov) k ≡ None
      none k (yes d) = rw (lt-ltb k (length list) d) (h.cell (at list k))
      none k (no d) = rw (le-ltb k (length list) (omega arith))

  module _ {ov₀ : List ℕ} {top : ℕ} {map ov : List ℕ} {p : ℕ} (h : Placing list cols vals ov₀ top map ov p)
      (l : p < length cols) where
    -- the column of entry p is an index of the list
    pub placing_index : at cols p < length list
    placing_index = w.small p l

    pub placing_column : at list (at cols p) < max_cols
    placing_column = ix.index (at cols p) placing_index

    -- two columns of A's row have different columns in the list
    apart : (k : ℕ) → k < length list → (k ≡ at cols p → ⊥) → at list k ≡ at list (at cols p) → ⊥
    apart k m n e = go (dec_lt k (at cols p))
      where
        go : Dec (k < at cols p) → ⊥
        go (yes d) = ix.once k (at cols p) d placing_index e
        go (no d) = ix.once (at cols p) k (omega arith) m (sym e)

    -- entry p is put
    pub placing_step : {top' : ℕ} {map' : List ℕ} → at list (at cols p) < length ov₀
        → Marking (at list (at cols p)) map top' map'
        → Placing list cols vals ov₀ top' map' (set ov (at list (at cols p)) (at vals p)) (p + 1)
    placing_step {top'} {map'} room u = record {
      tracked = u.tracked;
      long = length-set ov (at list (at cols p)) (at vals p) ∙ h.long;
      swept = swept_step w keeps h.swept l
          (rw (lt-ltb (at cols p) (length list) placing_index)
          (marked_here u ov (at vals p) (omega (arith, h.long)) ∙ sym (lookup_entry w p l)))
          (λ k n. other k n (dec_lt k (length list)));
      others = λ j n.
          marked_other u ov (at vals p) j (λ z. n (at cols p) placing_index (sym z)) ∙ h.others j n;
    }
      where
        other : (k : ℕ) → (k ≡ at cols p → ⊥) → Dec (k < length list)
            → at_index list (flagged map' (set ov (at list (at cols p)) (at vals p))) k
            ≡ at_index list (flagged map ov) k
        other k n (yes d) =
            rw (lt-ltb k (length list) d) (marked_other u ov (at vals p) (at list k) (apart k d n))
        other k n (no d) = rw (le-ltb k (length list) (omega arith))

  -- all entries are put
  pub placing_done : {ov₀ : List ℕ} {top : ℕ} {map ov : List ℕ} {p : ℕ} → Placing list cols vals ov₀ top map ov p
      → length cols ≤ p → AtListed list cols vals top map ov
  placing_done {map = map} {ov = ov} h m = record {
    tracked = h.tracked;
    listed = λ k d. rw (lt-ltb k (length list) d) at (swept_done w keeps h.swept m k);
    others = h.others;
  }
