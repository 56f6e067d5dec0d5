-- The loop of `write_masked`: how an entry is put behind the others, what holds before column q, and how a turn takes
-- it on to the next column with an entry.
use Rattle.std.proofs.Common.{None, Some}
use Prim.Native.Nat.{ℕ, ◌+◌, ◌≤◌, ◌<◌, min}
use native.Mathlib.Omega.{arith}
use native.Mathlib.Numerals.{add-one}
use mathlib.Core.Path.{◌≡◌, refl, sym}
use mathlib.Core.List.{List}
use lib.ListN.{length, get_or, set}
use Rattle.words.specs.Words.{at}
use Rattle.grid.specs.Cell.{Cell}
use Rattle.grid.specs.Entries.{one}
use Rattle.rows.specs.Row.{lookup, position, Rises, Row, Holds}
use Rattle.rows.proofs.Position.{Stands, stands, position_moves, position_stays}
use Rattle.rows.proofs.Holds.{holds_put, holds_skip}
use Rattle.rows.proofs.Cursors.{position_grows, position_after}
use Rattle.row_pairs.proofs.Pairs.{Paired, paired_start, paired_room, paired_next, paired_up, paired_on}
use Rattle.merge.specs.Steps.{Put}

-- the two arms of `put_cell`
module _ (cols vals : List ℕ) (e q : ℕ) (cell : Cell) where
  pub put_none : cell ≡ None → Put cols vals cols vals e q cell e
  unfolding one
  put_none h = rw h (record { count = omega arith; columns = refl; values = refl })

  pub put_one : {v : ℕ} → cell ≡ Some v → Put cols vals (set cols e q) (set vals e v) e q cell (e + 1)
  unfolding one
  put_one h = rw h (record { count = omega arith; columns = refl; values = refl })

-- column q put behind the columns before it
holds_cell : {f : ℕ → Cell} {e q r : ℕ} {cols vals cols' vals' : List ℕ} {cell : Cell} → Holds q f e cols vals
    → e < length cols → e < length vals → f q ≡ cell → Put cols vals cols' vals' e q cell r
    → Holds (q + 1) f r cols' vals'
unfolding one
holds_cell {f} {e} {q} {r} {cell = None} h a b s p =
    let z : r ≡ e = omega (arith, p.count) in
    rw (p.columns, p.values, z)
    (holds_skip h (q + 1) (omega arith) (λ j l m. let z : j ≡ q = omega arith in rw z s))
holds_cell {f} {e} {q} {cell = Some v} h a b s p =
    rw (p.columns, p.values, p.count) (holds_put h a b s)

-- the two ways of `past`: from the position of column q to that of the column after
module _ {cols : List ℕ} (rises : Rises cols) {q i : ℕ} (e : i ≡ position q cols) where
  placed : Stands q cols i
  placed = rw e (stands q cols rises)

  pub past_entry : i < length cols → at cols i ≤ q → i + 1 ≡ position (q + 1) cols
  past_entry l b =
      rw (add-one i, add-one q)
      (position_moves q cols i rises placed l (omega (arith, placed.after i (omega arith) l)))

  pub past_none : (i < length cols → q < at cols i) → i ≡ position (q + 1) cols
  past_none b = rw (add-one q) (position_stays q cols i rises placed (λ l s. omega (arith, b l)))

-- The columns before q are done, and m is an index into the columns of the mask.
pub record Merged (f : ℕ → Cell) (n : ℕ) (mc cc tc oc₀ ov₀ oc ov : List ℕ) (m i k e q : ℕ) : Type 0 where
  pub mask : m ≤ position q mc
  pub pair : Paired f n cc tc oc₀ ov₀ oc ov i k e q

-- before column 0
pub merged_start : (f : ℕ → Cell) (n : ℕ) (mc cc tc oc ov : List ℕ) → Merged f n mc cc tc oc ov oc ov 0 0 0 0 0
merged_start f n mc cc tc oc ov = record { mask = omega arith; pair = paired_start f n cc tc oc ov }

-- column q is done
pub merged_put : {f : ℕ → Cell} {n : ℕ} {mc cc tc oc₀ ov₀ oc ov oc' ov' : List ℕ} {m i k e q m' i' k' r : ℕ}
    {cell : Cell} → Merged f n mc cc tc oc₀ ov₀ oc ov m i k e q → q < n → n ≤ length oc₀ → n ≤ length ov₀
    → Rises mc → cell ≡ f q → Put oc ov oc' ov' e q cell r → length oc' ≡ length oc → length ov' ≡ length ov
    → m' ≡ position q mc → i' ≡ position (q + 1) cc → k' ≡ position (q + 1) tc
    → Merged f n mc cc tc oc₀ ov₀ oc' ov' m' i' k' r (q + 1)
merged_put {q = q} h l a b rises s p u v x y z =
    let room = paired_room h.pair l a b in
    record {
      mask = position_after rises q x;
      pair = paired_next h.pair l (holds_cell h.pair.row room.0 room.1 (sym s) p) u v y z;
    }

-- on to the next column q where one of the two rows has an entry
module _ {f : ℕ → Cell} {n : ℕ} {mc cc cv tc tv oc₀ ov₀ oc ov : List ℕ} {m i k e p q : ℕ} (rises : Rises mc)
    (w : Row n cc cv) (x : Row n tc tv)
    (quiet : (j : ℕ) → lookup cc cv j ≡ None → lookup tc tv j ≡ None → f j ≡ None)
    (h : Merged f n mc cc tc oc₀ ov₀ oc ov m i k e p) (next : q ≡ min (get_or cc i n) (get_or tc k n)) where
  -- that is no earlier column
  pub merged_up : p ≤ q
  merged_up = paired_up w x quiet h.pair next

  -- the columns up to it have no entries
  pub merged_on : Merged f n mc cc tc oc₀ ov₀ oc ov m i k e q
  merged_on = record {
    mask = omega (arith, h.mask, position_grows rises p q merged_up);
    pair = paired_on w x quiet h.pair next;
  }
