-- The loop of `mark_mask`: the entries before p of a mask's row have their marks. And the columns inside the mask.
use Rattle.std.proofs.Common.{None, Some}
use Prim.Native.Nat.{ℕ, ◌+◌, ◌/◌, ◌%◌, ◌≤◌, ◌<◌}
use native.Mathlib.Omega.{arith}
use mathlib.Core.Path.{◌≡◌, refl, sym, ap, ◌∙◌}
use mathlib.Core.List.{List}
use mathlib.Core.Bool.{Bool, true, false, cond, not}
use lib.ListN.{length, replicate}
use Rattle.limits.specs.Limits.{max_cols}
use Rattle.words.specs.Words.{at}
use Rattle.grid.specs.Cell.{Cell}
use Rattle.operations.specs.declared.WriteBack.{WriteBack}
use Rattle.operations.specs.WriteBacks.{mask_holds, inside}
use Rattle.rows.specs.Row.{lookup, Row}
use Rattle.rows.proofs.Walk.{front_at, lookup_entry}
use Rattle.dense_rows.proofs.Sweep.{Swept, swept_start, swept_step, swept_done}
use Rattle.bit_rows.specs.Bits.{map_words, mark, lets, Tracked, Marking, Kept}
use Rattle.bit_rows.proofs.Marks.{tracked_none, mark_none}
use Rattle.bit_rows.proofs.Keeping.{kept_tracked}
use Rattle.mask_rows.specs.Masks.{mask_mark, Unmarked, EntryMarked, MaskMarked, UnderMask, KeptInside}

-- a new map has no marks
pub unmarked_new : Unmarked (replicate map_words 0)
unmarked_new = record { tracked = tracked_none; none = mark_none }

-- ---- one entry

-- an entry that does not count, and one that counts
module _ {structural : Bool} {v j : ℕ} {map : List ℕ} where
  pub entry_left : {top : ℕ} → Tracked top map → mask_holds structural (Some v) ≡ false
      → EntryMarked structural v j map top map
  entry_left t e = record { tracked = t; here = λ h. rw e h; other = λ k n. refl }

  pub entry_taken_lem : {top' : ℕ} {map' : List ℕ} → mask_holds structural (Some v) ≡ true → Marking j map top' map'
      → EntryMarked structural v j map top' map'
  entry_taken_lem e m = record { tracked = m.tracked; here = λ h. rw e m.here; other = m.other }

-- ---- the row

-- a mark as a value, for the sweep
abbrev marks : List ℕ → ℕ → Cell
marks map j = Some (mark map j)

abbrev goal : Bool → List ℕ → List ℕ → ℕ → Cell
goal structural columns vals j = Some (mask_mark structural (lookup columns vals j))

abbrev value : Cell → ℕ
value None = 0
value (Some v) = v

pub record Masking (structural : Bool) (columns vals : List ℕ) (top : ℕ) (map : List ℕ) (p : ℕ) : Type 0 where
  pub tracked : Tracked top map
  pub swept : Swept max_cols columns (λ j. Some 0) (goal structural columns vals) (marks map) p

-- a column without an entry does not count
keeps : (structural : Bool) (columns vals : List ℕ) (j : ℕ) → lookup columns vals j ≡ None
    → goal structural columns vals j ≡ Some 0
keeps structural columns vals j e = rw e

module _ {columns vals : List ℕ} (w : Row max_cols columns vals) {structural : Bool} where
  pub masking_start : {map : List ℕ} → Unmarked map → Masking structural columns vals 0 map 0
  masking_start u = record {
    tracked = u.tracked;
    swept = swept_start w (keeps structural columns vals) (λ j. ap Some (u.none j));
  }

  module _ {top : ℕ} {map : List ℕ} {p : ℕ} (h : Masking structural columns vals top map p) where
    pub masking_step : {top' : ℕ} {map' : List ℕ} → p < length columns
        → EntryMarked structural (at vals p) (at columns p) map top' map'
        → Masking structural columns vals top' map' (p + 1)
    masking_step l e =
        let before : mark map (at columns p) ≡ 0 =
        ap value (h.swept.rest (at columns p) (omega (arith, front_at max_cols columns p l))) in
        record {
          tracked = e.tracked;
          swept = swept_step w (keeps structural columns vals) h.swept l
              (ap Some (e.here before ∙ rw (lookup_entry w p l)))
              (λ j n. ap Some (e.other j n));
        }

    pub masking_done : length columns ≤ p → MaskMarked structural columns vals map
    masking_done l j = ap value (swept_done w (keeps structural columns vals) h.swept l j)

-- ---- inside the mask

lets_inside : (complement holds : Bool) → lets complement (cond holds 1 0) ≡ cond complement (not holds) holds
lets_inside true true = refl
lets_inside true false = refl
lets_inside false true = refl
lets_inside false false = refl

pub kept_inside : {w : WriteBack} {columns vals marks map map' : List ℕ} → UnderMask w columns vals
    → MaskMarked w.structural columns vals marks → Kept w.complement marks map map'
    → KeptInside w (lookup columns vals) map map'
kept_inside {w} {columns} {vals} {marks} {map} {map'} e m k = record {
  tracked = λ top t. kept_tracked k t;
  marks = λ j.
      let holds = mask_holds w.structural (lookup columns vals j) in
      let lies : inside w (lookup columns vals j) ≡ cond w.complement (not holds) holds = rw e.has in
      (k.word (j / 64)).bits (j % 64)
      ∙ ap (λ (b : Bool). cond b (mark map j) 0)
      (ap (lets w.complement) (m j) ∙ lets_inside w.complement holds ∙ sym lies);
}
