-- The whole row of an assign: what stands at the listed columns and what is kept at the others, collected.
use Rattle.std.proofs.Common.{None, Some}
use Prim.Native.Nat.{ℕ, zero, suc, ◌≤◌, ◌<◌}
use native.Mathlib.Omega.{arith}
use native.Mathlib.Numerals.{add-one}
use mathlib.Core.Path.{◌≡◌, refl, sym, ap, ◌∙◌}
use mathlib.Core.List.{List}
use lib.ListN.{length}
use borrow.Author.Tests.{eq-eqb, ne_eqb}
use Rattle.limits.specs.Limits.{max_cols}
use Rattle.words.specs.Words.{at}
use Rattle.grid.specs.Cell.{Cell}
use Rattle.grid.specs.Entries.{column, value}
use Rattle.grid.proofs.Gather.{gather_skip}
use Rattle.operations.specs.Accumulator.{Accumulator}
use Rattle.operations.specs.CellOperations.{listed_cell, unlisted_cell}
use Rattle.operations.proofs.Listed.{listed_none, listed_at}
use Rattle.rows.specs.Row.{lookup, Row, Holds}
use Rattle.rows.proofs.Holds.{holds_same}
use Rattle.rows.proofs.Walk.{absent_past}
use Rattle.bit_rows.specs.Bits.{map_places, flagged, Carries, Room}
use Rattle.bit_rows.proofs.Marks.{carries_room}
use Rattle.assign_rows.specs.Assigned.{Listed, AtListed, OnlyListed, with_unlisted}

-- behind the old row nothing is kept
unlisted_absent : (accumulator : Accumulator) → unlisted_cell accumulator None ≡ None
unlisted_absent None = refl
unlisted_absent (Some op) = refl

pub old_past : (accumulator : Accumulator) {n : ℕ} {cols vals : List ℕ} → Row n cols vals → (j : ℕ) → n ≤ j
    → unlisted_cell accumulator (lookup cols vals j) ≡ None
old_past accumulator w j l = ap (unlisted_cell accumulator) (absent_past w j l) ∙ unlisted_absent accumulator

module _ {n : ℕ} {list inv : List ℕ} (g : Listed n list inv) where
  -- a column that the inverse has no place for is no index of the list
  unnamed : (j : ℕ) → at inv j ≡ 0 → (k : ℕ) → k < length list → at list k ≡ j → ⊥
  unnamed j z k l e = omega (arith, g.inverse.named k l, ap (at inv) e)

  pub only_listed : {cols vals : List ℕ} {top : ℕ} {map ov : List ℕ} → AtListed list cols vals top map ov
      → OnlyListed inv map ov
  only_listed a j z = a.others j (unnamed j z)

  -- a column that it has a place for is that index, and no other
  only : (k : ℕ) → k < length list → (h : ℕ) → h < length list → at list h ≡ at list k → h ≡ k
  only k l h m e = omega (arith, g.inverse.named k l, g.inverse.named h m, ap (at inv) e)

  module _ {cols vals : List ℕ} {top : ℕ} {map ov : List ℕ} (a : AtListed list cols vals top map ov)
      (old : ℕ → Cell) where
    -- what is there is the cell of the assign
    cell_is : (j : ℕ)
        → with_unlisted inv old (flagged map ov) j ≡ listed_cell (length list) list j (lookup cols vals) (old j)
    cell_is j = go (at inv j) refl
      where
        go : (m : ℕ) → at inv j ≡ m
            → with_unlisted inv old (flagged map ov) j ≡ listed_cell (length list) list j (lookup cols vals) (old j)
        go zero e =
            rw (eq-eqb (at inv j) 0 e)
            (sym (listed_none (length list) list j (lookup cols vals) (old j) (unnamed j e)))
        go (suc k) e =
            let o = g.inverse.only j k (rw (add-one k) e) in
            rw (ne_eqb (at inv j) 0 (λ z. omega arith))
            (ap (flagged map ov) (sym o.1) ∙ a.listed k o.0
            ∙ sym (listed_at (length list) list j k (lookup cols vals) (old j) o.0 o.1
            (λ h m f. only k o.0 h m (f ∙ sym o.1))))

    -- behind the row there is nothing
    beyond : ((j : ℕ) → n ≤ j → old j ≡ None) → (j : ℕ) → n ≤ j → with_unlisted inv old (flagged map ov) j ≡ None
    beyond none j l =
        cell_is j
        ∙ listed_none (length list) list j (lookup cols vals) (old j) (λ k m e. omega (arith, g.below k m))
        ∙ none j l

    module _ (none : (j : ℕ) → n ≤ j → old j ≡ None) {top' : ℕ} {map' ov' : List ℕ}
        (h : Carries (with_unlisted inv old (flagged map ov)) top' map' ov') where
      pub assigned_room : {x y : ℕ} → n ≤ x → n ≤ y → Room map' x y
      assigned_room p q = carries_room h n (beyond none) p q

      -- collected, it is the row
      pub assigned_row : n ≤ max_cols → {e : ℕ} {oc' ov'' : List ℕ} → Holds map_places (flagged map' ov') e oc' ov''
          → Holds n (λ j. listed_cell (length list) list j (lookup cols vals) (old j)) e oc' ov''
      assigned_row m c =
          let l : n ≤ map_places = omega arith in
          let past : (j : ℕ) → n ≤ j → j < map_places → flagged map' ov' j ≡ None =
          λ j u v. h.cell j ∙ beyond none j u in
          let front : Holds n (flagged map' ov') _ _ _ = record {
            count = c.count ∙ ap length (gather_skip column (flagged map' ov') n map_places l past);
            columns = c.columns ∙ gather_skip column (flagged map' ov') n map_places l past;
            values = c.values ∙ gather_skip value (flagged map' ov') n map_places l past;
          } in
          holds_same front _ (λ j u. h.cell j ∙ cell_is j)
