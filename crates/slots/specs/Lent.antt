-- The part of a store that holds a slot's words.
use Rattle.std.specs.Prelude.{ℕ, ◌+◌, ◌≡◌, List}
use Rattle.std.specs.Borrow.{Bor}
use Rattle.words.specs.Lent.{PartOf}
use Rattle.slots.specs.Sections.{end_from, slot_at}

-- r is the contents of slot k of the lent store s: the section after its count
pub record SlotPart (r s : Bor (List ℕ)) (k : ℕ) : Type 0 where
  pub place : PartOf r s (end_from k s.now + 1) (end_from (k + 1) s.now)
  pub words : r.now ≡ slot_at s.now k
