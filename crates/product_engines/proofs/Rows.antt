-- The two engines leave the same row: both contracts say which row it is.
use Prim.Native.Nat.{ℕ}
use mathlib.Core.Path.{◌≡◌, sym, ◌∙◌}
use mathlib.Core.List.{List}
use Rattle.grid.specs.Cell.{Cell}
use Rattle.rows.specs.Row.{Holds}
use Rattle.products.proofs.product_row.Met as by_places_met
use Rattle.products.proofs.by_entries.product_row_by_entries.Met as by_entries_met
use Rattle.product_engines.specs.Rows.{SameRow, Engines}

-- a row that is left at the front of two buffers is determined by its cells
pub holds_unique : {n : ℕ} {f : ℕ → Cell} {r r' : ℕ} {oc oc' ov ov' : List ℕ} → Holds n f r oc ov → Holds n f r' oc' ov'
    → SameRow r r' oc oc' ov ov'
holds_unique h k = record {
  count = k.count ∙ sym h.count;
  columns = k.columns ∙ sym h.columns;
  values = k.values ∙ sym h.values;
}

pub engines : Engines
engines = record {
  by_places_met = by_places_met.met;
  by_entries_met = by_entries_met.met;
  asked = λ κs monoid op columns values b oc ov h. h;
  asked_back = λ κs monoid op columns values b oc ov h. h;
  same = λ p q κs κs' monoid op columns values b oc ov oc₁ ov₁ oc' ov' oc₁' ov₁' r r' h k. holds_unique h k;
}
