-- What is known of a call that none of the refusals applies to.
use Prim.Native.Nat.{ℕ}
use mathlib.Core.Path.{◌≡◌, refl}
use mathlib.Core.List.{List}
use mathlib.Core.Bool.{true}
use lib.Dec.{eqb}
use borrow.Author.Tests.{not-false, ltb-false, eqb-true}
use Rattle.conditions.proofs.Tests.{and_left, and_right}
use Rattle.grid.specs.Grid.{Grid}
use Rattle.matrix.specs.Layout.{grid_of}
use Rattle.matrix.proofs.Facts.{matrix_facts}
use Rattle.refusals.proofs.Cases.{later}
use Rattle.key_requests.specs.Refusal.{shapes_fit, input_refusal}
use Rattle.key_requests.specs.Ready.{Checked}

-- the four equations of shapes that fit
pub record Fits (locks cabinets hand : Grid) : Type 0 where
  pub doors : cabinets.rows ≡ locks.cols
  pub keys : cabinets.cols ≡ locks.rows
  pub one_row : hand.rows ≡ 1
  pub hand_keys : hand.cols ≡ locks.rows

fits_of : (locks cabinets hand : Grid) → shapes_fit locks cabinets hand ≡ true → Fits locks cabinets hand
unfolding shapes_fit
fits_of locks cabinets hand h =
    let t = and_right (eqb cabinets.rows locks.cols) _ h in
    let u = and_right (eqb cabinets.cols locks.rows) _ t in
    record {
      doors = eqb-true _ _ (and_left (eqb cabinets.rows locks.cols) _ h);
      keys = eqb-true _ _ (and_left (eqb cabinets.cols locks.rows) _ t);
      one_row = eqb-true _ _ (and_left (eqb hand.rows 1) _ u);
      hand_keys = eqb-true _ _ (and_right (eqb hand.rows 1) _ u);
    }

-- a call that none of them applies to
pub checked_of : (allowance : ℕ) (locks cabinets hand : List ℕ) (work : ℕ)
    → input_refusal allowance locks cabinets hand work ≡ 0 → Checked allowance locks cabinets hand work
unfolding input_refusal
checked_of allowance locks cabinets hand work h =
    let h₃ = later _ 3 _ refl h in
    let h₄ = later _ 4 _ refl h₃.rest in
    let h₅ = later _ 5 _ refl h₄.rest in
    let h₇ = later _ 7 _ refl h₅.rest in
    let h₈ = later _ 8 _ refl h₇.rest in
    let h₉ = later _ 9 _ refl h₈.rest in
    let f = fits_of (grid_of locks) (grid_of cabinets) (grid_of hand) (not-false _ h₈.here) in
    record {
      ready = record {
        locks_valid = matrix_facts locks (not-false _ h₃.here);
        cabinets_valid = matrix_facts cabinets (not-false _ h₄.here);
        hand_valid = matrix_facts hand (not-false _ h₅.here);
        same_doors = f.doors;
        same_keys = f.keys;
        one_row = f.one_row;
        hand_keys = f.hand_keys;
        allowed = ltb-false _ _ h₇.here;
      };
      workspace = ltb-false _ _ h₉.here;
    }
