-- The union of cells under MAX: order and repetition do not matter.
use Rattle.std.proofs.Common.{None, Some}
use Prim.Native.Nat.{ℕ, ◌≤◌}
use native.Mathlib.Omega.{arith}
use mathlib.Core.Path.{◌≡◌, refl, sym, ap}
use lib.ListN.{length}
use Rattle.grid.specs.Cell.{Cell}
use Rattle.grid.specs.Entries.{column, one}
use Rattle.operators.specs.declared.BinaryOp.TheVariants.{Max}
use Rattle.operators.specs.declared.UnaryOp.TheVariants.{Identity}
use Rattle.operators.specs.declared.ApplyOp.TheVariants.{Unary}
use Rattle.operators.specs.Operators.{entry_word}
use Rattle.operators.proofs.Laws.{identity_word_lem}
use Rattle.operations.specs.CellOperations.{unite, apply_cell}
use Rattle.merging.specs.Merging.{Word}
use Rattle.operators.proofs.Larger.{larger, max_exchanged, max_either, max_again, max_same}

pub unite_word : (c x : Cell) → Word c → Word x → Word (unite Max c x)
unite_word None x p q = q
unite_word (Some u) None p q = p
unite_word (Some u) (Some v) p q = (larger u v p q).small

pub unite_exchanged : (c x y : Cell) → Word c → Word x → Word y
    → unite Max (unite Max c x) y ≡ unite Max (unite Max c y) x
unite_exchanged None None None p q r = refl
unite_exchanged None None (Some v) p q r = refl
unite_exchanged None (Some u) None p q r = refl
unite_exchanged None (Some u) (Some v) p q r = ap Some (max_either q r)
unite_exchanged (Some w) None None p q r = refl
unite_exchanged (Some w) None (Some v) p q r = refl
unite_exchanged (Some w) (Some u) None p q r = refl
unite_exchanged (Some w) (Some u) (Some v) p q r = ap Some (max_exchanged p q r)

pub unite_again : (c x : Cell) → Word c → Word x → unite Max (unite Max c x) x ≡ unite Max c x
unite_again None None p q = refl
unite_again None (Some u) p q = ap Some (max_same q)
unite_again (Some w) None p q = refl
unite_again (Some w) (Some u) p q = ap Some (max_again p q)

-- a present cell stays present
pub unite_grows : (j : ℕ) (c x : Cell) → length (one column j c) ≤ length (one column j (unite Max c x))
unfolding one
unite_grows j None x = omega arith
unite_grows j (Some w) None = omega arith
unite_grows j (Some w) (Some u) = omega arith

-- IDENTITY leaves a word as it is
pub identity_cell : (i j : ℕ) (x : Cell) → Word x → apply_cell (Unary Identity) i j x ≡ x
unfolding entry_word
identity_cell i j None p = refl
identity_cell i j (Some v) p = ap Some (sym (identity_word_lem p))
