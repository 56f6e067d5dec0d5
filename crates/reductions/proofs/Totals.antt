-- A total is a fold: what `add_up` cites.
use Prim.Native.Nat.{ℕ}
use mathlib.Core.Path.{◌≡◌, refl}
use mathlib.Core.List.{List, [], ◌∷◌}
use Rattle.std.specs.List.{fold}
use Rattle.operators.specs.declared.BinaryOp.{BinaryOp}
use Rattle.operators.specs.Operators.{binary_word}
use Rattle.reductions.specs.Reductions.{total}

pub total_is : (op : BinaryOp) (x : ℕ) (ys : List ℕ) → fold (binary_word op) x ys ≡ total op x ys
total_is op x [] = refl
total_is op x (y ∷ ys) = total_is op (binary_word op x y) ys
