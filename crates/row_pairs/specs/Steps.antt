-- What the steps of a walk over two rows are given and leave.
use Rattle.std.specs.Prelude.{ℕ, ◌+◌, ◌-◌, ◌≤◌, ◌≡◌, List, cond, length, ltb}
use Rattle.words.specs.Words.{part, overwrite}
use Rattle.operators.specs.declared.BinaryOp.{BinaryOp}
use Rattle.operators.specs.Operators.{binary_word}

-- the value of a union at the lower of columns a and b, where x and y stand: "a lone value is passed as it is"
abbrev pub united_value : BinaryOp → ℕ → ℕ → ℕ → ℕ → ℕ
united_value op a b x y = cond (ltb a b) x (cond (ltb b a) y (binary_word op x y))

-- the entries of a row from index i on have room behind e entries
pub record Rest (cols vals : List ℕ) (i : ℕ) (oc ov : List ℕ) (e : ℕ) : Type 0 where
  pub even : length vals ≡ length cols
  pub within : i ≤ length cols
  pub columns_room : e + (length cols - i) ≤ length oc
  pub values_room : e + (length cols - i) ≤ length ov

-- they are written there, and there are r entries then
pub record Copied (cols vals : List ℕ) (i : ℕ) (oc ov : List ℕ) (e : ℕ) (oc' ov' : List ℕ) (r : ℕ) : Type 0 where
  pub count : r ≡ e + (length cols - i)
  pub columns : oc' ≡ overwrite e (part i (length cols) cols) oc
  pub values : ov' ≡ overwrite e (part i (length vals) vals) ov
