-- What a call answers, in the papers' own numbers (document 01: "0 and the N of its sheet", "its number and 0").
use Rattle.std.specs.Prelude.{ℕ, Bool}

-- 0 and the number of entries of the matrix written or checked, or a refusal code and 0
pub record Answer : Type 0 where
  pub code : ℕ
  pub entries : ℕ

-- 0 and whether the cell is present, with its value and the position of its entry; or a refusal code. The value is 0
-- where there is none. The position of an absent cell is where its entry would be put, and that of a refusal is 0.
pub record CellAnswer : Type 0 where
  pub code : ℕ
  pub present : Bool
  pub value : ℕ
  pub position : ℕ

-- 0 and the number that a matrix is reduced to; or a refusal code and 0
pub record NumberAnswer : Type 0 where
  pub code : ℕ
  pub value : ℕ
