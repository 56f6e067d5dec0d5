-- What is known of the words of a call once they are valid: what the working part requires.
use Rattle.std.specs.Prelude.{ℕ, ◌≡◌, List, true}
use Rattle.operations.specs.declared.Call.{Call}
use Rattle.operations.specs.Calls.{has_second, indexes_valid, shapes_agree}
use Rattle.matrix.specs.Layout.{grid_of}
use Rattle.matrix.specs.Facts.{Matrix}

-- the matrices that the call has are valid
pub record Valid (call : Call) (a b m c : List ℕ) : Type 0 where
  pub first : Matrix a
  pub second : has_second call.operation ≡ true → Matrix b
  pub mask : call.has_mask ≡ true → Matrix m
  pub output : Matrix c

-- and their shapes and the lists agree
pub record Ready (call : Call) (a b m c is js : List ℕ) : Type 0 where
  pub inputs : Valid call a b m c
  pub indexes : indexes_valid call (grid_of a) (grid_of b) (grid_of c) is js ≡ true
  pub shapes : shapes_agree call (grid_of a) (grid_of b) (grid_of m) (grid_of c) is js ≡ true
