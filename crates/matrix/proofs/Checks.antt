-- The cases of `valid` and of `check_answer`, as the code reaches them.
use mathlib.Core.Path.{◌≡◌}
use mathlib.Core.List.{List}
use mathlib.Core.Bool.{true, false}
use Prim.Native.Nat.{ℕ}
use Rattle.answers.specs.Refusals.{accepted, refused, invalid_first}
use Rattle.conditions.specs.Tests.{◌and◌}
use Rattle.matrix.specs.Layout.{entries}
use Rattle.matrix.specs.Valid.{header_valid, starts_valid, rows_valid, valid, check_answer}

module _ (s : List ℕ) where
  pub header_fails : header_valid s ≡ false → false ≡ valid s
  unfolding valid ◌and◌
  header_fails h = rw h

  pub starts_fail : header_valid s ≡ true → starts_valid s ≡ false → false ≡ valid s
  unfolding valid ◌and◌
  starts_fail h k = rw (h, k)

  pub rows_decide : header_valid s ≡ true → starts_valid s ≡ true → rows_valid s ≡ valid s
  unfolding valid ◌and◌
  rows_decide h k = rw (h, k)

  pub check_refused : valid s ≡ false → refused invalid_first ≡ check_answer s
  unfolding check_answer
  check_refused v = rw v

  pub check_accepted : (n : ℕ) → n ≡ entries s → valid s ≡ true → accepted n ≡ check_answer s
  unfolding check_answer
  check_accepted n e v = rw (v, e)
