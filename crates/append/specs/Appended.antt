-- What a function leaves that writes bytes into a lent buffer from a position on.
use Rattle.std.specs.Prelude.{ℕ, ◌+◌, ◌≤◌, ◌≡◌, List, length}
use Rattle.words.specs.Words.{overwrite}

-- the bytes x stand in the buffer s from `from` up to `to`, and every other byte is as it was: s' is the buffer then
pub record Appended (x s s' : List ℕ) (from to : ℕ) : Type 0 where
  pub next : to ≡ from + length x
  pub fits : to ≤ length s
  pub bytes : s' ≡ overwrite from x s
  pub kept : length s' ≡ length s
