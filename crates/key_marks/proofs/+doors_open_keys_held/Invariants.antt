-- `doors_open` and `keys_held` ask each other: round n asks its keys, and its keys the doors of the round before. So
-- the measures are 2n + 1 and 2n.
use Rattle.std.proofs.Common.{◌+◌}
use Rattle.key_marks.proofs.+doors_open_keys_held.Given as goal

abbrev pub decreases-doors_open : goal.decreases-doors_open
decreases-doors_open l = l.n + l.n + 1

abbrev pub decreases-keys_held : goal.decreases-keys_held
decreases-keys_held l = l.n + l.n
