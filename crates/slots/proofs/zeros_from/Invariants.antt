-- `zeros_from` is the test `all_zero` of the words from a place on.
use lib.ListN.{drop}
use Rattle.slots.proofs.Checks.{Collected}
use Rattle.slots.proofs.zeros_from.Given as goal

abbrev pub invariant-loop-word : goal.invariant-loop-word
invariant-loop-word l = Collected (drop l.at l.store) l.word-index l.bits
