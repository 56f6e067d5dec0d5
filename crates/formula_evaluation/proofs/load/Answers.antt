-- `load` copies the words of a slot to the front, and gives them the revision 0.
use native.Mathlib.Omega.{arith}
use mathlib.Core.Path.{ap}
use lib.ListN.{length}
use Rattle.formula_evaluation.proofs.Lending.{held_long, held_standing}
use Rattle.formula_evaluation.proofs.load.Goals as goal

pub copy_into-requires : goal.copy_into-requires
copy_into-requires c =
    omega (arith, ap length c.contents.ensures.words, held_long _ c.requires.held, c.requires.room)

pub set_revision-requires : goal.set_revision-requires
set_revision-requires c = omega (arith, c.copy_into.auto.dst, c.requires.room)

pub returns : goal.returns
returns c =
    rw (c.set_revision.ensures, c.copy_into.ensures, c.contents.ensures.words)
    (held_standing _ c.requires.held c.args.stack.now c.requires.room)
