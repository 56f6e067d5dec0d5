-- `orient` writes the transpose where it is asked for.
use mathlib.Core.Path.{◌∙◌}
use Rattle.sources.proofs.orient.Goals as goal

pub transpose-requires : goal.transpose-requires
transpose-requires c =
    record {
      matrix = c.requires.fact_1 c.if-flag.true;
      output_room = c.requires.fact_2;
    }

pub returns-then-flag : goal.returns-then-flag
returns-then-flag c = c.transpose.ensures ∙ rw c.if-flag.true

pub returns-else-flag : goal.returns-else-flag
returns-else-flag c = rw c.if-flag.false
