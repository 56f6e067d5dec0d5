-- `falls_at_start` is the test `falls_at_start`.
use mathlib.Core.Path.{◌∙◌}
use borrow.Author.Tests.{le-ltb}
use Rattle.matrix.proofs.Falls.{no_entries_lem, first_decides}
use Rattle.matrix.proofs.falls_at_start.Goals as goal

pub returns-then-start-words : goal.returns-then-start-words
returns-then-start-words c = first_decides c.args.words.now c.args.i c.if-start-words.true

pub returns-else-start-words : goal.returns-else-start-words
returns-else-start-words c =
    le-ltb _ _ c.if-start-words.false ∙ no_entries_lem c.args.words.now c.args.i c.if-start-words.false
