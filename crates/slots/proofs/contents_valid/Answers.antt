-- `contents_valid` is the test `contents_valid`.
use mathlib.Core.Path.{sym, ◌∙◌}
use borrow.Author.Tests.{eqb-true}
use Rattle.matrix.proofs.Facts.{matrix_facts}
use Rattle.slots.proofs.Facts.{empty_valid}
use Rattle.slots.proofs.Checks.{matrix_fails, size_decides}
use Rattle.slots.proofs.contents_valid.Goals as goal

pub size-requires : goal.size-requires
size-requires c = (matrix_facts _ (sym c.if-is_valid.ensures)).header

pub returns-then-is_empty : goal.returns-then-is_empty
returns-then-is_empty c = c.if-is_empty.true ∙ sym (empty_valid _ (eqb-true _ _ (sym c.if-is_empty.ensures)))

pub returns-then-is_valid : goal.returns-then-is_valid
returns-then-is_valid c = size_decides _ (sym c.if-is_empty.ensures) _ c.size.ensures (sym c.if-is_valid.ensures)

pub returns-else-is_valid : goal.returns-else-is_valid
returns-else-is_valid c = c.if-is_valid.false ∙ matrix_fails _ (sym c.if-is_empty.ensures) (sym c.if-is_valid.ensures)
