-- `next_revision` is `next_revision`.
use borrow.Author.Tests.{eq-eqb, ne_eqb}
use Rattle.grid.specs.Revision.{next_revision}
use Rattle.matrix.proofs.next_revision.Goals as goal

pub returns-then-v-eq-MAX_REVISION : goal.returns-then-v-eq-MAX_REVISION
unfolding next_revision
returns-then-v-eq-MAX_REVISION c = rw (eq-eqb _ _ c.if-v-eq-MAX_REVISION.true)

pub returns-else-v-eq-MAX_REVISION : goal.returns-else-v-eq-MAX_REVISION
unfolding next_revision
returns-else-v-eq-MAX_REVISION c = rw (ne_eqb _ _ c.if-v-eq-MAX_REVISION.false)
