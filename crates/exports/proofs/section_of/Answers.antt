-- `section_of` reads a number as a section.
use mathlib.Core.Path.{refl}
use borrow.Author.Tests.{eq-eqb, ne_eqb}
use Rattle.exports.proofs.section_of.Goals as goal

pub returns-then-values-eq0 : goal.returns-then-values-eq0
returns-then-values-eq0 c = rw (eq-eqb _ _ c.if-values-eq0.true) refl

pub returns-else-values-eq0 : goal.returns-else-values-eq0
returns-else-values-eq0 c = rw (ne_eqb _ _ c.if-values-eq0.false) refl
