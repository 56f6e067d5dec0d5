-- `evaluate` works the text out by the semiring that its numbers name.
use mathlib.Core.Path.{sym, ◌∙◌}
use Rattle.store_formulas.proofs.Formulas.{evaluable_lent, monoid_known_lem, binary_known_lem, evaluated}
use Rattle.store_formulas.proofs.evaluate.Goals as goal

pub returns-in_default : goal.returns-in_default
returns-in_default c =
    absurd (monoid_known_lem c.requires (sym c.monoid_code-adding.ensures ∙ c.in_default.is))

pub returns-in_default-multiplying : goal.returns-in_default-multiplying
returns-in_default-multiplying c =
    absurd (binary_known_lem c.requires (sym c.binary_code-multiplying.ensures ∙ c.in_default-multiplying.is))

pub formula-requires : goal.formula-requires
formula-requires c =
    evaluable_lent
    c.requires

pub returns : goal.returns
returns c =
    evaluated c.requires (sym
    c.monoid_code-adding.ensures
    ∙ c.in-Some.is)
    (sym c.binary_code-multiplying.ensures
    ∙ c.in-Some-multiplying.is) _ c.formula.result c.formula.ensures
