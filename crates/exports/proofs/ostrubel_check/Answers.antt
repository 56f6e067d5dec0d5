-- `ostrubel_check` answers what `matrix::check` does.
use mathlib.Core.Path.{ap, ◌∙◌}
use Rattle.exports.specs.Packing.{packed}
use Rattle.exports.proofs.ostrubel_check.Goals as goal

pub returns : goal.returns
returns c = c.pack.ensures ∙ ap packed c.check.ensures
