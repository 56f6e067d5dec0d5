-- `total_of` adds up the part of the words where the values stand.
use mathlib.Core.Path.{◌∙◌}
use Rattle.reduce.proofs.Totals.{values_total}
use Rattle.reduce.proofs.total_of.Goals as goal

pub returns : goal.returns
returns c =
    let e = rw (
      c.monoid_op.ensures,
      c.identity.ensures,
      c.row_count.ensures,
      c.entry_count-n.ensures,
    ) at c.add_up.ensures in
    e ∙ values_total c.args.m c.args.words.now c.requires
