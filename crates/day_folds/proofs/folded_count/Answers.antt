-- `folded_count` adds up the rows.
use Rattle.std.proofs.Common.{rules}
use native.Mathlib.Omega.{arith}
use mathlib.Core.Path.{◌∙◌}
use Rattle.std.specs.List.{range_with_len}
use Rattle.std.proofs.lemmas.Iterator.{YieldsList-from_range, YieldsList-from_map}
use Rattle.std.proofs.lemmas.Iterator.Consumers.{sum_by_from_yields_List, fits_by_from_yields_list}
use Rattle.matrix.specs.Layout.{rows}
use Rattle.day_folds.proofs.Counted.{row_entries, rows_sum, rows_most}
use Rattle.day_folds.proofs.folded_count.Goals as goal

pub sum-requires-clause-fits : goal.sum-requires-clause-fits
unfolding row_entries
sum-requires-clause-fits c =
    let a = c.args in
    let m = rows_most c.requires in
    let h = c.requires.base_valid.header in
    fits_by_from_yields_list (row_entries a.base.now a.day.now a.marks.now) (range_with_len 0 (rows a.base.now)) _ _
    (YieldsList-from_map _ (row_entries a.base.now a.day.now a.marks.now)
    (YieldsList-from_range 0 (rows a.base.now) (rows a.base.now) (cc) (omega arith)) c.map.ensures.closure
    (λ x r q k. search rules))
    (omega (arith, m, h.row_range.most))

pub returns : goal.returns
unfolding row_entries
returns c =
    let a = c.args in
    sum_by_from_yields_List (row_entries a.base.now a.day.now a.marks.now) (range_with_len 0 (rows a.base.now)) _ _
    c.sum.ensures.ran
    (YieldsList-from_map _ (row_entries a.base.now a.day.now a.marks.now)
    (YieldsList-from_range 0 (rows a.base.now) (rows a.base.now) (cc) (omega arith)) c.map.ensures.closure
    (λ x r q k. search rules))
    ∙ rows_sum c.requires
