-- `write_folded` stages the rows in words of its own, finishes them and copies them.
use native.Mathlib.Omega.{arith}
use mathlib.Core.Path.{◌∙◌}
use Rattle.day_folds.proofs.Written.{front_held, front_copied}
use Rattle.day_folds.proofs.write_folded.Goals as goal

pub returns : goal.returns
returns c =
    let h = c.requires.pair.base_valid.header in
    c.copy_into.ensures
    ∙ front_copied _ _ _
    (front_held _ _ _ _ _ _ _ c.requires.entries c.row_count-r.ensures c.col_count-c.ensures (omega arith)
    h.row_range.most h.col_range.most c.requires.few (omega arith) c.stage_rows.ensures c.finish.ensures)
