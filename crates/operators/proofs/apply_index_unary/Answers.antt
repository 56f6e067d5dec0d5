-- `apply_index_unary` gives `index_unary_word`: each arm by the operator that the match found, and by what the wrapping
-- sums give.
use Rattle.operators.proofs.Laws.{row_word, column_word, diagonal_word}
use Rattle.operators.proofs.apply_index_unary.Goals as goal

pub returns-in-RowIndex : goal.returns-in-RowIndex
returns-in-RowIndex c =
    rw c.in-RowIndex.is (row_word c.ranges.i.fits c.ranges.j.fits c.ranges.s.fits)

pub returns-in-ColIndex : goal.returns-in-ColIndex
returns-in-ColIndex c =
    rw c.in-ColIndex.is (column_word c.ranges.i.fits c.ranges.j.fits c.ranges.s.fits)

pub returns-in-DiagIndex : goal.returns-in-DiagIndex
returns-in-DiagIndex c =
    rw c.in-DiagIndex.is (diagonal_word c.ranges.i.fits c.ranges.j.fits c.ranges.s.fits)
