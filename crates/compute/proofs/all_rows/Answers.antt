-- `all_rows` leaves the final C in the first region: the rows passed are staged there.
use mathlib.Core.Path.{sym}
use Rattle.compute.proofs.Progress.{progress_start, region_length, result_bounds, progress_done}
use Rattle.compute.proofs.all_rows.Goals as goal

pub loop-i-init : goal.loop-i-init
loop-i-init c =
    progress_start _ _ _ _ _ _ _ _ _ _ _ _ _ _ _ c.requires.prepared c.requires.flags c.requires.sources
    c.row_count-total.ensures c.requires.space c.requires.buffers

pub slice_bounds-finish-end-2 : goal.slice_bounds-finish-end-2
slice_bounds-finish-end-2 c = sym (region_length _ _ _ _ _ _ _ c.loop-i.invariant)

pub finish-requires : goal.finish-requires
finish-requires c =
    rw c.col_count.ensures (result_bounds _ _ _ _ _ _ _ c.loop-i.invariant c.loop-i-test.false)

pub returns : goal.returns
returns c =
    progress_done _ _ _ _ _ _ _ c.loop-i.invariant c.loop-i-test.false _
    (rw c.col_count.ensures at c.finish.ensures) c.finish.auto.work
