-- `place_row` puts the entries of row i into the next slots of their columns: after k turns, the first k of them.
use native.Mathlib.Omega.{arith}
use lib.ListN.{length-set}
use Rattle.transpose.proofs.Placing.{row_source, placing_start, placing_turn, placing_step}
use Rattle.transpose.proofs.place_row.Goals as goal

pub loop-k-init : goal.loop-k-init
loop-k-init c =
    placing_start
    (row_source _ c.requires.row_span c.requires.row c.row_columns-columns.ensures.words
    c.row_values-values.ensures.words) c.requires.placed

pub bounds-sections-p : goal.bounds-sections-p
bounds-sections-p c =
    let t = placing_turn (row_source _ c.requires.row_span c.requires.row c.row_columns-columns.ensures.words
    c.row_values-values.ensures.words) c.requires.room c.loop-k.invariant c.loop-k-test.true in
    omega arith

pub bounds-sections-p-in-loop-k : goal.bounds-sections-p-in-loop-k
bounds-sections-p-in-loop-k c =
    let t = placing_turn (row_source _ c.requires.row_span c.requires.row c.row_columns-columns.ensures.words
    c.row_values-values.ensures.words) c.requires.room c.loop-k.invariant c.loop-k-test.true in
    simp length-set (omega arith)

pub overflow_add-next : goal.overflow_add-next
overflow_add-next c =
    let t = placing_turn (row_source _ c.requires.row_span c.requires.row c.row_columns-columns.ensures.words
    c.row_values-values.ensures.words) c.requires.room c.loop-k.invariant c.loop-k-test.true in
    omega arith

pub loop-k-preserved : goal.loop-k-preserved
loop-k-preserved c =
    placing_step
    (row_source _ c.requires.row_span c.requires.row c.row_columns-columns.ensures.words
    c.row_values-values.ensures.words) c.requires.room c.loop-k.invariant c.loop-k-test.true
