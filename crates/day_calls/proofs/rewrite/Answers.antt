-- `rewrite` looks at both matrices before it writes either.
use native.Mathlib.Omega.{arith}
use Rattle.matrix.proofs.Facts.{row_span}
use Rattle.day_marks.proofs.Sizes.{marks_size}
use Rattle.day_requests.proofs.Readiness.{rewrite_ready}
use Rattle.day_calls.proofs.Replacing.{back_vector, counted_with, with_replaceable, with_written}
use Rattle.day_calls.proofs.Rewrites.{rewrite_many, rewrite_short, rewrite_unmarked, rewrite_done}
use Rattle.day_calls.proofs.rewrite.Goals as goal

pub entry_count-requires : goal.entry_count-requires
entry_count-requires c = (rewrite_ready _ _ _ _ c.requires).new_valid.header

pub count_with-n-requires-clause-matrix : goal.count_with-n-requires-clause-matrix
count_with-n-requires-clause-matrix c = (rewrite_ready _ _ _ _ c.requires).back.over.day_valid

pub count_with-n-requires-clause-row : goal.count_with-n-requires-clause-row
count_with-n-requires-clause-row c = (rewrite_ready _ _ _ _ c.requires).back.row

pub count_with-n-requires-clause-few : goal.count_with-n-requires-clause-few
count_with-n-requires-clause-few c = let m = (rewrite_ready _ _ _ _ c.requires).new_valid.header in omega arith

pub returns-then-n-gt-MAX_ENTRIES : goal.returns-then-n-gt-MAX_ENTRIES
returns-then-n-gt-MAX_ENTRIES c =
    let r = rewrite_ready _ _ _ _ c.requires in
    let e = counted_with r c.count_with-n.ensures c.entry_count.ensures in
    rewrite_many _ _ _ _ c.requires (omega arith)

pub bounds-day-3 : goal.bounds-day-3
bounds-day-3 c = let m = (rewrite_ready _ _ _ _ c.requires).back.over.day_valid in omega arith

pub returns-then-day-n : goal.returns-then-day-n
returns-then-day-n c =
    let r = rewrite_ready _ _ _ _ c.requires in
    let e = counted_with r c.count_with-n.ensures c.entry_count.ensures in
    rewrite_short _ _ _ _ c.requires (omega arith) (omega arith)

pub entry_at-entry-requires-clause-fact_1 : goal.entry_at-entry-requires-clause-fact_1
entry_at-entry-requires-clause-fact_1 c = (rewrite_ready _ _ _ _ c.requires).back.over.marks_valid

pub entry_at-entry-requires-clause-fact_2 : goal.entry_at-entry-requires-clause-fact_2
entry_at-entry-requires-clause-fact_2 c = let o = (rewrite_ready _ _ _ _ c.requires).back.over.one_row in omega arith

pub size-requires : goal.size-requires
size-requires c = (rewrite_ready _ _ _ _ c.requires).back.over.marks_valid.header

pub returns-then-marks-size : goal.returns-then-marks-size
returns-then-marks-size c =
    let r = rewrite_ready _ _ _ _ c.requires in
    let e = counted_with r c.count_with-n.ensures c.entry_count.ensures in
    let k = marks_size (back_vector r.back) c.entry_at-entry.ensures.fact_1 in
    rewrite_unmarked _ _ _ _ c.requires (omega arith) (omega arith) (omega arith)

pub row_columns-requires : goal.row_columns-requires
row_columns-requires c =
    let r = rewrite_ready _ _ _ _ c.requires in
    (r.new_valid.header, row_span _ r.new_valid.starts 0 (omega (arith, r.new_row)))

pub row_values-requires : goal.row_values-requires
row_values-requires c =
    let r = rewrite_ready _ _ _ _ c.requires in
    (r.new_valid.header, row_span _ r.new_valid.starts 0 (omega (arith, r.new_row)))

pub replace_row-requires : goal.replace_row-requires
replace_row-requires c =
    let r = rewrite_ready _ _ _ _ c.requires in
    let e = counted_with r c.count_with-n.ensures c.entry_count.ensures in
    with_replaceable r _ _ c.row_columns.ensures.words c.row_values.ensures.words (omega arith) (omega arith)

pub put_mark-requires-clause-vector : goal.put_mark-requires-clause-vector
put_mark-requires-clause-vector c = back_vector (rewrite_ready _ _ _ _ c.requires).back

pub returns : goal.returns
returns c =
    let r = rewrite_ready _ _ _ _ c.requires in
    let e = counted_with r c.count_with-n.ensures c.entry_count.ensures in
    let k = marks_size (back_vector r.back) c.entry_at-entry.ensures.fact_1 in
    let d = with_written r _ _ c.row_columns.ensures.words c.row_values.ensures.words _ c.replace_row.ensures in
    rewrite_done _ _ _ _ c.requires (omega arith) (omega arith) (omega arith) _ _ _ e d c.put_mark.ensures
