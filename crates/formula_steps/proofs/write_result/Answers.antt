-- `write_result` gathers the rows, makes the words whole and moves them to the front.
use native.Mathlib.Omega.{arith}
use mathlib.Core.Path.{refl, ◌∙◌}
use Rattle.formula_steps.proofs.Result.{
  staging_start,
  stepped_full,
  result_bounds,
  tail_starts,
  size_fits,
  move_fits,
  area_kept,
  stepped_done,
}
use Rattle.formula_steps.proofs.write_result.Goals as goal

pub all_rows-n-requires : goal.all_rows-n-requires
all_rows-n-requires c = staging_start c.requires _ refl

pub returns-then-n : goal.returns-then-n
returns-then-n c =
    let k = c.all_rows-n.auto.area in
    stepped_full c.requires c.all_rows-n.ensures k c.if-n.true _

pub slice_bounds-finish-count : goal.slice_bounds-finish-count
slice_bounds-finish-count c =
    let k = c.all_rows-n.auto.area in
    tail_starts c.requires c.all_rows-n.ensures k c.if-n.false

pub slice_bounds-finish-start : goal.slice_bounds-finish-start
slice_bounds-finish-start c =
    let k = c.all_rows-n.auto.area in
    tail_starts c.requires c.all_rows-n.ensures k c.if-n.false

pub finish-requires : goal.finish-requires
finish-requires c =
    let k = c.all_rows-n.auto.area in
    result_bounds c.requires c.all_rows-n.ensures k c.if-n.false

pub overflow_add-res : goal.overflow_add-res
overflow_add-res c =
    let k = c.all_rows-n.auto.area in
    omega (arith, size_fits c.requires c.all_rows-n.ensures k c.if-n.false)

pub overflow_add-res-2 : goal.overflow_add-res-2
overflow_add-res-2 c =
    let k = c.all_rows-n.auto.area in
    omega (arith, size_fits c.requires c.all_rows-n.ensures k c.if-n.false)

pub overflow_add-res-3 : goal.overflow_add-res-3
overflow_add-res-3 c =
    let k = c.all_rows-n.auto.area in
    omega (arith, size_fits c.requires c.all_rows-n.ensures k c.if-n.false)

pub move_down-requires : goal.move_down-requires
move_down-requires c =
    let k = c.all_rows-n.auto.area in (
      omega arith,
      move_fits c.requires c.all_rows-n.ensures k c.if-n.false _
          c.finish.ensures c.finish.auto.work,
    )

pub shape_of-area : goal.shape_of-area
shape_of-area c =
    let k = c.all_rows-n.auto.area in
    c.move_down.auto.words
    ∙ area_kept c.requires c.all_rows-n.ensures k
    c.if-n.false _ c.finish.ensures
    c.finish.auto.work

pub returns : goal.returns
returns c =
    let k = c.all_rows-n.auto.area in
    stepped_done c.requires c.all_rows-n.ensures k
    c.if-n.false _ c.finish.ensures
    c.finish.auto.work _
    c.move_down.ensures
