-- `commit` puts the words of the grid at the front into the slot, if there is room.
use Rattle.std.proofs.Common.{sym, refl, arith}
use lib.Seq.{length-take-le}
use Rattle.store_formulas.proofs.Commits.{standing_header, size_small, size_there, committed_refused, committed}
use Rattle.store_formulas.proofs.commit.Goals as goal

pub size-size-requires : goal.size-size-requires
size-size-requires c = standing_header c.requires.some_grid.1

pub slice_bounds-put-end : goal.slice_bounds-put-end
slice_bounds-put-end c =
    sym (length-take-le c.size-size.result c.args.stack.now
    (omega (arith, c.size-size.ensures, size_there c.requires.some_grid.1)))

pub put-requires : goal.put-requires
put-requires c =
    let t = length-take-le c.size-size.result c.args.stack.now
    (omega (arith, c.size-size.ensures, size_there c.requires.some_grid.1)) in
    let m = size_small c.requires.some_grid.1 in
    record {
      sections_1 = c.requires.store.sections;
      sections_2 = c.requires.slot;
      end_value_1 = c.requires.ends;
      end_value_2 = c.requires.store.most;
      end_value_3 = omega (arith, c.size-size.ensures);
    }

pub entry_count-requires : goal.entry_count-requires
entry_count-requires c = standing_header c.requires.some_grid.1

pub returns-then-put : goal.returns-then-put
returns-then-put c =
    committed _ _ _ _ c.size-size.ensures c.put.ensures _ c.entry_count.ensures c.if-put.true

pub returns-else-put : goal.returns-else-put
returns-else-put c = committed_refused _ _ _ _ c.size-size.ensures c.put.ensures _ c.if-put.false refl
