-- `final_row` is a row of the final C: the row of T, written back.
use native.Mathlib.Omega.{arith}
use Prim.Native.Nat.{◌≤◌}
use mathlib.Core.Path.{◌≡◌}
use mathlib.Core.Bool.{true}
use lib.ListN.{length, length-take}
use Rattle.rows.proofs.Holds.{holds_most}
use Rattle.operations.specs.Calls.{transpose_first, transpose_second, has_second, has_lists}
use Rattle.extract_rows.specs.Indices.{Inverses}
use Rattle.sources.specs.Sources.{second_region, Source}
use Rattle.sources.proofs.Sources.{first_read, second_read}
use Rattle.compute.proofs.Prepared.{inverses_read}
use Rattle.compute.proofs.FinalRow.{row_inputs, row_buffers, mask_there, old_row, final_row}
use Rattle.compute.proofs.final_row.Goals as goal

-- the inputs as they are read
first_source : (q : goal.After-row_inside-arg-2-1)
    → Source (transpose_first q.args.call) q.args.a.now q.choose-x.result.now
first_source q =
    first_read _ _ _ _ _ q.choose-x.ensures q.requires.flags.0 q.requires.sources.first

second_held : (q : goal.After-row_inside-arg-2-1) → has_second q.args.call.operation ≡ true
    → Source (transpose_second q.args.call) q.args.b.now q.choose-y.result.now
second_held q h =
    let a = q.args in
    second_read a.call a.second a.b.now (second_region a.work.now) _ q.choose-y.ensures q.requires.flags.1
    q.requires.sources.second h

inverses_held : (q : goal.After-row_inside-arg-2-1) → has_lists q.args.call.operation ≡ true
    → Inverses q.args.is.now q.args.js.now q.choose-y.result.now
inverses_held q h =
    let a = q.args in
    inverses_read a.call a.second a.is.now a.js.now a.b.now (second_region a.work.now) _
    q.choose-y.ensures q.requires.flags.1 q.requires.prepared.inverses h

-- the inputs as they are read
first_source_4 : (q : goal.After-slice_known-6-1)
    → Source (transpose_first q.args.call) q.args.a.now q.choose-x.result.now
first_source_4 q =
    first_read _ _ _ _ _ q.choose-x.ensures q.requires.flags.0 q.requires.sources.first

second_held_4 : (q : goal.After-slice_known-6-1) → has_second q.args.call.operation ≡ true
    → Source (transpose_second q.args.call) q.args.b.now q.choose-y.result.now
second_held_4 q h =
    let a = q.args in
    second_read a.call a.second a.b.now (second_region a.work.now) _ q.choose-y.ensures q.requires.flags.1
    q.requires.sources.second h

-- the row of T lies within its buffers
row_fits : (s : goal.After-slice_known-6-1) → let x = s.args in
    (s.row_inside-t.result ≤ length x.tc.now) × (s.row_inside-t.result ≤ length x.tv.now)
row_fits s =
    let b =
    row_buffers _ _ _ _ _ _ _ _ _ s.requires.prepared (first_source_4 s) (second_held_4 s) _ _ _ _ s.requires.buffers in
    let h = holds_most s.row_inside-t.ensures.holds in
    (omega arith, omega arith)

-- the inputs as they are read
first_source_2 : (q : goal.After-write_row-arg-2-1)
    → Source (transpose_first q.args.call) q.args.a.now q.choose-x.result.now
first_source_2 q =
    first_read _ _ _ _ _ q.choose-x.ensures q.requires.flags.0 q.requires.sources.first

second_held_2 : (q : goal.After-write_row-arg-2-1) → has_second q.args.call.operation ≡ true
    → Source (transpose_second q.args.call) q.args.b.now q.choose-y.result.now
second_held_2 q h =
    let a = q.args in
    second_read a.call a.second a.b.now (second_region a.work.now) _ q.choose-y.ensures q.requires.flags.1
    q.requires.sources.second h

-- the inputs as they are read
first_source_3 : (q : goal.After-slice_known-8-1)
    → Source (transpose_first q.args.call) q.args.a.now q.choose-x.result.now
first_source_3 q =
    first_read _ _ _ _ _ q.choose-x.ensures q.requires.flags.0 q.requires.sources.first

second_held_3 : (q : goal.After-slice_known-8-1) → has_second q.args.call.operation ≡ true
    → Source (transpose_second q.args.call) q.args.b.now q.choose-y.result.now
second_held_3 q h =
    let a = q.args in
    second_read a.call a.second a.b.now (second_region a.work.now) _ q.choose-y.ensures q.requires.flags.1
    q.requires.sources.second h

pub row_inside-t-requires : goal.row_inside-t-requires
row_inside-t-requires c =
    record {
      row_inputs = row_inputs _ _ _ _ _ _ _ _ _ c.requires.prepared (first_source c) (second_held c) (inverses_held c) _ c.requires.row;
      buffers = row_buffers _ _ _ _ _ _ _ _ _ c.requires.prepared (first_source c) (second_held c) _ _ _ _ c.requires.buffers;
      mask_there = mask_there _ _ _ _ _ _ _ _ _ c.requires.prepared (first_source c) (second_held c) _ c.write_back_of-w.ensures _ c.requires.row;
    }

pub slice_bounds-write_row-end-3 : goal.slice_bounds-write_row-end-3
slice_bounds-write_row-end-3 c = let f = row_fits c in omega arith

pub slice_bounds-write_row-end-4 : goal.slice_bounds-write_row-end-4
slice_bounds-write_row-end-4 c = let f = row_fits c in simp length-take (omega arith)

pub write_row-requires : goal.write_row-requires
write_row-requires c =
    let k = c.requires.prepared.inputs.output.header.col_range.most in
    record {
      old_row = old_row _ _ _ _ _ _ _ _ _ c.requires.prepared (first_source_2 c) (second_held_2 c) _ _ _ _ c.requires.row _ c.write_back_of-w.ensures c.row_inside-t.ensures;
      c_in_bounds = (omega arith, omega arith);
    }

pub returns : goal.returns
returns c =
    final_row _ _ _ _ _ _ _ _ _ c.requires.prepared (first_source_3 c) (second_held_3 c) _ _ _ _ c.requires.row _
    c.write_back_of-w.ensures c.row_inside-t.ensures _ _ _ c.write_row.ensures
