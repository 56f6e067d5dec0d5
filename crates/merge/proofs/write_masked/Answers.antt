-- `write_masked` leaves the row written back: `Merged` holds at each column where one of the two rows has an entry.
use native.Mathlib.Omega.{arith}
use Prim.Native.Nat.{ℕ, ◌+◌, ◌≤◌, min}
use mathlib.Core.Path.{◌≡◌}
use mathlib.Core.List.{List}
use lib.ListN.{get_or}
use Rattle.merge.specs.Ways.{written_row}
use Rattle.merge.proofs.Quiet.{row_quiet}
use Rattle.merge.proofs.Merging.{Merged, merged_start, merged_put, merged_up, merged_on}
use Rattle.row_pairs.proofs.Pairs.{paired_room, paired_done}
use Rattle.merge.proofs.write_masked.Goals as goal

-- the columns before q are done
abbrev Done : goal.After-next_column-q-in-loop-q → List ℕ → List ℕ → ℕ → ℕ → ℕ → ℕ → ℕ → Type 0
Done s oc ov m i k e q =
    let a = s.args in
    Merged (written_row a.w a.mc.now a.mv.now a.cc.now a.cv.now a.tc.now a.tv.now)
    a.places a.mc.now a.cc.now a.tc.now a.oc.now a.ov.now oc ov m i k e q

-- on to the next column with an entry
onward : (s : goal.After-next_column-q-in-loop-q) {oc ov : List ℕ} {m i k e p q : ℕ} → Done s oc ov m i k e p
    → q ≡ min (get_or s.args.cc.now i s.args.places) (get_or s.args.tc.now k s.args.places)
    → (p ≤ q) × Done s oc ov m i k e q
onward s h next =
    let a = s.args in
    let f = row_quiet a.w a.mc.now a.mv.now a.cc.now a.cv.now a.tc.now a.tv.now in (
      merged_up s.requires.mask_row.rises s.requires.old_row s.requires.new_row f h next,
      merged_on s.requires.mask_row.rises s.requires.old_row s.requires.new_row f h next,
    )

-- a turn does column q
turn : (c : goal.After-next_column-q-in-loop-q)
    → Done c c.put_cell-e.new.oc c.put_cell-e.new.ov
    c.seek-m.result c.past-i.result c.past-k.result
    c.put_cell-e.result (c.loop-q.q + 1)
turn c =
    merged_put c.loop-q.invariant c.loop-q-test.true c.requires.output_room.0 c.requires.output_room.1
    c.requires.mask_row.rises
    c.write_back_at-cell.ensures c.put_cell-e.ensures c.put_cell-e.auto.oc c.put_cell-e.auto.ov c.seek-m.ensures
    c.past-i.ensures c.past-k.ensures

pub loop-q-init : goal.loop-q-init
loop-q-init c =
    merged_on c.requires.mask_row.rises c.requires.old_row c.requires.new_row (row_quiet _ _ _ _ _ _ _)
    (merged_start _ _ _ _ _ _ _) c.next_column-q.ensures

pub seek-m-requires : goal.seek-m-requires
seek-m-requires c =
    record {
      rises = c.requires.mask_row.rises;
      i_bound = c.loop-q.invariant.mask;
    }

pub write_back_at-cell-requires : goal.write_back_at-cell-requires
write_back_at-cell-requires c =
    let p = c.loop-q.invariant.pair in
    let m = c.requires.mask_row in
    let o = c.requires.old_row in
    let n = c.requires.new_row in
    record {
      at_mask = record { even = m.even; rises = m.rises; stands = c.seek-m.ensures };
      at_old = record { even = o.even; rises = o.rises; stands = p.first };
      at_new = record { even = n.even; rises = n.rises; stands = p.second };
    }

pub put_cell-e-requires : goal.put_cell-e-requires
put_cell-e-requires c =
    paired_room c.loop-q.invariant.pair c.loop-q-test.true c.requires.output_room.0 c.requires.output_room.1

pub past-i-requires : goal.past-i-requires
past-i-requires c =
    record {
      rises = c.requires.old_row.rises;
      stands = c.loop-q.invariant.pair.first;
    }

pub past-k-requires : goal.past-k-requires
past-k-requires c =
    record {
      rises = c.requires.new_row.rises;
      stands = c.loop-q.invariant.pair.second;
    }

pub loop-q-smaller : goal.loop-q-smaller
loop-q-smaller c =
    omega (arith, (onward c (turn c) c.next_column-q-in-loop-q.ensures).0, c.loop-q-test.true)

pub loop-q-preserved : goal.loop-q-preserved
loop-q-preserved c = (onward c (turn c) c.next_column-q-in-loop-q.ensures).1

pub shape_of-oc : goal.shape_of-oc
shape_of-oc c = c.loop-q.invariant.pair.columns_kept

pub shape_of-ov : goal.shape_of-ov
shape_of-ov c = c.loop-q.invariant.pair.values_kept

pub returns : goal.returns
returns c = paired_done c.loop-q.invariant.pair c.loop-q-test.false
