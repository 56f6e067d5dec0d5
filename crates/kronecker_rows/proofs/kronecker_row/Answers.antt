-- `kronecker_row` leaves the row of the product: the blocks of the entries before p are written.
use native.Mathlib.Omega.{arith}
use Rattle.kronecker_rows.proofs.Blocking.{blocking_start, block_within, block_small, blocking_room, blocking_step}
use Rattle.kronecker_rows.proofs.kronecker_row.Goals as goal

pub loop-p-init : goal.loop-p-init
loop-p-init c = blocking_start c.requires.blocks_le_max_cols_2 _ _ _ _ _

pub add_block-e-requires : goal.add_block-e-requires
add_block-e-requires c =
    let few = c.requires.blocks_le_max_cols_1 in
    let row = c.requires.blocks_le_max_cols_2 in
    let h = c.loop-p.invariant in
    let here = c.loop-p-test.true in
    let within = block_within row h here in
    record {
      row = c.requires.blocks_le_max_cols_3;
      base_in_bounds = (blocking_room row h here, block_small row h here few.0 few.1);
      places_in_bounds = (
        omega (arith, h.long_cols, c.requires.places_in_bounds),
        omega (arith, h.long_vals, c.requires.places_in_bounds),
      );
    }

pub loop-p-preserved : goal.loop-p-preserved
loop-p-preserved c =
    blocking_step c.requires.blocks_le_max_cols_2 c.loop-p.invariant c.loop-p-test.true c.add_block-e.auto.oc
    c.add_block-e.auto.ov c.add_block-e.ensures
