-- `skip_rows` passes over rows without entries, and writes their starts.
use native.Mathlib.Omega.{arith}
use Rattle.plain_results.proofs.Rows.{skipped_next}
use Rattle.plain_results.proofs.skip_rows.Goals as goal

pub loop-i-preserved : goal.loop-i-preserved
loop-i-preserved c =
    skipped_next c.loop-i.invariant (c.is_empty.ensures c.if-not-is_empty.false)
    (omega (arith, c.loop-i-test.true, c.row_count-total.ensures))
    (omega (
      arith,
      c.loop-i-test.true,
      c.row_count-total.ensures,
      c.loop-i.invariant.size,
      c.requires.places,
      c.requires.inputs.output.header.row_range.most,
    ))
