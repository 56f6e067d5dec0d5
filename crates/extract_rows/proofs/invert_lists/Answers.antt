-- `invert_lists` leaves both inverses, one behind the other.
use native.Mathlib.Omega.{arith}
use mathlib.Core.Path.{sym}
use lib.Seq.{length-take-le}
use Rattle.limits.specs.Limits.{max_cols}
use Rattle.extract_rows.proofs.Both.{both_long, first_long, second_zeros, first_part, second_part}
use Rattle.extract_rows.proofs.invert_lists.Goals as goal

pub slice_bounds-invert-end : goal.slice_bounds-invert-end
slice_bounds-invert-end c = omega (arith, both_long max_cols c.args.out.now c.requires.fact_3)

pub slice_bounds-invert-end-2 : goal.slice_bounds-invert-end-2
slice_bounds-invert-end-2 c =
    let l = both_long max_cols c.args.out.now c.requires.fact_3 in
    sym (length-take-le max_cols c.args.out.now (omega arith))

pub slice_bounds-invert-count : goal.slice_bounds-invert-count
slice_bounds-invert-count c =
    omega (arith, first_long max_cols c.args.out.now c.requires.fact_3 c.invert.new.out c.invert.ensures.sized)

pub invert-requires-2 : goal.invert-requires-2
invert-requires-2 c =
    record {
      indices = c.requires.fact_1;
      zeros = second_zeros max_cols c.args.out.now c.requires.fact_3 c.invert.new.out c.invert.ensures.sized;
    }

pub returns : goal.returns
returns c =
    let out = c.args.out.now in
    let columns = c.invert.new.out in
    let sized = c.invert.ensures.sized in
    let rows = c.invert-2.new.out in
    let sized-2 = c.invert-2.ensures.sized in
    record {
      columns = rw (first_part max_cols out c.requires.fact_3 columns sized rows sized-2) c.invert.ensures;
      rows = rw (second_part max_cols out c.requires.fact_3 columns sized rows sized-2) c.invert-2.ensures;
    }
