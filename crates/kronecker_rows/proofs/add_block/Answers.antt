-- `add_block` adds the block of one entry: those of its entries before p are written.
use Prim.Native.Nat.{◌+◌}
use native.Mathlib.Omega.{arith}
use mathlib.Core.Path.{◌≡◌}
use Rattle.kronecker_rows.proofs.Adding.{adding_start, adding_step}
use Rattle.kronecker_rows.proofs.add_block.Goals as goal

pub loop-p-init : goal.loop-p-init
loop-p-init c =
    let none : c.args.count + 0 ≡ c.args.count = omega arith in
    rw none (adding_start c.requires.row _ _ _ _ _ _ c.requires.base_in_bounds.0)

pub loop-p-preserved : goal.loop-p-preserved
loop-p-preserved c =
    let next : c.args.count + (c.loop-p.p + 1) ≡ c.args.count + c.loop-p.p + 1 = omega arith in
    rw (c.apply_binary.ensures, next)
    (adding_step c.requires.row c.loop-p.invariant c.loop-p-test.true c.requires.places_in_bounds.0
    c.requires.places_in_bounds.1)
