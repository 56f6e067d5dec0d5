-- `add_block` adds the block of one entry: those of its entries before p are written.
use Prim.Native.Nat.{◌+◌}
use Rattle.kronecker_rows.proofs.Adding.{Adding}
use Rattle.kronecker_rows.proofs.add_block.Given as goal

abbrev pub invariant-loop-p : goal.invariant-loop-p
invariant-loop-p l =
    Adding l.op l.x l.base l.places l.columns l.values l.initial.oc l.initial.ov l.count l.oc l.ov l.p (l.count + l.p)
