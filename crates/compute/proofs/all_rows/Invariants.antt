-- `all_rows` leaves the final C in the first region: the rows passed are staged there.
use Rattle.compute.specs.Computing.{Progress}
use Rattle.compute.proofs.all_rows.Given as goal

abbrev pub invariant-loop-i : goal.invariant-loop-i
invariant-loop-i l =
    Progress l.call l.a l.b l.mask l.c l.is l.js l.first l.second l.work l.tc l.tv l.oc l.ov l.total l.n l.i
