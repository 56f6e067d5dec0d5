-- `compute_rows` takes T where the write-back does.
use Rattle.compute.proofs.Straight.{taken, straight_inputs, straight_computed}
use Rattle.compute.proofs.compute_rows.Goals as goal

pub write_result-requires-clause-inputs : goal.write_result-requires-clause-inputs
write_result-requires-clause-inputs c =
    straight_inputs _ _ _ c.args.mask.now _ _ _ _ _ _ c.requires.prepared c.requires.sources c.requires.flags
    (taken _ _ c.args.first c.args.second _ c.write_back_of.ensures c.is_straight.ensures c.if-is_straight.true)

pub returns-then-is_straight : goal.returns-then-is_straight
returns-then-is_straight c =
    straight_computed _ _ _ _ _ _ _ _ _ _ c.requires.prepared c.requires.sources c.requires.flags
    (taken _ _ c.args.first c.args.second _ c.write_back_of.ensures c.is_straight.ensures c.if-is_straight.true)
    c.write_result.result _ c.write_result.ensures
