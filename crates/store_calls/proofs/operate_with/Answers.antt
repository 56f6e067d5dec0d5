-- `operate_with` attempts the decoded call on its roles and clears the workspace.
use lib.ListN.{length}
use Rattle.model.specs.Calls.{OperationCall}
use Rattle.store_calls.proofs.Operations.{performed_run}
use Rattle.store_calls.proofs.operate_with.Goals as goal

-- what is asked
abbrev asked : goal.After-slice_known-5-1 → OperationCall
asked p = record {
  options = p.args.options;
  verb = p.args.verb;
  named = p.args.named;
  is = p.args.is.now;
  js = p.args.js.now;
  work = length p.args.work.now;
}

pub returns-clause-performed : goal.returns-clause-performed
returns-clause-performed c =
    performed_run _ (asked c) _ _ _ _ c.decode-call.ensures c.roles_of-roles.ensures c.attempt-answer.ensures
