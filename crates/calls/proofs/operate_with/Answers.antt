-- `operate_with` attempts the decoded call and clears the workspace.
use mathlib.Core.Path.{◌∙◌}
use Rattle.calls.proofs.operate_with.Goals as goal

pub returns : goal.returns
returns c =
    record {
      attempted = rw c.decode-call.ensures at c.attempt-answer.ensures;
      cleared = c.clear.ensures ∙ rw c.attempt-answer.auto.work;
    }
