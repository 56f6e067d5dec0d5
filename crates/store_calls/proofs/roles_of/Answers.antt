-- `roles_of` chooses the slots of the roles that a call may lack.
use Rattle.store_calls.proofs.Roles.{roles_made}
use Rattle.store_calls.proofs.roles_of.Goals as goal

pub returns : goal.returns
returns c =
    let x = c.args in
    roles_made x.call x.named _ _ _
    c.has_second.ensures c.choose.ensures c.choose-2.ensures
