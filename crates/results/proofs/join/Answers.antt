-- `join` leaves `joined`.
use mathlib.Core.Path.{◌∙◌}
use Rattle.results.proofs.Joined.{joined_made}
use Rattle.results.proofs.join.Goals as goal

pub returns : goal.returns
returns c =
    let a = c.args in
    c.write_header.ensures
    ∙ joined_made a.rows a.cols a.starts.now a.values.now _ _ _ c.copy_into.ensures c.copy_into-2.ensures
