-- `lent_by_places` answers and leaves what `calls::operate_with` does.
use Rattle.exports.proofs.lent_by_places.Goals as goal

pub returns : goal.returns
returns c =
    record { answer = _; packed_is = c.pack.ensures; done = rw c.options_of-options.ensures at c.operate_with.ensures }
