-- `lent` answers and leaves what `calls::operate` does.
use Rattle.exports.proofs.lent.Goals as goal

pub returns : goal.returns
returns c =
    record { answer = _; packed_is = c.pack.ensures; done = rw c.options_of-options.ensures at c.operate.ensures }
