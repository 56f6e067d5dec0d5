-- `put_byte` appends one byte.
use Rattle.append.proofs.Appending.{appended_one}
use Rattle.append.proofs.put_byte.Goals as goal

pub returns : goal.returns
returns c = appended_one _ _ _ c.requires
