-- `write_back_of` is `write_back_of`.
use Rattle.compute.proofs.write_back_of.Goals as goal

pub returns : goal.returns
returns c = rw (c.flag_set.ensures, c.flag_set-2.ensures, c.flag_set-3.ensures)
