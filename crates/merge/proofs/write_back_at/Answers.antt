-- `write_back_at` gives the final cell: `write_back` of what the three rows have at column q.
use Rattle.merge.proofs.write_back_at.Goals as goal

pub returns : goal.returns
returns c = cc
