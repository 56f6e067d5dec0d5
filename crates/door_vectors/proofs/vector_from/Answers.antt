-- `vector_from` finds the first rounds and writes their vector.
use Rattle.matrix.specs.Layout.{grid_of}
use Rattle.door_vectors.proofs.Vectors.{answer_written}
use Rattle.door_vectors.proofs.vector_from.Goals as goal

pub returns : goal.returns
returns c =
    answer_written (grid_of c.args.hand.now) c.args.allowance c.first_rounds.ensures c.write_opened.ensures
