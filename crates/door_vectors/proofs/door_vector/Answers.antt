-- `door_vector` lends a word for each key and each door.
use native.Mathlib.Omega.{arith}
use Rattle.door_vectors.proofs.Vectors.{prefix_length}
use Rattle.door_vectors.proofs.door_vector.Goals as goal

pub slice_bounds-vector_from-end : goal.slice_bounds-vector_from-end
slice_bounds-vector_from-end c =
    prefix_length _ _
    (omega (arith, c.row_count-key_count.ensures, c.requires.ready.locks_valid.header.row_range.most))

pub slice_bounds-vector_from-end-2 : goal.slice_bounds-vector_from-end-2
slice_bounds-vector_from-end-2 c =
    prefix_length _ _
    (omega (arith, c.col_count-door_count.ensures, c.requires.ready.locks_valid.header.col_range.most))
