-- `write_empty` writes the empty grid: zeros, and the header of its shape.
use native.Mathlib.Omega.{arith}
use Prim.Native.Nat.{ℕ, ◌+◌}
use mathlib.Core.Path.{◌≡◌, ◌∙◌}
use lib.ListN.{length, take, drop, length-take}
use lib.Seq.{length-take-le}
use Rattle.matrix.specs.Layout.{starts_at, size_of}
use Rattle.create.proofs.Empty.{empty_written}
use Rattle.create.proofs.write_empty.Goals as goal

pub slice_bounds-clear-end-2 : goal.slice_bounds-clear-end-2
slice_bounds-clear-end-2 c = simp length-take (omega arith)

pub returns : goal.returns
returns c =
    let a = c.args in
    let w = a.buffer.now in
    let n : ℕ = a.rows + (starts_at + 3) in
    let size : n ≡ size_of a.rows 0 = omega arith in
    let cleared : length (take n w) ≡ n = length-take-le n w (omega arith) in
    c.write_header.ensures
    ∙ rw (c.clear.ensures, cleared, size) (empty_written a.rows a.cols (drop (size_of a.rows 0) w))
