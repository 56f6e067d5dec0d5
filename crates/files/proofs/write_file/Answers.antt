-- `write_file` answers and leaves what `FileWritten` says.
use native.Mathlib.Omega.{arith}
use mathlib.Core.Path.{◌∙◌}
use lib.ListN.{length-take}
use Rattle.conditions.proofs.Tests.{said_no, said_yes}
use Rattle.matrix.proofs.Facts.{matrix_facts}
use Rattle.files.proofs.Reading.{size_most}
use Rattle.files.proofs.Writing.{no_matrix, bytes_short, written}
use Rattle.files.proofs.write_file.Goals as goal

pub returns-then-not-is_valid : goal.returns-then-not-is_valid
returns-then-not-is_valid c = no_matrix _ _ (said_no c.is_valid.ensures c.if-not-is_valid.true)

pub size-size-requires : goal.size-size-requires
size-size-requires c = (matrix_facts _ (said_yes c.is_valid.ensures c.if-not-is_valid.false)).header

pub overflow_mul-size : goal.overflow_mul-size
overflow_mul-size c =
    let m = size_most _ (said_yes c.is_valid.ensures c.if-not-is_valid.false) in omega (arith, c.size-size.ensures)

pub returns-then-bytes-size : goal.returns-then-bytes-size
returns-then-bytes-size c =
    let v = said_yes c.is_valid.ensures c.if-not-is_valid.false in
    bytes_short _ _ v (omega (arith, c.size-size.ensures))

pub slice_bounds-write_bytes-end : goal.slice_bounds-write_bytes-end
slice_bounds-write_bytes-end c =
    let m = matrix_facts _ (said_yes c.is_valid.ensures c.if-not-is_valid.false) in
    simp length-take (omega (arith, c.size-size.ensures))

pub write_bytes-requires : goal.write_bytes-requires
write_bytes-requires c =
    let m = matrix_facts _ (said_yes c.is_valid.ensures c.if-not-is_valid.false) in
    simp length-take (omega (arith, c.size-size.ensures))

pub entry_count-requires : goal.entry_count-requires
entry_count-requires c = (matrix_facts _ (said_yes c.is_valid.ensures c.if-not-is_valid.false)).header

pub returns : goal.returns
returns c =
    let v = said_yes c.is_valid.ensures c.if-not-is_valid.false in
    written _ _ v (omega (arith, c.size-size.ensures)) _ c.entry_count.ensures _
    (c.write_bytes.ensures ∙ rw c.size-size.ensures)
