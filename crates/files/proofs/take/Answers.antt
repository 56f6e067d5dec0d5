-- `take` answers and leaves what `Taken` says.
use native.Mathlib.Omega.{arith}
use mathlib.Core.Path.{ap, sym, ◌∙◌}
use Prim.Native.Nat.{ℕ, ◌*◌}
use Rattle.conditions.proofs.Tests.{said_no, said_yes}
use Rattle.matrix.proofs.Facts.{matrix_facts}
use Rattle.files.proofs.Reading.{size_most, not_valid, other_length, no_room_lem, taken}
use Rattle.files.proofs.take.Goals as goal

pub returns-then-not-is_valid : goal.returns-then-not-is_valid
returns-then-not-is_valid c = not_valid _ _ _ (said_no c.is_valid.ensures c.if-not-is_valid.true)

pub size-size-requires : goal.size-size-requires
size-size-requires c = (matrix_facts _ (said_yes c.is_valid.ensures c.if-not-is_valid.false)).header

pub overflow_mul-size : goal.overflow_mul-size
overflow_mul-size c =
    let m = size_most _ (said_yes c.is_valid.ensures c.if-not-is_valid.false) in omega (arith, c.size-size.ensures)

pub returns-then-total-size : goal.returns-then-total-size
returns-then-total-size c =
    let v = said_yes c.is_valid.ensures c.if-not-is_valid.false in
    let e = ap (λ (k : ℕ). k * 4) (sym c.size-size.ensures) in
    other_length _ _ _ v (λ f. c.if-total-size.true (f ∙ e))

pub returns-then-words-size : goal.returns-then-words-size
returns-then-words-size c =
    let v = said_yes c.is_valid.ensures c.if-not-is_valid.false in
    no_room_lem _ _ _ v (omega (arith, c.size-size.ensures)) (omega (arith, c.size-size.ensures))

pub copy_into-requires : goal.copy_into-requires
copy_into-requires c = omega (arith, c.size-size.ensures)

pub entry_count-requires : goal.entry_count-requires
entry_count-requires c = (matrix_facts _ (said_yes c.is_valid.ensures c.if-not-is_valid.false)).header

pub returns : goal.returns
returns c =
    let v = said_yes c.is_valid.ensures c.if-not-is_valid.false in
    taken _ _ _ v (omega (arith, c.size-size.ensures)) (omega (arith, c.size-size.ensures)) c.requires _
    c.entry_count.ensures _ c.copy_into.ensures
