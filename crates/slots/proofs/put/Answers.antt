-- `put` tests the room, changes the count of the slot and copies the words.
use native.Mathlib.Omega.{arith}
use Prim.Native.Nat.{ℕ, ◌+◌}
use mathlib.Core.Path.{ap}
use Rattle.conditions.proofs.Tests.{said_no, said_yes}
use Rattle.slots.proofs.Filled.{filling, filled_not, resizable, slot_within, filled}
use Rattle.slots.proofs.put.Goals as goal

pub returns-then-not-fits : goal.returns-then-not-fits
returns-then-not-fits c =
    let r = c.requires in
    filled_not (filling r.sections_1 r.sections_2 r.end_value_1 r.end_value_2) c.args.held.now
    (said_no c.fits.ensures c.if-not-fits.true)

pub overflow_add-from : goal.overflow_add-from
overflow_add-from c =
    let r = c.requires in
    let w = slot_within (filling r.sections_1 r.sections_2 r.end_value_1 r.end_value_2) c.args.held.now
    (said_yes c.fits.ensures c.if-not-fits.false) in
    omega (arith, r.end_value_2)

pub resize-requires : goal.resize-requires
resize-requires c =
    let r = c.requires in
    resizable (filling r.sections_1 r.sections_2 r.end_value_1 r.end_value_2) c.args.held.now
    (said_yes c.fits.ensures c.if-not-fits.false)

pub copy_into-requires : goal.copy_into-requires
copy_into-requires c =
    let r = c.requires in
    let w = slot_within (filling r.sections_1 r.sections_2 r.end_value_1 r.end_value_2) c.args.held.now
    (said_yes c.fits.ensures c.if-not-fits.false) in
    omega (arith, c.resize.auto.store)

pub returns : goal.returns
returns c =
    let r = c.requires in
    filled (filling r.sections_1 r.sections_2 r.end_value_1 r.end_value_2) c.args.held.now
    (said_yes c.fits.ensures c.if-not-fits.false) _ _ _ (ap (λ (a : ℕ). a + 1) c.find-from.ensures)
    c.resize.ensures c.copy_into.ensures
