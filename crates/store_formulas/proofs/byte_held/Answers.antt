-- `byte_held` looks at the slot of a digit.
use Rattle.std.proofs.Common.{rules, List, ℕ, eqb, not, length, ap, sym, ◌∙◌}
use Rattle.slots.specs.Sections.{slot_at}
use Rattle.store_formulas.proofs.Bytes.{byte_other, byte_digit}
use Rattle.store_formulas.proofs.byte_held.Goals as goal

pub returns-then-not-contains : goal.returns-then-not-contains
returns-then-not-contains c =
    let e = c.if-not-contains.true in
    rw (e, byte_other c.args.store.now c.args.x (λ l k. search rules))

pub returns-else-not-contains : goal.returns-else-not-contains
returns-else-not-contains c =
    let d = byte_digit c.args.store.now c.args.x (search rules) (search rules) in
    ap not (c.is_empty.ensures
    ∙ ap (λ (z : List ℕ). eqb (length z) 0) (c.contents.ensures.words ∙ ap (slot_at c.args.store.now) c.from.ensures)
    ∙ sym d)
