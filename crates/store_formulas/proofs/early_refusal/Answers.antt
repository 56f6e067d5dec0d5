-- `early_refusal` gives the first of 12, 2, 14, 13 and 9 that applies.
use borrow.Author.Tests.{not-true, not-false}
use Rattle.conditions.proofs.Tests.{said_no, said_yes}
use Rattle.formula_texts.proofs.Reader.{answer_is}
use Rattle.store_encoding.specs.Stores.{model_of}
use Rattle.store_formulas.specs.Attempts.{asked}
use Rattle.store_formulas.proofs.Formulas.{early_slot, early_numbers, early_text, early_empty, early_stack, early_none}
use Rattle.store_formulas.proofs.early_refusal.Goals as goal

pub returns-then-target-ge-SLOTS : goal.returns-then-target-ge-SLOTS
returns-then-target-ge-SLOTS c =
    let m = model_of c.args.store.now in
    let x = asked c.args.target c.args.monoid c.args.op c.args.text.now c.args.stack in
    early_slot m x c.if-target-ge-SLOTS.true

pub returns-then-not-semiring_known : goal.returns-then-not-semiring_known
returns-then-not-semiring_known c =
    let m = model_of c.args.store.now in
    let x = asked c.args.target c.args.monoid c.args.op c.args.text.now c.args.stack in
    early_numbers m x c.if-target-ge-SLOTS.false (said_no c.semiring_known.ensures c.if-not-semiring_known.true)

pub returns-then-not-accepts : goal.returns-then-not-accepts
returns-then-not-accepts c =
    let m = model_of c.args.store.now in
    let x = asked c.args.target c.args.monoid c.args.op c.args.text.now c.args.stack in
    early_text m x c.if-target-ge-SLOTS.false
    (said_yes c.semiring_known.ensures c.if-not-semiring_known.false)
    (said_no (answer_is x.text c.accepts.result c.accepts.ensures) c.if-not-accepts.true)

pub returns-then-not-all_held : goal.returns-then-not-all_held
returns-then-not-all_held c =
    let m = model_of c.args.store.now in
    let x = asked c.args.target c.args.monoid c.args.op c.args.text.now c.args.stack in
    early_empty m x c.if-target-ge-SLOTS.false
    (said_yes c.semiring_known.ensures
    c.if-not-semiring_known.false)
    (said_yes (answer_is x.text c.accepts.result
    c.accepts.ensures) c.if-not-accepts.false)
    (not-false _ (said_no c.all_held.ensures c.if-not-all_held.true))

pub returns-then-stack-lt-MIN_STACK_WORDS : goal.returns-then-stack-lt-MIN_STACK_WORDS
returns-then-stack-lt-MIN_STACK_WORDS c =
    let m = model_of c.args.store.now in
    let x = asked c.args.target c.args.monoid c.args.op c.args.text.now c.args.stack in
    early_stack m x c.if-target-ge-SLOTS.false
    (said_yes c.semiring_known.ensures
    c.if-not-semiring_known.false)
    (said_yes (answer_is x.text c.accepts.result
    c.accepts.ensures) c.if-not-accepts.false)
    (not-true _ (said_yes c.all_held.ensures c.if-not-all_held.false))
    c.if-stack-lt-MIN_STACK_WORDS.true

pub returns : goal.returns
returns c =
    let m = model_of c.args.store.now in
    let x = asked c.args.target c.args.monoid c.args.op c.args.text.now c.args.stack in
    early_none m x c.if-target-ge-SLOTS.false
    (said_yes c.semiring_known.ensures
    c.if-not-semiring_known.false)
    (said_yes (answer_is x.text c.accepts.result
    c.accepts.ensures) c.if-not-accepts.false)
    (not-true _ (said_yes c.all_held.ensures c.if-not-all_held.false))
    c.if-stack-lt-MIN_STACK_WORDS.false
