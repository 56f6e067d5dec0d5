-- `slot_total` answers 13 or the total of the contents.
use Prim.Native.Nat.{ℕ}
use mathlib.Core.Path.{sym, ap, ◌∙◌}
use mathlib.Core.Bool.{false≢true}
use mathlib.Core.List.{List}
use lib.Dec.{eqb}
use lib.ListN.{length}
use borrow.Author.Tests.{eq-eqb}
use Rattle.answers.specs.Numbers.{number_answer}
use Rattle.matrix.specs.Layout.{grid_of}
use Rattle.reductions.specs.Reductions.{grid_total}
use Rattle.slots.proofs.Facts.{held_facts}
use Rattle.store_reduce.proofs.slot_total.Goals as goal

pub returns-then-is_empty : goal.returns-then-is_empty
returns-then-is_empty c =
    let e = ap (λ (x : List ℕ). eqb (length x) 0) (sym c.contents-words.ensures.words) ∙ sym c.if-is_empty.ensures in
    rw e

pub total_of-requires : goal.total_of-requires
total_of-requires c =
    let w = c.contents-words.ensures.words in
    rw w (held_facts _ (c.requires.store.contents c.args.slot c.requires.slot)
    (λ z. false≢true (c.if-is_empty.ensures ∙ eq-eqb _ _ (ap length w ∙ z)))).matrix

pub returns-else-is_empty : goal.returns-else-is_empty
returns-else-is_empty c =
    let p = c.args in
    let w = ap (λ (x : List ℕ). grid_total p.m (grid_of x)) c.contents-words.ensures.words in
    let e = ap (λ (x : List ℕ). eqb (length x) 0) (sym c.contents-words.ensures.words) ∙ sym c.if-is_empty.ensures in
    ap number_answer (c.total_of.ensures ∙ w) ∙ rw e
