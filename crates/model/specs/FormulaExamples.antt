-- Formulas over a store (document 02, A8), computed: the refusals in their order, the target, and its revision.
use Rattle.std.specs.Prelude.{ℕ, ◌≡◌, refl, cond, List, [], ◌∷◌, ltb, None, Some}
use Rattle.conditions.specs.Tests.{◌and◌}
use Rattle.limits.specs.Limits.{min_stack_words}
use Rattle.answers.specs.Refusals.{accepted, refused}
use Rattle.answers.specs.Reads.{found_answer}
use Rattle.twos_complement.specs.TwosComplement.{signed, word}
use Rattle.operators.specs.Operators.{binary_word}
use Rattle.operator_codes.specs.Codes.{binary_numbered, monoid_numbered}
use Rattle.grid.specs.declared.EntryAt.TheVariants as entry
use Rattle.grid.specs.Grid.{Grid}
use Rattle.grid.specs.Entries.{one, gather, flatten}
use Rattle.grid.specs.Position.{entry_at}
use Rattle.grid.specs.Revision.{next_revision}
use Rattle.operations.specs.CellOperations.{dot}
use Rattle.formula_texts.specs.Reader.{reading, read_formula}
use Rattle.formula_texts.specs.Values.{value}
use Rattle.model.specs.Model.{Model, vacant, holding, revision_at}
use Rattle.model.specs.Effects.{Reply, wrote, found, reply_of, next_of}
use Rattle.model.specs.Formulas.{names_vacant}
use Rattle.model.specs.Calls.{StoreCall, set_cell, read_cell, formula_into, effect}
use Rattle.model.specs.Histories.{replies, model_after}

-- slots 0 and 1 hold 5 and 2, slot 2 is 1 by 2; slot 3 has 2,048 entries and slot 4 the column that is empty there; the
-- others are empty. 4,416 words in all
abbrev single : ℕ → Grid
single v = record { rows = 1; cols = 1; cell = λ i j. Some v }

abbrev laid : Model
laid =
    holding 0 (single 5)
    ∷ holding 0 (single 2)
    ∷ holding 0 (record { rows = 1; cols = 2; cell = λ i j. Some 7 })
    ∷ holding 0 (record { rows = 64; cols = 33; cell = λ i j. cond (ltb j 32) (Some 1) None })
    ∷ holding 0 (record { rows = 64; cols = 33; cell = λ i j. cond (ltb j 32) None (Some 1) })
    ∷ vacant
    ∷ vacant
    ∷ vacant
    ∷ []

abbrev entries : ℕ → Reply
entries n = wrote (accepted n)

abbrev refusal : ℕ → Reply
refusal code = wrote (refused code)

abbrev held : ℕ → Reply
held v = found (found_answer (entry.Present v 0))

-- a text into slot 5, under PLUS and TIMES, with as many words of stack as are asked for
abbrev into5 : List ℕ → StoreCall
into5 text = formula_into 5 3 5 text min_stack_words

-- 12 before 2 before 14 ("8"), 14 before 13 ("0+7+"), 13 before 9 ("0+7", where the target is empty too), 9 before 8
-- ("0+2")
refusals_answered : replies 4428 laid
    (formula_into 8 4 5 (56 ∷ []) 0
    ∷ formula_into 5 4 5 (56 ∷ []) 0
    ∷ formula_into 5 3 8 (56 ∷ []) 0
    ∷ formula_into 5 3 5 (56 ∷ []) 0
    ∷ formula_into 5 3 5 (48 ∷ 43 ∷ 55 ∷ 43 ∷ []) 0
    ∷ formula_into 5 3 5 (48 ∷ 43 ∷ 55 ∷ []) 0
    ∷ formula_into 5 3 5 (48 ∷ 43 ∷ 50 ∷ []) 64999
    ∷ formula_into 5 3 5 (48 ∷ 43 ∷ 50 ∷ []) 65000
    ∷ [])
    ≡ refusal 12
    ∷ refusal 2
    ∷ refusal 2
    ∷ refusal 14
    ∷ refusal 14
    ∷ refusal 13
    ∷ refusal 9
    ∷ refusal 8
    ∷ []
unfolding effect reply_of next_of names_vacant reading read_formula value ◌and◌ binary_numbered monoid_numbered
refusals_answered = refl

-- the first failing step: in "3+4+0" and "0+(3+4)" the sum of 3 and 4 is too large before the other sum's shapes disagree,
-- in "0+2+(3+4)" it comes after them; each would not fit either (11)
steps_answered : replies 4416 laid
    (into5 (51 ∷ 43 ∷ 52 ∷ 43 ∷ 48 ∷ [])
    ∷ into5 (48 ∷ 43 ∷ 40 ∷ 51 ∷ 43 ∷ 52 ∷ 41 ∷ [])
    ∷ into5 (48 ∷ 43 ∷ 50 ∷ 43 ∷ 40 ∷ 51 ∷ 43 ∷ 52 ∷ 41 ∷ [])
    ∷ [])
    ≡ refusal 10 ∷ refusal 10 ∷ refusal 8 ∷ []
unfolding effect reply_of next_of names_vacant reading read_formula value ◌and◌ binary_numbered monoid_numbered flatten gather one
    binary_word signed word
steps_answered = refl

-- "0*1*1" under MINUS is (5 - 2) - 2. It fits exactly; then there is no room in slot 6, nor for "2" in slot 5, whose own
-- words count as free; "5*0+5" reads the target before it is written
targets_answered : replies 4428 laid
    (formula_into 5 3 4 (48 ∷ 42 ∷ 49 ∷ 42 ∷ 49 ∷ []) min_stack_words
    ∷ read_cell 5 0 0
    ∷ formula_into 6 3 5 (48 ∷ []) min_stack_words
    ∷ into5 (50 ∷ [])
    ∷ read_cell 5 0 0
    ∷ into5 (53 ∷ 42 ∷ 48 ∷ 43 ∷ 53 ∷ [])
    ∷ read_cell 5 0 0
    ∷ [])
    ≡ entries 1
    ∷ held 1
    ∷ refusal 11
    ∷ refusal 11
    ∷ held 1
    ∷ entries 1
    ∷ held 6
    ∷ []
unfolding effect reply_of next_of names_vacant reading read_formula value ◌and◌ binary_numbered monoid_numbered flatten gather one
    entry_at dot binary_word signed word
targets_answered = refl

-- A12: "Sheets made by recipes .. start at 0", a copy onto itself too; a refused one leaves the revision
revisions_left : revision_at (model_after 4428 laid (set_cell 0 0 0 9 ∷ formula_into 0 3 5 (56 ∷ []) 0 ∷ [])) 0
    ∷ revision_at (model_after 4428 laid (set_cell 0 0 0 9 ∷ formula_into 0 3 5 (48 ∷ []) min_stack_words ∷ [])) 0
    ∷ []
    ≡ 1 ∷ 0 ∷ []
unfolding effect reply_of next_of next_revision names_vacant reading read_formula value ◌and◌ binary_numbered monoid_numbered
    flatten gather one
revisions_left = refl
