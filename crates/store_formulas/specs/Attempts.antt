-- The parts of a formula over a store: what each function requires and leaves.
use Rattle.std.specs.Prelude.{
  ℕ,
  ◌≤◌,
  ◌<◌,
  ◌≡◌,
  true,
  false,
  cond,
  not,
  List,
  [],
  ◌∷◌,
  length,
  leb,
  ltb,
  Result,
  Ok,
  Err,
  is_some,
}
use Rattle.conditions.specs.Tests.{◌and◌}
use Rattle.limits.specs.Limits.{slot_count, min_stack_words}
use Rattle.answers.specs.Answers.{Answer}
use Rattle.answers.specs.declared.Refusal.{Refusal}
use Rattle.answers.specs.Results.{number}
use Rattle.answers.specs.Refusals.{
  accepted,
  refused,
  unless_refused,
  insufficient_space,
  empty_slot,
  workspace_too_short,
  invalid_formula,
}
use Rattle.grid.specs.Grid.{Grid}
use Rattle.grid.specs.Entries.{entry_count}
use Rattle.encoding.specs.Encode.{encode, grid_size}
use Rattle.operator_codes.specs.Codes.{monoid_numbered, binary_numbered}
use Rattle.call_codes.specs.Decoding.{monoid_of, binary_of}
use Rattle.refusals.specs.Cases.{Case, given}
use Rattle.slots.specs.Sections.{end_from}
use Rattle.slots.specs.Facts.{Store}
use Rattle.slots.specs.Room.{slot_put, words_with}
use Rattle.formula_texts.specs.Reader.{accepted as inLanguage}
use Rattle.formula_values.specs.Values.{Value, worth, value_code}
use Rattle.formula_evaluation.specs.Evaluating.{Standing}
use Rattle.model.specs.Model.{Model}
use Rattle.model.specs.Formulas.{text_value, names_vacant}
use Rattle.model.specs.Calls.{FormulaCall, no_slot, no_semiring}
use Rattle.store_encoding.specs.Stores.{model_of}

-- a call by what its function is given
abbrev pub asked : (target monoid op : ℕ) → List ℕ → ℕ → FormulaCall
asked k monoid op text stack = record { target = k; monoid = monoid; op = op; text = text; stack = stack }

-- 12, 2, 14, 13 and 9
abbrev pub early_cases : Model → FormulaCall → List Case
early_cases m x =
    no_slot x.target
    ∷ no_semiring x.monoid x.op
    ∷ given invalid_formula (not (inLanguage x.text))
    ∷ given empty_slot (names_vacant m x.text)
    ∷ given workspace_too_short (ltb x.stack min_stack_words)
    ∷ []

-- the value of the text on the words of a store
abbrev pub value_on : List ℕ → ℕ → ℕ → List ℕ → Value
value_on s monoid op text =
    text_value (monoid_of (monoid_numbered monoid)) (binary_of (binary_numbered op)) (model_of s) text

-- none of the early refusals applies
pub record Evaluable (s : List ℕ) (monoid op : ℕ) (text w : List ℕ) : Type 0 where
  pub store : Store s
  pub known : (is_some (monoid_numbered monoid) and is_some (binary_numbered op)) ≡ true
  pub language : inLanguage text ≡ true
  pub held : names_vacant (model_of s) text ≡ false
  pub space : min_stack_words ≤ length w

-- the value is a grid, at the front; or a failing step's refusal
abbrev pub Valued : Value → List ℕ → Result ℕ Refusal → Type 0
Valued v w (Ok q) = (g : Grid) × (v ≡ worth g) × Standing g w
Valued v w (Err e) = number e ≡ value_code v

-- a grid stands at the front of w, for slot k
pub record ToCommit (s : List ℕ) (k end : ℕ) (w : List ℕ) : Type 0 where
  pub store : Store s
  pub slot : k < slot_count
  pub ends : end ≡ end_from slot_count s
  pub some_grid : (g : Grid) × Standing g w

-- that grid put into slot k, if there is room
abbrev pub commit_answer : List ℕ → ℕ → Grid → Answer
commit_answer s k g =
    cond (leb (words_with s k (grid_size g)) (length s)) (accepted (entry_count g)) (refused insufficient_space)

-- the answer and the words that `commit` leaves, of whatever grid stands at the front
pub record Committed (s : List ℕ) (k : ℕ) (w : List ℕ) (answer : Answer) (s' : List ℕ) : Type 0 where
  pub answer_is : (g : Grid) → Standing g w → answer ≡ commit_answer s k g
  pub words_are : (g : Grid) → Standing g w → s' ≡ unless_refused answer s (slot_put s k (encode g))
