-- A formula on any words, from what its code has found: no store, a refusal, or the result in its slot.
use Prim.Native.Nat.{ℕ, ◌≤◌, ◌<◌}
use native.Mathlib.Omega.{arith}
use native.Mathlib.Decide.{dec_le}
use mathlib.Core.Path.{◌≡◌, refl, sym, ap, ◌∙◌}
use mathlib.Core.Bool.{Bool, true, false, cond, not, false≢true}
use mathlib.Core.List.{List, [], ◌∷◌, ◌++◌, append-nil}
use lib.ListN.{length, get_or, drop}
use lib.Dec.{leb, ltb}
use borrow.Author.Tests.{eqb-false, le-leb, lt-leb, lt-ltb, le-ltb, ltb-false, leb-false, not-false}
use Rattle.conditions.specs.Tests.{◌and◌}
use Rattle.conditions.proofs.Tests.{and_left, and_right}
use Rattle.limits.specs.Limits.{slot_count, min_stack_words}
use Rattle.std.specs.Prelude.{Result, Ok, Err, None, Option, Some, is_some}
use Rattle.answers.specs.declared.Refusal.{Refusal}
use Rattle.answers.specs.Answers.{Answer}
use Rattle.answers.specs.Refusals.{accepted, refused, insufficient_space}
use Rattle.operators.specs.declared.BinaryOp.{BinaryOp}
use Rattle.operators.specs.declared.Monoid.{Monoid}
use Rattle.operator_codes.specs.Codes.{monoid_numbered, binary_numbered}
use Rattle.call_codes.specs.Decoding.{monoid_of, binary_of}
use Rattle.grid.specs.Grid.{Grid}
use Rattle.grid.specs.Entries.{entry_count}
use Rattle.encoding.specs.Encode.{encode, grid_size}
use Rattle.encoding.proofs.Canonical.{encode_length}
use Rattle.refusals.specs.Cases.{Case, first_applying}
use Rattle.refusals.proofs.Cases.{later, applying_first, applying_rest}
use Rattle.slots.specs.Valid.{store_valid}
use Rattle.slots.specs.Room.{slot_put, words_with}
use Rattle.slots.proofs.Facts.{store_facts}
use Rattle.formula_texts.specs.Trees.{Formula, Within, Reading}
use Rattle.formula_texts.specs.Reading.{before, FormulaStops}
use Rattle.formula_texts.specs.Reader.{Outcome, read_as, unreadable, reading, readable}
use Rattle.formula_texts.specs.Reader as reader
use Rattle.formula_texts.proofs.Once.{before_is}
use Rattle.formula_texts.proofs.Reader.{reading_sound}
use Rattle.formula_texts.proofs.Related.{related}
use Rattle.formula_values.specs.Values.{
  Value,
  worth,
  fails,
  disagree,
  overfull,
  value_code,
  value_grid,
  step,
  sum_of,
  product_of,
  formula_value,
}
use Rattle.formula_evaluation.specs.Evaluating.{slot_worth, formula_worth, Standing, Lent, Evaluates}
use Rattle.model.specs.Model.{Model, slot_of, holding, put, needed_with}
use Rattle.model.specs.Effects.{wrote}
use Rattle.model.specs.Formulas.{slot_value, read_value, names_vacant}
use Rattle.model.specs.Calls.{FormulaCall, formula, formula_on, step_cases, no_room, formula_cases, effect}
use Rattle.store_encoding.specs.Writing.{model_writing}
use Rattle.store_encoding.specs.Stores.{model_of, Performed}
use Rattle.store_encoding.proofs.Held.{slot_written, needed_model}
use Rattle.store_encoding.proofs.Performed.{performed_no_store, performed_refused, performed_done}
use Rattle.store_formulas.specs.Attempts.{early_cases, Evaluable, value_on, Valued, Committed}
use Rattle.store_formulas.proofs.Bytes.{slot_worth_is, names_held, all_named}

-- ---- the value of the text
-- what is lent to work it out
pub evaluable_lent : {s : List ℕ} {monoid op : ℕ} {text w : List ℕ} → Evaluable s monoid op text w → Lent 4 text 0 3 s w
evaluable_lent {s} {monoid} {op} {text} {w} h = record {
  place = omega arith;
  room = omega (arith, h.space);
  store = h.store;
  held = λ p l a b. names_held s (get_or text p 0) h.store a b (all_named (model_of s) text h.held p l);
}

-- a text of the language has a reading
read : (text : List ℕ) → reader.accepted text ≡ true → (f : Formula) × (reading text ≡ read_as f)
read text e = by (reading text) refl e
  where
    by : (o : Outcome) → reading text ≡ o → readable o ≡ true → (f : Formula) × (reading text ≡ read_as f)
    by (read_as f) q i = (f, q)
    by unreadable q i = absurd (false≢true i)

-- the model's value of a formula is that of the slots' words
worth_model : (add : Monoid) (mul : BinaryOp) (s : List ℕ) (f : Formula)
    → formula_value add mul (λ n. slot_value (slot_of (model_of s) n)) f ≡ formula_worth add mul s f
worth_model add mul s f =
    related (λ (a b : Value). a ≡ b) (λ n. slot_value (slot_of (model_of s) n)) (step (sum_of add))
    (step (product_of add mul))
    (slot_worth s) (step (sum_of add)) (step (product_of add mul)) (slot_worth_is s)
    (λ a b a' b' p q. ap (λ (x : Value). step (sum_of add) x b) p ∙ ap (step (sum_of add) a') q)
    (λ a b a' b' p q. ap (λ (x : Value). step (product_of add mul) x b) p ∙ ap (step (product_of add mul) a') q) f

module _ {s : List ℕ} {monoid op : ℕ} {text w : List ℕ} (h : Evaluable s monoid op text w) where
  -- the numbers are known
  pub monoid_known_lem : monoid_numbered monoid ≡ None → ⊥
  monoid_known_lem e = false≢true (sym (ap is_some e) ∙ and_left _ _ h.known)

  pub binary_known_lem : binary_numbered op ≡ None → ⊥
  binary_known_lem e = false≢true (sym (ap is_some e) ∙ and_right _ _ h.known)

  module _ {add : Monoid} {mul : BinaryOp} (p : monoid_numbered monoid ≡ Some add)
      (q : binary_numbered op ≡ Some mul) where
    -- the value of the text is that of its tree
    value_is : (f : Formula) → reading text ≡ read_as f → value_on s monoid op text ≡ formula_worth add mul s f
    value_is f e =
        ap (read_value (monoid_of (monoid_numbered monoid)) (binary_of (binary_numbered op))
        (λ n. slot_value (slot_of (model_of s) n))) e
        ∙ ap (λ (x : Option Monoid). formula_value (monoid_of x) (binary_of (binary_numbered op))
        (λ n. slot_value (slot_of (model_of s) n)) f) p
        ∙ ap (λ (x : Option BinaryOp). formula_value add (binary_of x) (λ n. slot_value (slot_of (model_of s) n)) f) q
        ∙ worth_model add mul s f

    -- what `formula_evaluation::formula` leaves is that value
    pub evaluated : (w' : List ℕ) (o : Result ℕ Refusal)
        → Evaluates Within FormulaStops before (formula_worth add mul s) text 0 3 w' o
        → Valued (value_on s monoid op text) w' o
    evaluated w' o e = by o e
      where
        r : (f : Formula) × (reading text ≡ read_as f)
        r = read text h.language

        R : Reading text r.0
        R = reading_sound text r.0 r.1

        bytes : drop 0 text ≡ before r.0 []
        bytes = sym (before_is r.0 [] ∙ append-nil _ ∙ R.written)

        v : value_on s monoid op text ≡ formula_worth add mul s r.0
        v = value_is r.0 r.1

        by : (o : Result ℕ Refusal) → Evaluates Within FormulaStops before (formula_worth add mul s) text 0 3 w' o
            → Valued (value_on s monoid op text) w' o
        by (Ok k) e =
            let x = e.result r.0 [] R.within ((tt, tt), tt) bytes in (x.grid, v ∙ x.value_is, x.standing)
        by (Err why) e = e.result r.0 [] R.within ((tt, tt), tt) bytes ∙ ap value_code (sym v)

-- ---- the early refusals
-- of five tests the first that is true
abbrev last_two : (d e : Bool) → ℕ
last_two d e = cond d 13 (cond e 9 0)

abbrev chain : (a b c d e : Bool) → ℕ
chain a b c d e = cond a 12 (cond b 2 (cond c 14 (last_two d e)))

first_of_five : (a b c d e : Bool) → a ≡ true → 12 ≡ chain a b c d e
first_of_five a b c d e p = rw p refl

second_of_five : (a b c d e : Bool) → a ≡ false → b ≡ true → 2 ≡ chain a b c d e
second_of_five a b c d e p q = rw (p, q) refl

third_of_five : (a b c d e : Bool) → a ≡ false → b ≡ false → c ≡ true → 14 ≡ chain a b c d e
third_of_five a b c d e p q r = rw (p, q, r) refl

rest_of_five : (a b c d e : Bool) → a ≡ false → b ≡ false → c ≡ false → last_two d e ≡ chain a b c d e
rest_of_five a b c d e p q r = rw (p, q, r) refl

fourth : (d e : Bool) → d ≡ true → 13 ≡ last_two d e
fourth d e p = rw p refl

fifth : (d e : Bool) → d ≡ false → e ≡ true → 9 ≡ last_two d e
fifth d e p q = rw (p, q) refl

none_of_two : (d e : Bool) → d ≡ false → e ≡ false → 0 ≡ last_two d e
none_of_two d e p q = rw (p, q) refl

-- the answers of `early_refusal`, in the order of the code
module _ (m : Model) (x : FormulaCall) where
  abbrev past : Bool
  past = leb slot_count x.target

  abbrev unknown : Bool
  unknown = not (is_some (monoid_numbered x.monoid) and is_some (binary_numbered x.op))

  abbrev other : Bool
  other = not (reader.accepted x.text)

  abbrev empty : Bool
  empty = names_vacant m x.text

  abbrev short : Bool
  short = ltb x.stack min_stack_words

  -- 12
  pub early_slot : slot_count ≤ x.target → 12 ≡ first_applying (early_cases m x)
  early_slot l = first_of_five past unknown other empty short (le-leb slot_count x.target l)

  module _ (l : x.target < slot_count) where
    here : past ≡ false
    here = lt-leb slot_count x.target l

    -- 2
    pub early_numbers : (is_some (monoid_numbered x.monoid) and is_some (binary_numbered x.op)) ≡ false
        → 2 ≡ first_applying (early_cases m x)
    early_numbers e = second_of_five past unknown other empty short here (ap not e)

    module _ (k : (is_some (monoid_numbered x.monoid) and is_some (binary_numbered x.op)) ≡ true) where
      -- 14
      pub early_text : reader.accepted x.text ≡ false → 14 ≡ first_applying (early_cases m x)
      early_text e = third_of_five past unknown other empty short here (ap not k) (ap not e)

      module _ (a : reader.accepted x.text ≡ true) where
        later_two : last_two empty short ≡ first_applying (early_cases m x)
        later_two = rest_of_five past unknown other empty short here (ap not k) (ap not a)

        -- 13
        pub early_empty : names_vacant m x.text ≡ true → 13 ≡ first_applying (early_cases m x)
        early_empty e = fourth empty short e ∙ later_two

        -- 9
        pub early_stack : names_vacant m x.text ≡ false → x.stack < min_stack_words → 9 ≡ first_applying (early_cases m x)
        early_stack e i = fifth empty short e (lt-ltb x.stack min_stack_words i) ∙ later_two

        -- 0
        pub early_none : names_vacant m x.text ≡ false → min_stack_words ≤ x.stack → 0 ≡ first_applying (early_cases m x)
        early_none e i = none_of_two empty short e (le-ltb x.stack min_stack_words i) ∙ later_two

-- ---- the call
-- the refusal of a failing step
step_code : (v : Value) (room : Case) (k : ℕ) → k ≡ value_code v → (k ≡ 0 → ⊥)
    → k ≡ first_applying (step_cases v ++ (room ∷ []))
step_code (worth g) room k e n = absurd (n e)
step_code (fails disagree) room k e n = e
step_code (fails overfull) room k e n = e

-- no step fails: the room tells
no_step : (v : Value) (g : Grid) (room : Case) → v ≡ worth g
    → first_applying (step_cases v ++ (room ∷ [])) ≡ first_applying (room ∷ [])
no_step v g room e = rw e refl

module _ (s : List ℕ) (x : FormulaCall) where
  abbrev m : Model
  m = model_of s

  abbrev v : Value
  v = formula_on m x

  abbrev k : ℕ
  k = x.target

  abbrev late : List Case
  late = step_cases v ++ (no_room (length s) m k (value_grid v) ∷ [])

  -- 12 of the words
  pub formula_no_store : store_valid s ≡ false → Performed s (formula x) (wrote (refused 12)) s
  unfolding effect
  formula_no_store h = performed_no_store s (effect (formula x)) h

  module _ (h : store_valid s ≡ true) where
    -- an early refusal
    pub formula_early : (code : ℕ) → code ≡ first_applying (early_cases m x) → (code ≡ 0 → ⊥)
        → Performed s (formula x) (wrote (refused code)) s
    unfolding effect
    formula_early code e n =
        performed_refused s (effect (formula x)) h code (applying_first (early_cases m x) late code e n) n

    module _ (z : first_applying (early_cases m x) ≡ 0) where
      -- the others tell
      rest_is : first_applying (formula_cases (length s) m x) ≡ first_applying late
      rest_is = applying_rest (early_cases m x) late (refl, (refl, (refl, (refl, (refl, tt))))) z

      -- what is known where none applies
      pub record NoneApplies : Type 0 where
        pub slot : k < slot_count
        pub known : (is_some (monoid_numbered x.monoid) and is_some (binary_numbered x.op)) ≡ true
        pub language : reader.accepted x.text ≡ true
        pub held : names_vacant m x.text ≡ false
        pub space : min_stack_words ≤ x.stack

      pub none : NoneApplies
      none =
          let h₁ = later (leb slot_count k) 12 _ refl z in
          let h₂ =
          later (not (is_some (monoid_numbered x.monoid) and is_some (binary_numbered x.op))) 2 _ refl
          h₁.rest in
          let h₃ = later (not (reader.accepted x.text)) 14 _ refl h₂.rest in
          let h₄ = later (names_vacant m x.text) 13 _ refl h₃.rest in
          let h₅ = later (ltb x.stack min_stack_words) 9 0 refl h₄.rest in
          record {
            slot = leb-false slot_count k h₁.here;
            known = not-false _ h₂.here;
            language = not-false _ h₃.here;
            held = h₄.here;
            space = ltb-false _ _ h₅.here;
          }

      -- what `evaluate` asks for
      pub evaluable : (w : List ℕ) → length w ≡ x.stack → Evaluable s x.monoid x.op x.text w
      evaluable w e =
          let o = none in
          record {
            store = store_facts s h;
            known = o.known;
            language = o.language;
            held = o.held;
            space = omega (arith, o.space);
          }

      -- a failing step
      pub formula_failed : (code : ℕ) → code ≡ value_code v → (code ≡ 0 → ⊥)
          → Performed s (formula x) (wrote (refused code)) s
      unfolding effect
      formula_failed code e n =
          performed_refused s (effect (formula x)) h code
          (step_code v (no_room (length s) m k (value_grid v)) code e n ∙ sym rest_is) n

      -- the result is committed
      module _ (g : Grid) (e : v ≡ worth g) (w : List ℕ) (t : Standing g w) where
        -- the grid that is put
        grid_is : value_grid v ≡ g
        grid_is = ap value_grid e

        -- the words that it needs
        needed : needed_with m k g ≡ words_with s k (grid_size g)
        needed =
            needed_model s k (holding 0 g) (store_facts s h) none.slot ∙ ap (words_with s k) (encode_length 0 g)

        -- 11, or 0
        room_is : first_applying (formula_cases (length s) m x)
            ≡ cond (ltb (length s) (words_with s k (grid_size g))) insufficient_space 0
        room_is =
            rest_is ∙ no_step v g (no_room (length s) m k (value_grid v)) e
            ∙ ap (λ (y : Grid). cond (ltb (length s) (needed_with m k y)) insufficient_space 0) grid_is
            ∙ ap (λ (y : ℕ). cond (ltb (length s) y) insufficient_space 0) needed

        -- what `commit` leaves is the call's effect
        pub formula_done : (answer : Answer) (s' : List ℕ) → Committed s k w answer s'
            → Performed s (formula x) (wrote answer) s'
        unfolding effect
        formula_done answer s' c = go (dec_le (words_with s k (grid_size g)) (length s))
          where
            go : Dec (words_with s k (grid_size g) ≤ length s) → Performed s (formula x) (wrote answer) s'
            go (yes f) =
                let q : answer ≡ accepted (entry_count g) = c.answer_is g t ∙ rw (le-leb _ _ f) in
                let u : s' ≡ slot_put s k (encode g) = c.words_are g t ∙ rw q in
                performed_done s (effect (formula x)) h (room_is ∙ rw (le-ltb _ _ f)) (wrote answer) s'
                (ap wrote q ∙ ap (λ (y : Grid). wrote (accepted (entry_count y))) (sym grid_is))
                (u ∙ slot_written s k (holding 0 g) (store_facts s h)
                ∙ ap (λ (y : Grid). model_writing (length s) (put m k (holding 0 y))) (sym grid_is))
            go (no f) =
                let i : length s < words_with s k (grid_size g) = omega arith in
                let q : answer ≡ refused insufficient_space = c.answer_is g t ∙ rw (lt-leb _ _ i) in
                let u : s' ≡ s = c.words_are g t ∙ rw q in
                let p =
                performed_refused s (effect (formula x)) h insufficient_space (sym (room_is ∙ rw (lt-ltb _ _ i)))
                (eqb-false insufficient_space 0 refl) in
                record { answer_is = ap wrote q ∙ p.answer_is; words_are = u ∙ p.words_are }
