-- A formula is a first term and what is added to it, a term a first factor and what it is multiplied by: the steps of
-- working out both, once.
use Prim.Native.Nat.{ℕ, ◌+◌, ◌≤◌, ◌<◌}
use native.Mathlib.Omega.{arith}
use mathlib.Core.Path.{◌≡◌, refl, sym, ap, subst, ◌∙◌}
use mathlib.Core.List.{List, ◌∷◌}
use lib.ListN.{length, get_or, drop}
use Rattle.std.specs.Prelude.{Result, Ok, Err}
use Rattle.answers.specs.declared.Refusal.{Refusal}
use Rattle.answers.specs.Results.{number}
use Rattle.answers.proofs.Numbers.{number_not_0}
use Rattle.operators.specs.declared.BinaryOp.{BinaryOp}
use Rattle.operators.specs.declared.Monoid.{Monoid}
use Rattle.grid.specs.Grid.{Grid}
use Rattle.operations.specs.declared.Operation.{Operation}
use Rattle.formula_texts.specs.Trees.{
  Formula,
  Term,
  one_term,
  plus,
  one_factor,
  times,
  Within,
  TermWithin,
  FactorWithin,
}
use Rattle.formula_texts.specs.Reading.{
  before,
  term_before,
  factor_before,
  Apart,
  FactorStops,
  TermStops,
  FormulaStops,
}
use Rattle.formula_texts.specs.Values.{value}
use Rattle.formula_texts.proofs.Once.{tail_same, apart_not}
use Rattle.formula_texts.proofs.Joined.{at_byte}
use Rattle.formula_values.specs.Values.{Failure, Value, worth, fails, value_code, step, sum_of, product_of}
use Rattle.formula_values.proofs.Failures.{onto_failure, term_onto_failure}
use Rattle.formula_evaluation.specs.Evaluating.{
  slot_worth,
  formula_worth,
  formula_onto,
  term_worth,
  term_onto,
  factor_worth,
  More,
  done,
  more,
  MoreWithin,
  more_before,
  more_onto,
  Standing,
  Worked,
  ResultOf,
  Ahead,
  Evaluates,
  Continues,
}

-- a phrase taken apart: its first part, and what is joined on to it
pub record Parts {T P : Type 0} (b : ℕ) (In : T → ℕ → Type 0) (In' : P → ℕ → Type 0) (bytes : T → List ℕ → List ℕ)
    (bytes' : P → List ℕ → List ℕ) (worthOf : T → Value) (onto : T → Value → Value) (worth' : P → Value)
    (op : Operation) (t : T) : Type 0 where
  pub first : P
  pub others : More T
  pub bytes_are : (r : List ℕ) → bytes t r ≡ bytes' first (more_before b bytes others r)
  pub within : (d : ℕ) → In t d → In' first d × MoreWithin In others d
  pub worth_is : worthOf t ≡ more_onto onto others (worth' first)
  pub onto_is : (v : Value) → onto t v ≡ more_onto onto others (step op v (worth' first))

-- all that the proofs of both use: every phrase comes apart, and nothing comes after a failure
pub record Chain {T P : Type 0} (b : ℕ) (In : T → ℕ → Type 0) (In' : P → ℕ → Type 0) (Stops Stops' : List ℕ → Type 0)
    (bytes : T → List ℕ → List ℕ) (bytes' : P → List ℕ → List ℕ) (worthOf : T → Value) (onto : T → Value → Value)
    (worth' : P → Value) (op : Operation) : Type 0 where
  pub parts : (t : T) → Parts b In In' bytes bytes' worthOf onto worth' op t
  pub stops : (m : More T) (r : List ℕ) → Stops r → Stops' (more_before b bytes m r)
  pub apart : (r : List ℕ) → Stops r → Apart b r
  pub failing : (m : More T) (x : Failure) → more_onto onto m (fails x) ≡ fails x

-- ---- both
-- a formula: terms are added
pub terms : (monoid : Monoid) (op : BinaryOp) (s : List ℕ)
    → Chain 43 Within TermWithin FormulaStops TermStops before term_before (formula_worth monoid op s)
    (formula_onto monoid op s) (term_worth monoid op s) (sum_of monoid)
unfolding before value
terms monoid op s = record { parts = take; stops = stop; apart = λ r h. h.1; failing = fail }
  where
    take : (f : Formula) → Parts 43 Within TermWithin before term_before (formula_worth monoid op s)
        (formula_onto monoid op s) (term_worth monoid op s) (sum_of monoid) f
    take (one_term t) = record {
      first = t;
      others = done;
      bytes_are = λ r. refl;
      within = λ d h. (h, tt);
      worth_is = refl;
      onto_is = λ v. refl;
    }
    take (plus t f) = record {
      first = t;
      others = more f;
      bytes_are = λ r. refl;
      within = λ d h. (h.0, h.1);
      worth_is = refl;
      onto_is = λ v. refl;
    }

    stop : (m : More Formula) (r : List ℕ) → FormulaStops r → TermStops (more_before 43 before m r)
    stop done r h = h.0
    stop (more f) r h = (tt, λ z. omega arith)

    fail : (m : More Formula) (x : Failure) → more_onto (formula_onto monoid op s) m (fails x) ≡ fails x
    fail done x = refl
    fail (more f) x = onto_failure (slot_worth s) (sum_of monoid) (product_of monoid op) x f

-- a term: it is multiplied by factors
pub factors : (monoid : Monoid) (op : BinaryOp) (s : List ℕ)
    → Chain 42 TermWithin FactorWithin TermStops FactorStops term_before factor_before (term_worth monoid op s)
    (term_onto monoid op s) (factor_worth monoid op s) (product_of monoid op)
unfolding before value
factors monoid op s = record { parts = take; stops = λ m r h. tt; apart = λ r h. h.1; failing = fail }
  where
    take : (t : Term) → Parts 42 TermWithin FactorWithin term_before factor_before (term_worth monoid op s)
        (term_onto monoid op s) (factor_worth monoid op s) (product_of monoid op) t
    take (one_factor x) = record {
      first = x;
      others = done;
      bytes_are = λ r. refl;
      within = λ d h. (h, tt);
      worth_is = refl;
      onto_is = λ v. refl;
    }
    take (times x t) = record {
      first = x;
      others = more t;
      bytes_are = λ r. refl;
      within = λ d h. (h.0, h.1);
      worth_is = refl;
      onto_is = λ v. refl;
    }

    fail : (m : More Term) (x : Failure) → more_onto (term_onto monoid op s) m (fails x) ≡ fails x
    fail done x = refl
    fail (more t) x = term_onto_failure (slot_worth s) (sum_of monoid) (product_of monoid op) x t

-- ---- answers
-- a value whose code is not 0 is a failure
failed : (k : ℕ) (v : Value) → k ≡ value_code v → (k ≡ 0 → ⊥) → (x : Failure) × (v ≡ fails x)
failed k (worth g) e n = absurd (n e)
failed k (fails x) e n = (x, refl)

-- ahead of p is ahead of what comes before p
pub ahead_from : (at p n : ℕ) (o : Result ℕ Refusal) → at ≤ p → Ahead p n o → Ahead at n o
ahead_from at p n (Ok q) h a = (omega (arith, a.0), a.1)
ahead_from at p n (Err why) h a = tt

module _ {T P : Type 0} {b : ℕ} {In : T → ℕ → Type 0} {In' : P → ℕ → Type 0} {Stops Stops' : List ℕ → Type 0}
    {bytes : T → List ℕ → List ℕ} {bytes' : P → List ℕ → List ℕ} {worthOf : T → Value} {onto : T → Value → Value}
    {worth' : P → Value} {op : Operation} (C : Chain b In In' Stops Stops' bytes bytes' worthOf onto worth' op)
    (text : List ℕ) (at d : ℕ) where
  -- ---- a whole phrase: its first part, and what follows
  -- no first part, or it fails: so does the whole
  pub whole_fails : (w w' : List ℕ) (why : Refusal) → Evaluates In' Stops' bytes' worth' text at d w (Err why)
      → Evaluates In Stops bytes worthOf text at d w' (Err why)
  whole_fails w w' why e = record { ahead = tt; some_grid = tt; result = go }
    where
      go : (t : T) (r : List ℕ) → In t d → Stops r → drop at text ≡ bytes t r → number why ≡ value_code (worthOf t)
      go t r i h z =
          let p = C.parts t in
          let x =
          e.result p.first (more_before b bytes p.others r) (p.within d i).0 (C.stops p.others r h)
          (z ∙ p.bytes_are r) in
          let f = failed (number why) (worth' p.first) x (number_not_0 why) in
          let u : worthOf t ≡ fails f.0 =
          p.worth_is ∙ ap (more_onto onto p.others) f.1 ∙ C.failing p.others f.0 in
          x ∙ ap value_code (f.1 ∙ sym u)

  -- the first part ends at p: what follows decides
  pub whole_goes_on : (w w' : List ℕ) (o : Result ℕ Refusal) (q : ℕ)
      → Evaluates In' Stops' bytes' worth' text at d w (Ok q) → Continues b In Stops bytes onto text q d w w' o
      → Evaluates In Stops bytes worthOf text at d w' o
  whole_goes_on w w' o q f c = record {
    ahead = ahead_from at q (length text) o f.ahead.0 c.ahead;
    some_grid = c.some_grid;
    result = λ t r i h y.
        let p = C.parts t in
        let k =
        f.result p.first (more_before b bytes p.others r) (p.within d i).0 (C.stops p.others r h)
        (y ∙ p.bytes_are r) in
        let u : worthOf t ≡ more_onto onto p.others (worth k.grid) =
        p.worth_is ∙ ap (more_onto onto p.others) k.value_is in
        subst (λ (v : Value). ResultOf v text r w' o) (sym u)
        (c.result k.grid k.standing p.others r (p.within d i).1 h k.rest);
  }

  -- ---- what follows a first part
  -- the joining byte does not follow: nothing does
  pub nothing_follows : (w : List ℕ) → at ≤ length text → (g : Grid) × Standing g w → Apart b (drop at text)
      → Continues b In Stops bytes onto text at d w w (Ok at)
  nothing_follows w l k a = record { ahead = (omega arith, l); some_grid = k; result = go }
    where
      go : (g : Grid) → Standing g w → (m : More T) (r : List ℕ) → MoreWithin In m d → Stops r
          → drop at text ≡ more_before b bytes m r → Worked (more_onto onto m (worth g)) text r at w
      go g s done r i h z = record { grid = g; value_is = refl; standing = s; rest = z }
      go g s (more t) r i h z = absurd (apart_not b (drop at text) (bytes t r) a z)

  -- the joining byte follows
  module _ (l : at < length text) (x : get_or text at 0 ≡ b) where
    follows : drop at text ≡ b ∷ drop (at + 1) text
    follows = at_byte text at b l x

    -- what follows it, taken apart; `g` stands at the front
    record Next (g : Grid) (m : More T) (r : List ℕ) : Type 0 where
      pub phrase : P
      pub others : More T
      pub within : In' phrase d × MoreWithin In others d
      pub bytes_are : drop (at + 1) text ≡ bytes' phrase (more_before b bytes others r)
      pub value_is : (v : Value) → more_onto onto m v ≡ more_onto onto others (step op v (worth' phrase))

    next : (g : Grid) (m : More T) (r : List ℕ) → MoreWithin In m d → Stops r
        → drop at text ≡ more_before b bytes m r → Next g m r
    next g done r i h z = absurd (apart_not b r (drop (at + 1) text) (C.apart r h) (sym z ∙ follows))
    next g (more t) r i h z =
        let p = C.parts t in
        record {
          phrase = p.first;
          others = p.others;
          within = p.within d i;
          bytes_are = tail_same (sym follows ∙ z) ∙ p.bytes_are r;
          value_is = p.onto_is;
        }

    -- it is missing, or fails
    pub next_fails : (w y w' : List ℕ) (why : Refusal) → Evaluates In' Stops' bytes' worth' text (at + 1) d y (Err why)
        → Continues b In Stops bytes onto text at d w w' (Err why)
    next_fails w y w' why e = record { ahead = tt; some_grid = tt; result = go }
      where
        go : (g : Grid) → Standing g w → (m : More T) (r : List ℕ) → MoreWithin In m d → Stops r
            → drop at text ≡ more_before b bytes m r → number why ≡ value_code (more_onto onto m (worth g))
        go g s m r i h z =
            let p = next g m r i h z in
            let u =
            e.result p.phrase (more_before b bytes p.others r) p.within.0 (C.stops p.others r h)
            p.bytes_are in
            let f = failed (number why) (worth' p.phrase) u (number_not_0 why) in
            let v : more_onto onto m (worth g) ≡ fails f.0 =
            p.value_is (worth g)
            ∙ ap (λ (c : Value). more_onto onto p.others (step op (worth g) c)) f.1
            ∙ C.failing p.others f.0 in
            u ∙ ap value_code (f.1 ∙ sym v)

    -- it ends at q, and its grid stands in the words y behind the first region
    module _ (w y : List ℕ) (q : ℕ) (found : Evaluates In' Stops' bytes' worth' text (at + 1) d y (Ok q)) where
      -- the step fails
      pub step_fails : (w' : List ℕ) (why : Refusal)
          → ((g h : Grid) → Standing g w → Standing h y → number why ≡ value_code (step op (worth g) (worth h)))
          → Continues b In Stops bytes onto text at d w w' (Err why)
      step_fails w' why code = record {
        ahead = tt;
        some_grid = tt;
        result = λ g s m r i h c.
            let p = next g m r i h c in
            let u =
            found.result p.phrase (more_before b bytes p.others r) p.within.0 (C.stops p.others r h)
            p.bytes_are in
            let a = code g u.grid s u.standing in
            let f = failed (number why) (step op (worth g) (worth u.grid)) a (number_not_0 why) in
            let v : more_onto onto m (worth g) ≡ fails f.0 =
            p.value_is (worth g)
            ∙ ap (λ (x : Value). more_onto onto p.others (step op (worth g) x)) u.value_is
            ∙ ap (more_onto onto p.others) f.1 ∙ C.failing p.others f.0 in
            a ∙ ap value_code (f.1 ∙ sym v);
      }

      -- it is done, and what follows decides
      pub step_goes_on : (w₂ w' : List ℕ) (o' : Result ℕ Refusal)
          → ((g h : Grid) → Standing g w → Standing h y
          → (t : Grid) × (step op (worth g) (worth h) ≡ worth t) × Standing t w₂)
          → Continues b In Stops bytes onto text q d w₂ w' o' → Continues b In Stops bytes onto text at d w w' o'
      step_goes_on w₂ w' o' stepped c = record {
        ahead = ahead_from at q (length text) o' (omega (arith, found.ahead.0)) c.ahead;
        some_grid = c.some_grid;
        result = λ g s m r i h j.
            let p = next g m r i h j in
            let u =
            found.result p.phrase (more_before b bytes p.others r) p.within.0 (C.stops p.others r h)
            p.bytes_are in
            let a = stepped g u.grid s u.standing in
            let v : more_onto onto m (worth g) ≡ more_onto onto p.others (worth a.0) =
            p.value_is (worth g)
            ∙ ap (λ (x : Value). more_onto onto p.others (step op (worth g) x)) u.value_is
            ∙ ap (more_onto onto p.others) a.1 in
            subst (λ (x : Value). ResultOf x text r w' o') (sym v)
            (c.result a.0 a.2 p.others r p.within.1 h u.rest);
      }
