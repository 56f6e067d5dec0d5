-- The steps of working out a factor.
use Prim.Native.Nat.{ℕ, zero, suc, ◌+◌, ◌-◌, ◌≤◌, ◌<◌}
use native.Mathlib.Omega.{arith}
use mathlib.Core.Path.{◌≡◌, refl, sym, ap, subst, ◌∙◌}
use mathlib.Core.List.{List, ◌∷◌}
use lib.ListN.{length, get_or, drop}
use Rattle.std.specs.Prelude.{None, Result, Ok, Err}
use Rattle.answers.specs.declared.Refusal.{Refusal}
use Rattle.answers.specs.declared.Refusal.TheVariants.{InvalidFormula}
use Rattle.operators.specs.declared.BinaryOp.{BinaryOp}
use Rattle.operators.specs.declared.Monoid.{Monoid}
use Rattle.grid.specs.Grid.{Grid}
use Rattle.formula_texts.specs.Trees.{Formula, Factor, digit, bracketed, Within, FactorWithin}
use Rattle.formula_texts.specs.Reading.{before, factor_before, FactorThen, Apart, FactorStops, FormulaStops, Read}
use Rattle.formula_texts.specs.Values.{value}
use Rattle.formula_texts.proofs.Once.{head_same, tail_same, apart_not}
use Rattle.formula_texts.proofs.Joined.{at_byte}
use Rattle.formula_texts.proofs.Factors.{closing}
use Rattle.formula_values.specs.Values.{worth, value_code}
use Rattle.formula_evaluation.specs.Evaluating.{slot_worth, formula_worth, factor_worth, Standing, ResultOf, Evaluates}

-- a factor that begins with "(" is a formula in brackets
record Opened (c d : ℕ) (x r : List ℕ) (y : Factor) : Type 0 where
  pub formula : Formula
  pub same : y ≡ bracketed formula
  pub within : Within formula (d - 1)
  pub bytes : x ≡ before formula (41 ∷ r)
  pub some : d ≡ 0 → ⊥

-- what is in it
opened : (c d : ℕ) (x r : List ℕ) (y : Factor) → FactorWithin y d → c ∷ x ≡ factor_before y r → c ≡ 40
    → Opened c d x r y
unfolding before
opened c d x r (digit n) w e z = let a : c ≡ 48 + n = head_same e in absurd (omega arith)
opened c zero x r (bracketed f) w e z = absurd w
opened c (suc d) x r (bracketed f) w e z =
    let k : d ≡ suc d - 1 = omega arith in
    record {
      formula = f;
      same = refl;
      within = subst (Within f) k w;
      bytes = tail_same e;
      some = λ q. omega arith;
    }

-- any other is a digit
record Digit (c : ℕ) (x r : List ℕ) (y : Factor) : Type 0 where
  pub number : ℕ
  pub same : y ≡ digit number
  pub byte : c ≡ 48 + number
  pub rest : x ≡ r

-- which
plain : (c d : ℕ) (x r : List ℕ) (y : Factor) → FactorWithin y d → c ∷ x ≡ factor_before y r → (c ≡ 40 → ⊥)
    → Digit c x r y
unfolding before
plain c d x r (digit n) w e z = record { number = n; same = refl; byte = head_same e; rest = tail_same e }
plain c d x r (bracketed f) w e z = absurd (z (head_same e))

-- ---- the answers of `factor`, in the order of the code
module _ (monoid : Monoid) (op : BinaryOp) (s text : List ℕ) (at d : ℕ) where
  abbrev Answers : List ℕ → Result ℕ Refusal → Type 0
  Answers w o = Evaluates FactorWithin FactorStops factor_before (factor_worth monoid op s) text at d w o

  -- no factor stands there
  pub factor_missing : (w : List ℕ) → Read FactorThen FactorStops text at d None → Answers w (Err InvalidFormula)
  factor_missing w h = record { ahead = tt; some_grid = tt; result = λ y r i k z. absurd (h r (y, i, z) k) }

  module _ (l : at < length text) where
    -- the byte at `at`, and those after it
    cut : drop at text ≡ get_or text at 0 ∷ drop (at + 1) text
    cut = at_byte text at (get_or text at 0) l refl

    -- a bracket is opened, and a formula stands in it
    module _ (x : get_or text at 0 ≡ 40) (w : List ℕ) where
      abbrev Inner : Result ℕ Refusal → Type 0
      Inner o =
          Evaluates Within FormulaStops before (formula_worth monoid op s) text (at + 1) (d - 1) w o

      -- a factor that stands there is in brackets
      inside : (y : Factor) (r : List ℕ) → FactorWithin y d → drop at text ≡ factor_before y r
          → Opened (get_or text at 0) d (drop (at + 1) text) r y
      inside y r i z = opened (get_or text at 0) d (drop (at + 1) text) r y i (sym cut ∙ z) x

      -- it is worth what is in them
      inner_worth : (y : Factor) (r : List ℕ) (i : FactorWithin y d) (z : drop at text ≡ factor_before y r)
          → formula_worth monoid op s (inside y r i z).formula ≡ factor_worth monoid op s y
      unfolding value
      inner_worth y r i z = ap (factor_worth monoid op s) (sym (inside y r i z).same)

      -- the answer for the inner formula
      inner_result : (o : Result ℕ Refusal) → Inner o → (y : Factor) (r : List ℕ) (i : FactorWithin y d)
          (z : drop at text ≡ factor_before y r)
          → ResultOf (formula_worth monoid op s (inside y r i z).formula) text (41 ∷ r) w o
      inner_result o e y r i z =
          let u = inside y r i z in
          e.result u.formula (41 ∷ r) u.within (closing r) u.bytes

      -- none stands there, or it fails
      pub inner_fails : (why : Refusal) → Inner (Err why) → Answers w (Err why)
      inner_fails why e = record {
        ahead = tt;
        some_grid = tt;
        result = λ y r i h z. inner_result (Err why) e y r i z ∙ ap value_code (inner_worth y r i z);
      }

      module _ (p : ℕ) (found : Inner (Ok p)) where
        -- no bracket is closed behind it
        pub unclosed : Apart 41 (drop p text) → Answers w (Err InvalidFormula)
        unclosed a = record {
          ahead = tt;
          some_grid = tt;
          result = λ y r i h z. absurd (apart_not 41 (drop p text) r a (inner_result (Ok p) found y r i z).rest);
        }

        -- one is
        pub closed : (p < length text) × (get_or text p 0 ≡ 41) → Answers w (Ok (p + 1))
        closed m = record {
          ahead = (omega (arith, found.ahead.0), omega (arith, m.0));
          some_grid = found.some_grid;
          result = λ y r i h z.
              let u = inner_result (Ok p) found y r i z in
              record {
                grid = u.grid;
                value_is = sym (inner_worth y r i z) ∙ u.value_is;
                standing = u.standing;
                rest = tail_same (sym (at_byte text p 41 m.0 m.1) ∙ u.rest);
              };
        }

    -- a digit
    pub named : (get_or text at 0 ≡ 40 → ⊥) → 48 ≤ get_or text at 0 → (w : List ℕ) (g : Grid)
        → slot_worth s (get_or text at 0 - 48) ≡ worth g → Standing g w → Answers w (Ok (at + 1))
    unfolding value
    named x low w g v t = record {
      ahead = (omega arith, omega arith);
      some_grid = (g, t);
      result = λ y r i h z.
          let u = plain (get_or text at 0) d (drop (at + 1) text) r y i (sym cut ∙ z) x in
          let k : get_or text at 0 - 48 ≡ u.number = less u.number u.byte in
          record {
            grid = g;
            value_is = ap (factor_worth monoid op s) u.same ∙ ap (slot_worth s) (sym k) ∙ v;
            standing = t;
            rest = u.rest;
          };
    }
      where
        less : (n : ℕ) → get_or text at 0 ≡ 48 + n → get_or text at 0 - 48 ≡ n
        less n e = omega arith
