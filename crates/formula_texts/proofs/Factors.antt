-- The steps of reading a factor.
use mathlib.Core.Path.{◌≡◌, refl, sym, ap, ◌∙◌}
use mathlib.Core.List.{List, [], ◌∷◌}
use Prim.Native.Nat.{ℕ, zero, suc, ◌+◌, ◌-◌, ◌≤◌, ◌<◌}
use native.Mathlib.Omega.{arith}
use lib.ListN.{length, get_or, drop, drop_of_length-le}
use Rattle.std.specs.Prelude.{Some, None}
use Rattle.formula_texts.specs.Trees.{Formula, Factor, digit, bracketed, Within, FactorWithin}
use Rattle.formula_texts.specs.Reading.{
  before,
  factor_before,
  FormulaThen,
  FactorThen,
  Apart,
  FactorStops,
  FormulaStops,
  Ended,
  Read,
}
use Rattle.formula_texts.proofs.Once.{head_same, tail_same, apart_not, formula_once}
use Rattle.formula_texts.proofs.Joined.{at_byte}

-- one that begins with "(" is a formula in brackets, and some allowance is left for it
opened : (c d : ℕ) (x r : List ℕ) (y : Factor) → FactorWithin y d → c ∷ x ≡ factor_before y r → c ≡ 40
    → (e : ℕ) × (d ≡ suc e) × FormulaThen e x (41 ∷ r)
unfolding before
opened c d x r (digit n) w e z = let a : c ≡ 48 + n = head_same e in absurd (omega arith)
opened c zero x r (bracketed f) w e z = absurd w
opened c (suc d) x r (bracketed f) w e z = (d, refl, (f, w, tail_same e))

-- any other is a digit
plain : (c d : ℕ) (x r : List ℕ) (y : Factor) → FactorWithin y d → c ∷ x ≡ factor_before y r → (c ≡ 40 → ⊥)
    → (48 ≤ c) × (c ≤ 55)
unfolding before
plain c d x r (digit n) w e z = let a : c ≡ 48 + n = head_same e in (omega arith, omega arith)
plain c d x r (bracketed f) w e z = absurd (z (head_same e))

-- a factor has a byte
some : (r : List ℕ) (y : Factor) → [] ≡ factor_before y r → ⊥
unfolding before
some r (digit n) e = let z : ◌≡◌ {A = ℕ} 0 1 = cc in omega arith
some r (bracketed f) e = let z : ◌≡◌ {A = ℕ} 0 1 = cc in omega arith

-- no formula goes on at ")"
pub closing : (r : List ℕ) → FormulaStops (41 ∷ r)
closing r = ((tt, λ z. omega arith), λ z. omega arith)

-- after formulas that cannot go on the same bytes are left
pub formula_rest : (d d' : ℕ) (x r q : List ℕ) → FormulaStops r → FormulaStops q → FormulaThen d x r
    → FormulaThen d' x q → r ≡ q
formula_rest d d' x r q h k u v = (formula_once u.0 v.0 r q h k (sym u.2 ∙ v.2)).1

-- ---- the answers of `factor`, in the order of the code
module _ (s : List ℕ) (at d : ℕ) where
  -- past the end
  pub factor_past : length s ≤ at → Read FactorThen FactorStops s at d None
  factor_past h r u z = some r u.0 (sym (drop_of_length-le s h) ∙ u.2)

  module _ (l : at < length s) where
    -- the byte at `at`, and those after it
    cut : drop at s ≡ get_or s at 0 ∷ drop (at + 1) s
    cut = at_byte s at (get_or s at 0) l refl

    -- ---- the byte is "("
    module _ (x : get_or s at 0 ≡ 40) where
      bracket : (r : List ℕ) → FactorThen d (drop at s) r
          → (e : ℕ) × (d ≡ suc e) × FormulaThen e (drop (at + 1) s) (41 ∷ r)
      bracket r u = opened (get_or s at 0) d (drop (at + 1) s) r u.0 u.1 (sym cut ∙ u.2) x

      -- no allowance is left
      pub too_deep : d ≡ 0 → Read FactorThen FactorStops s at d None
      too_deep h r u z = let b = bracket r u in let e : d ≡ suc b.0 = b.1 in omega arith

      -- what follows is a formula and ")"
      inner : (r : List ℕ) → FactorThen d (drop at s) r → FormulaThen (d - 1) (drop (at + 1) s) (41 ∷ r)
      inner r u =
          let b = bracket r u in
          let e : b.0 ≡ d - 1 = less b.0 b.1 in
          rw e at b.2
        where
          less : (e : ℕ) → d ≡ suc e → e ≡ d - 1
          less e q = omega arith

      -- no formula follows
      pub no_inner : Read FormulaThen FormulaStops s (at + 1) (d - 1) None → Read FactorThen FactorStops s at d None
      no_inner h r u z = h (41 ∷ r) (inner r u) (closing r)

      module _ (p : ℕ) (found : Ended FormulaThen FormulaStops s (at + 1) (d - 1) p) where
        -- one follows, and no ")"
        pub unclosed : Apart 41 (drop p s) → Read FactorThen FactorStops s at d None
        unclosed a r u z =
            apart_not 41 (drop p s) r a (formula_rest (d - 1) (d - 1) (drop (at + 1) s) (drop p s) (41 ∷ r)
            found.stops (closing r) found.phrase (inner r u))

        -- one follows, and ")"
        pub closed : (d ≡ 0 → ⊥) → (p < length s) × (get_or s p 0 ≡ 41)
            → Read FactorThen FactorStops s at d (Some (p + 1))
        unfolding before
        closed n m =
            record {
              phrase =
                  whole d n found.phrase.0 found.phrase.1
                  (cut ∙ ap (λ (c : ℕ). c ∷ drop (at + 1) s) x
                  ∙ ap (λ (t : List ℕ). 40 ∷ t) (found.phrase.2
                  ∙ ap (λ (t : List ℕ). before found.phrase.0 t) (at_byte s p 41 m.0 m.1)));
              stops = tt;
              ahead = omega (arith, found.ahead);
              inside = omega (arith, m.0);
            }
          where
            less : (c : ℕ) → suc c - 1 ≡ c
            less c = omega arith

            whole : (d : ℕ) → (d ≡ 0 → ⊥) → (g : Formula) → Within g (d - 1)
                → drop at s ≡ 40 ∷ before g (41 ∷ drop (p + 1) s) → FactorThen d (drop at s) (drop (p + 1) s)
            whole zero n g w q = absurd (n refl)
            whole (suc c) n g w q = (bracketed g, rw (less c) at w, q)

    -- ---- it is another
    module _ (x : get_or s at 0 ≡ 40 → ⊥) where
      -- no digit 0 to 7
      pub no_digit : (48 ≤ get_or s at 0 → get_or s at 0 ≤ 55 → ⊥) → Read FactorThen FactorStops s at d None
      no_digit n r u z =
          let b = plain (get_or s at 0) d (drop (at + 1) s) r u.0 u.1 (sym cut ∙ u.2) x in n b.0 b.1

      -- a digit 0 to 7
      pub one_digit : 48 ≤ get_or s at 0 → get_or s at 0 ≤ 55 → Read FactorThen FactorStops s at d (Some (at + 1))
      unfolding before
      one_digit h k =
          record {
            phrase = (
              digit (get_or s at 0 - 48),
              omega arith,
              cut
                  ∙ ap (λ (c : ℕ). c ∷ drop (at + 1) s) (back (get_or s at 0) h),
            );
            stops = tt;
            ahead = omega arith;
            inside =
                omega arith;
          }
        where
          back : (c : ℕ) → 48 ≤ c → c ≡ 48 + (c - 48)
          back c h = omega arith
