-- What the computed reading finds stands there.
use mathlib.Core.Path.{◌≡◌, refl, ap, ◌∙◌}
use mathlib.Core.Bool.{Bool, true, false, cond}
use mathlib.Core.List.{List, [], ◌∷◌}
use Prim.Native.Nat.{ℕ, zero, suc, ◌+◌, ◌-◌, ◌≤◌}
use native.Mathlib.Omega.{arith}
use lib.Dec.{ltb, eqb}
use borrow.Author.Tests.{ltb-false, eqb-true}
use Rattle.formula_texts.specs.Trees.{
  Formula,
  Term,
  Factor,
  one_term,
  plus,
  one_factor,
  times,
  digit,
  bracketed,
  Within,
  TermWithin,
  FactorWithin,
}
use Rattle.formula_texts.specs.Reading.{before, term_before, factor_before}
use Rattle.formula_texts.specs.Reader.{
  Parsed,
  found,
  nothing,
  grown,
  follow,
  closed,
  inside,
  plain,
  read_formula,
  read_term,
  read_factor,
}

-- nothing found is no tree
never {ℓ} : {A : Type 0} {G : Type ℓ} {a : A} {r : List ℕ} → nothing ≡ found a r → G
never e = absurd (let z : ◌≡◌ {A = ℕ} 0 1 = cc in omega arith)

-- ---- what `follow` finds: P is known of the first tree, and Q follows of the whole
module _ {A B : Type 0} (b : ℕ) (one : A → B) (more : A → B → B) (k : List ℕ → Parsed B) (P : A → List ℕ → Type 0)
    (Q : B → List ℕ → Type 0)
    (alone : (a : A) (r : List ℕ) → P a r → Q (one a) r)
    (joined : (a : A) (c : B) (y r : List ℕ) → P a (b ∷ y) → k y ≡ found c r → Q (more a c) r) where
  -- joined on to what follows
  grows : (a : A) (o : Parsed B) (y : List ℕ) → k y ≡ o → P a (b ∷ y) → (c : B) (r : List ℕ)
      → grown (more a) o ≡ found c r → Q c r
  grows a (found d q) y e p c r f =
      let u : more a d ≡ c = cc in
      let v : q ≡ r = cc in
      rw v at (rw u at (joined a d y q p e))
  grows a nothing y e p c r f = never f

  -- either way
  follow_sound : (o : Parsed A) → ((a : A) (r : List ℕ) → o ≡ found a r → P a r) → (c : B) (r : List ℕ)
      → follow b one more k o ≡ found c r → Q c r
  follow_sound nothing h c r e = never e
  follow_sound (found a []) h c r e =
      let u : one a ≡ c = cc in
      let v : [] ≡ r = cc in
      rw v at (rw u at (alone a [] (h a [] refl)))
  follow_sound (found a (x ∷ y)) h c r e = by (eqb x b) refl e
    where
      by : (t : Bool) → eqb x b ≡ t → cond t (grown (more a) (k y)) (found (one a) (x ∷ y)) ≡ found c r → Q c r
      by true q f = grows a (k y) y refl (rw (eqb-true x b q) at (h a (x ∷ y) refl)) c r f
      by false q f =
          let u : one a ≡ c = cc in
          let v : x ∷ y ≡ r = cc in
          rw v at (rw u at (alone a (x ∷ y) (h a (x ∷ y) refl)))

-- ---- factors
-- by other names
same_factor : {y z : Factor} {q r : List ℕ} (d : ℕ) (x : List ℕ) → y ≡ z → q ≡ r
    → FactorWithin y d × (x ≡ factor_before y q) → FactorWithin z d × (x ≡ factor_before z r)
same_factor d x u v w = rw v at (rw u at w)

-- a digit
plain_sound : (c : ℕ) (x r : List ℕ) (y : Factor) (d : ℕ) → plain c x ≡ found y r
    → FactorWithin y d × (c ∷ x ≡ factor_before y r)
unfolding before
plain_sound c x r y d e = by (ltb c 48) (ltb 55 c) refl refl e
  where
    back' : (c : ℕ) → 48 ≤ c → c ≡ 48 + (c - 48)
    back' c h = omega arith

    by : (t u : Bool) → ltb c 48 ≡ t → ltb 55 c ≡ u
        → cond t nothing (cond u nothing (found (digit (c - 48)) x)) ≡ found y r
        → FactorWithin y d × (c ∷ x ≡ factor_before y r)
    by true u p q f = never f
    by false true p q f = never f
    by false false p q f =
        let l : 48 ≤ c = ltb-false c 48 p in
        let m : c ≤ 55 = ltb-false 55 c q in
        let u : digit (c - 48) ≡ y = cc in
        let v : x ≡ r = cc in
        let w : FactorWithin (digit (c - 48)) d × (c ∷ x ≡ factor_before (digit (c - 48)) x) =
        (omega arith, ap (λ (z : ℕ). z ∷ x) (back' c l)) in
        same_factor d (c ∷ x) u v w

-- a formula and ")", after "("
closed_sound : (o : Parsed Formula) (y : Factor) (r : List ℕ) (d : ℕ) (x : List ℕ)
    → ((f : Formula) (q : List ℕ) → o ≡ found f q → Within f d × (x ≡ before f q)) → closed o ≡ found y r
    → FactorWithin y (suc d) × (40 ∷ x ≡ factor_before y r)
unfolding before
closed_sound (found f []) y r d x h e = never e
closed_sound (found f (c ∷ q)) y r d x h e = by (eqb c 41) refl e
  where
    by : (t : Bool) → eqb c 41 ≡ t → cond t (found (bracketed f) q) nothing ≡ found y r
        → FactorWithin y (suc d) × (40 ∷ x ≡ factor_before y r)
    by true p g =
        let i = h f (c ∷ q) refl in
        let u : bracketed f ≡ y = cc in
        let v : q ≡ r = cc in
        let w : FactorWithin (bracketed f) (suc d) × (40 ∷ x ≡ factor_before (bracketed f) q) =
        (i.0, ap (λ (z : List ℕ). 40 ∷ z) (i.1 ∙ ap (λ (z : ℕ). before f (z ∷ q)) (eqb-true c 41 p))) in
        same_factor (suc d) (40 ∷ x) u v w
    by false p g = never g
closed_sound nothing y r d x h e = never e

-- with an allowance
inside_sound : (d : ℕ) (k : ℕ → Parsed Formula) (y : Factor) (r x : List ℕ)
    → ((e : ℕ) (f : Formula) (q : List ℕ) → k e ≡ found f q → Within f e × (x ≡ before f q))
    → inside d k ≡ found y r → FactorWithin y d × (40 ∷ x ≡ factor_before y r)
inside_sound zero k y r x h e = never e
inside_sound (suc d) k y r x h e = closed_sound (k d) y r d x (h d) e

-- either
factor_split : (c d : ℕ) (x r : List ℕ) (y : Factor) (k : ℕ → Parsed Formula)
    → ((e : ℕ) (f : Formula) (q : List ℕ) → k e ≡ found f q → Within f e × (x ≡ before f q))
    → cond (eqb c 40) (inside d k) (plain c x) ≡ found y r → FactorWithin y d × (c ∷ x ≡ factor_before y r)
factor_split c d x r y k h e = by (eqb c 40) refl e
  where
    by : (t : Bool) → eqb c 40 ≡ t → cond t (inside d k) (plain c x) ≡ found y r
        → FactorWithin y d × (c ∷ x ≡ factor_before y r)
    by true q f = let i = inside_sound d k y r x h f in (i.0, ap (λ (z : ℕ). z ∷ x) (eqb-true c 40 q) ∙ i.1)
    by false q f = plain_sound c x r y d f

mutual
  unfolding before read_formula

  -- what is found stands there, within the allowance; for `reading_sound`
  pub formula_sound : (n d : ℕ) (x : List ℕ) (f : Formula) (r : List ℕ) → read_formula n d x ≡ found f r
      → Within f d × (x ≡ before f r)
  formula_sound zero d x f r e = never e
  formula_sound (suc n) d x f r e =
      follow_sound 43 one_term plus (λ y. read_formula n d y) (λ t q. TermWithin t d × (x ≡ term_before t q))
      (λ g q. Within g d × (x ≡ before g q))
      (λ t q h. h)
      (λ t g y q h i. let s = formula_sound n d y g q i in
      ((h.0, s.0), h.1 ∙ ap (λ (z : List ℕ). term_before t (43 ∷ z)) s.1))
      (read_term n d x) (λ t q i. term_sound n d x t q i) f r e

  term_sound : (n d : ℕ) (x : List ℕ) (t : Term) (r : List ℕ) → read_term n d x ≡ found t r
      → TermWithin t d × (x ≡ term_before t r)
  term_sound zero d x f r e = never e
  term_sound (suc n) d x f r e =
      follow_sound 42 one_factor times (λ y. read_term n d y) (λ t q. FactorWithin t d × (x ≡ factor_before t q))
      (λ g q. TermWithin g d × (x ≡ term_before g q))
      (λ t q h. h)
      (λ t g y q h i. let s = term_sound n d y g q i in
      ((h.0, s.0), h.1 ∙ ap (λ (z : List ℕ). factor_before t (42 ∷ z)) s.1))
      (read_factor n d x) (λ t q i. factor_sound n d x t q i) f r e

  factor_sound : (n d : ℕ) (x : List ℕ) (y : Factor) (r : List ℕ) → read_factor n d x ≡ found y r
      → FactorWithin y d × (x ≡ factor_before y r)
  factor_sound zero d x y r e = never e
  factor_sound (suc n) d [] y r e = never e
  factor_sound (suc n) d (c ∷ x) y r e =
      factor_split c d x r y (λ e'. read_formula n e' x) (λ e' f q i. formula_sound n e' x f q i) e
