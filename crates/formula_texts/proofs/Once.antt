-- A tree is found again from its bytes and those that follow, where the tree cannot go on in them.
use mathlib.Core.Path.{◌≡◌, refl, sym, ap, ◌∙◌}
use mathlib.Core.List.{List, [], ◌∷◌, ◌++◌, append-nil, append_assoc}
use Prim.Native.Nat.{ℕ, ◌+◌}
use native.Mathlib.Omega.{arith}
use Rattle.formula_texts.specs.Trees.{
  Formula,
  Term,
  Factor,
  one_term,
  plus,
  one_factor,
  times,
  digit,
  bracketed,
  text,
  term_text,
  factor_text,
}
use Rattle.formula_texts.specs.Reading.{before, term_before, factor_before, Apart, TermStops, FormulaStops}

-- ---- the bytes of a tree, and then r
mutual
  unfolding before text

  -- `before` is the text and then r
  pub before_is : (f : Formula) (r : List ℕ) → before f r ≡ text f ++ r
  before_is (one_term t) r = term_before_is t r
  before_is (plus t f) r =
      term_before_is t (43 ∷ before f r) ∙ rw (before_is f r) (sym (append_assoc (term_text t) (43 ∷ text f) r))

  term_before_is : (t : Term) (r : List ℕ) → term_before t r ≡ term_text t ++ r
  term_before_is (one_factor x) r = factor_before_is x r
  term_before_is (times x t) r =
      factor_before_is x (42 ∷ term_before t r)
      ∙ rw (term_before_is t r) (sym (append_assoc (factor_text x) (42 ∷ term_text t) r))

  factor_before_is : (x : Factor) (r : List ℕ) → factor_before x r ≡ factor_text x ++ r
  factor_before_is (digit n) r = refl
  factor_before_is (bracketed f) r =
      rw (before_is f (41 ∷ r)) (ap (λ (y : List ℕ). 40 ∷ y) (sym (append_assoc (text f) (41 ∷ []) r)))

-- ---- lists of bytes
-- of equal lists the first bytes are equal
pub head_same : {a b : ℕ} {x y : List ℕ} → a ∷ x ≡ b ∷ y → a ≡ b
head_same e = cc

-- and so are the others
pub tail_same : {a b : ℕ} {x y : List ℕ} → a ∷ x ≡ b ∷ y → x ≡ y
tail_same e = cc

-- what does not begin with b is no list that does
pub apart_not : (b : ℕ) (r x : List ℕ) → Apart b r → r ≡ b ∷ x → ⊥
apart_not b [] x a e = let z : ◌≡◌ {A = ℕ} 0 1 = cc in omega arith
apart_not b (y ∷ r) x a e = a (head_same e)

-- ---- one tree, one rest
mutual
  unfolding before

  -- the same bytes, in which neither goes on: the same formula, and the same bytes after it
  pub formula_once : (f g : Formula) (r q : List ℕ) → FormulaStops r → FormulaStops q → before f r ≡ before g q
      → (f ≡ g) × (r ≡ q)
  formula_once (one_term t) (one_term u) r q h k e =
      let o = term_once t u r q h.0 k.0 e in (ap one_term o.0, o.1)
  formula_once (one_term t) (plus u g) r q h k e =
      absurd (apart_not 43 r _ h.1 (term_once t u r (43 ∷ before g q) h.0 (tt, λ z. omega arith) e).1)
  formula_once (plus t f) (one_term u) r q h k e =
      absurd (apart_not 43 q _ k.1 (sym (term_once t u (43 ∷ before f r) q (tt, λ z. omega arith) k.0 e).1))
  formula_once (plus t f) (plus u g) r q h k e =
      let o = term_once t u (43 ∷ before f r) (43 ∷ before g q) (tt, λ z. omega arith) (tt, λ z. omega arith) e in
      let i = formula_once f g r q h k (tail_same o.1) in
      let a : t ≡ u = o.0 in
      let b : f ≡ g = i.0 in
      (cc, i.1)

  -- the same of terms
  pub term_once : (t u : Term) (r q : List ℕ) → TermStops r → TermStops q → term_before t r ≡ term_before u q
      → (t ≡ u) × (r ≡ q)
  term_once (one_factor x) (one_factor y) r q h k e =
      let o = factor_once x y r q e in (ap one_factor o.0, o.1)
  term_once (one_factor x) (times y u) r q h k e =
      absurd (apart_not 42 r _ h.1 (factor_once x y r (42 ∷ term_before u q) e).1)
  term_once (times x t) (one_factor y) r q h k e =
      absurd (apart_not 42 q _ k.1 (sym (factor_once x y (42 ∷ term_before t r) q e).1))
  term_once (times x t) (times y u) r q h k e =
      let o = factor_once x y (42 ∷ term_before t r) (42 ∷ term_before u q) e in
      let i = term_once t u r q h k (tail_same o.1) in
      let a : x ≡ y = o.0 in
      let b : t ≡ u = i.0 in
      (cc, i.1)

  -- and of factors, which never go on
  pub factor_once : (x y : Factor) (r q : List ℕ) → factor_before x r ≡ factor_before y q → (x ≡ y) × (r ≡ q)
  factor_once (digit n) (digit m) r q e =
      let a : 48 + n ≡ 48 + m = head_same e in
      let b : n ≡ m = omega arith in
      (ap digit b, tail_same e)
  factor_once (digit n) (bracketed g) r q e = let a : 48 + n ≡ 40 = head_same e in absurd (omega arith)
  factor_once (bracketed f) (digit m) r q e = let a : 40 ≡ 48 + m = head_same e in absurd (omega arith)
  factor_once (bracketed f) (bracketed g) r q e =
      let o = formula_once f g (41 ∷ r) (41 ∷ q) ((tt, λ z. omega arith), λ z. omega arith)
      ((tt, λ z. omega arith), λ z. omega arith) (tail_same e) in
      (ap bracketed o.0, tail_same o.1)

-- each text has one reading
pub one_reading : (f g : Formula) → text f ≡ text g → f ≡ g
one_reading f g e =
    (formula_once f g [] [] ((tt, tt), tt) ((tt, tt), tt)
    (before_is f [] ∙ append-nil (text f) ∙ e ∙ sym (append-nil (text g)) ∙ sym (before_is g []))).0
