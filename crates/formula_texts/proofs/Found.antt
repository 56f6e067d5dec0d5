-- The computed reading finds the tree of every text of the language.
use mathlib.Core.Path.{◌≡◌, refl, ap, ◌∙◌}
use mathlib.Core.List.{List, [], ◌∷◌}
use Prim.Native.Nat.{ℕ, zero, suc, ◌+◌, ◌-◌, ◌*◌, ◌≤◌}
use native.Mathlib.Omega.{arith}
use lib.ListN.{length, length-append}
use borrow.Author.Tests.{le-ltb, ne_eqb}
use Rattle.formula_texts.specs.Trees.{
  Formula,
  Term,
  Factor,
  one_term,
  plus,
  one_factor,
  times,
  digit,
  bracketed,
  Within,
  TermWithin,
  FactorWithin,
  text,
  term_text,
  factor_text,
}
use Rattle.formula_texts.specs.Reading.{before, term_before, factor_before, Apart, TermStops, FormulaStops}
use Rattle.formula_texts.specs.Reader.{Parsed, found, grown, follow, closed, read_formula, read_term, read_factor}

-- ---- how deep the calls go, and the bytes that pay for it
mutual
  -- the depth that reading a tree takes
  pub need : Formula → ℕ
  need (one_term t) = term_need t + 1
  need (plus t f) = term_need t + need f + 1

  term_need : Term → ℕ
  term_need (one_factor x) = factor_need x + 1
  term_need (times x t) = factor_need x + term_need t + 1

  factor_need : Factor → ℕ
  factor_need (digit n) = 1
  factor_need (bracketed f) = need f + 1

mutual
  unfolding need text

  -- at most three for each byte of its text
  pub paid : (f : Formula) → need f ≤ 3 * length (text f)
  paid (one_term t) = omega (arith, term_paid t)
  paid (plus t f) = rw (length-append (term_text t) (43 ∷ text f)) (omega (arith, term_paid t, paid f))

  term_paid : (t : Term) → term_need t + 1 ≤ 3 * length (term_text t)
  term_paid (one_factor x) = omega (arith, factor_paid x)
  term_paid (times x t) =
      rw (length-append (factor_text x) (42 ∷ term_text t)) (omega (arith, factor_paid x, term_paid t))

  factor_paid : (x : Factor) → factor_need x + 2 ≤ 3 * length (factor_text x)
  factor_paid (digit n) = omega arith
  factor_paid (bracketed f) = rw (length-append (text f) (41 ∷ [])) (omega (arith, paid f))

-- ---- a tree is found where its bytes stand
back : (k : ℕ) → 48 + k - 48 ≡ k
back k = omega arith

module _ {A B : Type 0} (b : ℕ) (one : A → B) (more : A → B → B) (k : List ℕ → Parsed B) where
  -- where b does not follow, the first tree is the whole
  follow_ends : (a : A) (r : List ℕ) → Apart b r → follow b one more k (found a r) ≡ found (one a) r
  follow_ends a [] h = refl
  follow_ends a (x ∷ r) h = rw (ne_eqb x b h)

mutual
  unfolding need before read_formula

  -- `read_formula` finds f before r, where f cannot go on in r; for `reading_found`
  pub formula_found : (f : Formula) (n d : ℕ) (r : List ℕ) → Within f d → FormulaStops r → need f ≤ n
      → read_formula n d (before f r) ≡ found f r
  formula_found (one_term t) zero d r w s l = absurd (omega arith)
  formula_found (one_term t) (suc n) d r w s l =
      ap (λ (o : Parsed Term). follow 43 one_term plus (λ y. read_formula n d y) o)
      (term_found t n d r w s.0 (omega arith))
      ∙ follow_ends 43 one_term plus (λ y. read_formula n d y) t r s.1
  formula_found (plus t f) zero d r w s l = absurd (omega arith)
  formula_found (plus t f) (suc n) d r w s l =
      ap (λ (o : Parsed Term). follow 43 one_term plus (λ y. read_formula n d y) o)
      (term_found t n d (43 ∷ before f r) w.0 (tt, λ z. omega arith) (omega arith))
      ∙ ap (λ (o : Parsed Formula). grown (plus t) o) (formula_found f n d r w.1 s (omega arith))

  term_found : (t : Term) (n d : ℕ) (r : List ℕ) → TermWithin t d → TermStops r → term_need t ≤ n
      → read_term n d (term_before t r) ≡ found t r
  term_found (one_factor x) zero d r w s l = absurd (omega arith)
  term_found (one_factor x) (suc n) d r w s l =
      ap (λ (o : Parsed Factor). follow 42 one_factor times (λ y. read_term n d y) o)
      (factor_found x n d r w (omega arith))
      ∙ follow_ends 42 one_factor times (λ y. read_term n d y) x r s.1
  term_found (times x t) zero d r w s l = absurd (omega arith)
  term_found (times x t) (suc n) d r w s l =
      ap (λ (o : Parsed Factor). follow 42 one_factor times (λ y. read_term n d y) o)
      (factor_found x n d (42 ∷ term_before t r) w.0 (omega arith))
      ∙ ap (λ (o : Parsed Term). grown (times x) o) (term_found t n d r w.1 s (omega arith))

  factor_found : (x : Factor) (n d : ℕ) (r : List ℕ) → FactorWithin x d → factor_need x ≤ n
      → read_factor n d (factor_before x r) ≡ found x r
  factor_found (digit k) zero d r w l = absurd (omega arith)
  factor_found (digit k) (suc n) d r w l =
      rw (ne_eqb (48 + k) 40 (λ z. omega arith), le-ltb (48 + k) 48 (omega arith), le-ltb 55 (48 + k) (omega arith))
      (ap (λ (m : ℕ). found (digit m) r) (back k))
  factor_found (bracketed f) zero d r w l = absurd (omega arith)
  factor_found (bracketed f) (suc n) zero r w l = absurd w
  factor_found (bracketed f) (suc n) (suc d) r w l =
      ap closed (formula_found f n d (41 ∷ r) w ((tt, λ z. omega arith), λ z. omega arith) (omega arith))
