-- The language of formulas (document 02, A8): "a formula is terms joined by +, a term is factors joined by *, a factor
-- is a digit 0 to 7 or a formula in round brackets". The terms of a formula and the factors of a term stand in the
-- order of the text; specs/Grouped has the grouping "from left to right".
use Rattle.std.specs.Prelude.{◌≡◌, List, [], ◌∷◌, ◌++◌, ℕ, zero, suc, ◌+◌, ◌≤◌, ◌<◌, length}

-- "At most 64 bytes"
abbrev pub max_bytes : ℕ
max_bytes = 64

-- "at most three brackets open at once"
abbrev pub max_brackets : ℕ
max_brackets = 3

mutual
  pub data Formula : Type 0 where
    one_term : Term → Formula
    plus : Term → Formula → Formula

  pub data Term : Type 0 where
    one_factor : Factor → Term
    times : Factor → Term → Term

  pub data Factor : Type 0 where
    digit : ℕ → Factor
    bracketed : Formula → Factor

-- the text of a tree, in bytes: "+" is 43, "*" 42, "(" 40, ")" 41, "0" 48
unfoldable mutual
  pub text : Formula → List ℕ
  text (one_term t) = term_text t
  text (plus t f) = term_text t ++ 43 ∷ text f

  pub term_text : Term → List ℕ
  term_text (one_factor x) = factor_text x
  term_text (times x t) = factor_text x ++ 42 ∷ term_text t

  pub factor_text : Factor → List ℕ
  factor_text (digit n) = (48 + n) ∷ []
  factor_text (bracketed f) = 40 ∷ text f ++ 41 ∷ []

-- every digit is 0 to 7, and at most d brackets are open at once
abbrev mutual
  pub Within : Formula → ℕ → Type 0
  Within (one_term t) d = TermWithin t d
  Within (plus t f) d = TermWithin t d × Within f d

  pub TermWithin : Term → ℕ → Type 0
  TermWithin (one_factor x) d = FactorWithin x d
  TermWithin (times x t) d = FactorWithin x d × TermWithin t d

  pub FactorWithin : Factor → ℕ → Type 0
  FactorWithin (digit n) d = n < 8
  FactorWithin (bracketed f) zero = ⊥
  FactorWithin (bracketed f) (suc d) = Within f d

-- f is a reading of the text s; that there are "no blanks" is in `text`, which has none
pub record Reading (s : List ℕ) (f : Formula) : Type 0 where
  pub within : Within f max_brackets
  pub written : text f ≡ s
  pub short : length s ≤ max_bytes

-- "in this language"
abbrev pub InLanguage : List ℕ → Type 0
InLanguage s = (f : Formula) × Reading s f
