-- What the code reads: a phrase at the front of the bytes, and the bytes that follow it.
use Rattle.std.specs.Prelude.{
  ◌≡◌,
  Bool,
  true,
  false,
  Option,
  Some,
  None,
  List,
  [],
  ◌∷◌,
  ℕ,
  ◌+◌,
  ◌≤◌,
  ◌<◌,
  length,
  get_or,
  drop,
}
use Rattle.formula_texts.specs.Trees.{
  Formula,
  Term,
  Factor,
  one_term,
  plus,
  one_factor,
  times,
  digit,
  bracketed,
  Within,
  TermWithin,
  FactorWithin,
}

-- the bytes of a tree, and then the bytes r
unfoldable mutual
  pub before : Formula → List ℕ → List ℕ
  before (one_term t) r = term_before t r
  before (plus t f) r = term_before t (43 ∷ before f r)

  pub term_before : Term → List ℕ → List ℕ
  term_before (one_factor x) r = factor_before x r
  term_before (times x t) r = factor_before x (42 ∷ term_before t r)

  pub factor_before : Factor → List ℕ → List ℕ
  factor_before (digit n) r = (48 + n) ∷ r
  factor_before (bracketed f) r = 40 ∷ before f (41 ∷ r)

-- x begins with a formula that d brackets are enough for, and r follows it
abbrev pub FormulaThen : ℕ → List ℕ → List ℕ → Type 0
FormulaThen d x r = (f : Formula) × Within f d × (x ≡ before f r)

abbrev pub TermThen : ℕ → List ℕ → List ℕ → Type 0
TermThen d x r = (t : Term) × TermWithin t d × (x ≡ term_before t r)

abbrev pub FactorThen : ℕ → List ℕ → List ℕ → Type 0
FactorThen d x r = (y : Factor) × FactorWithin y d × (x ≡ factor_before y r)

-- r does not begin with the byte b
abbrev pub Apart : ℕ → List ℕ → Type 0
Apart b [] = Unit {0}
Apart b (x ∷ r) = x ≡ b → ⊥

-- nothing in r goes on with a factor, a term, a formula
abbrev pub FactorStops : List ℕ → Type 0
FactorStops r = Unit {0}

abbrev pub TermStops : List ℕ → Type 0
TermStops r = FactorStops r × Apart 42 r

abbrev pub FormulaStops : List ℕ → Type 0
FormulaStops r = TermStops r × Apart 43 r

-- from `at` on, s has a phrase up to q, and the phrase cannot go on there
pub record Ended (Then : ℕ → List ℕ → List ℕ → Type 0) (Stops : List ℕ → Type 0) (s : List ℕ) (at d q : ℕ) : Type 0
  where
    pub phrase : Then d (drop at s) (drop q s)
    pub stops : Stops (drop q s)
    pub ahead : at < q
    pub inside : q ≤ length s

-- what the answer says of s from `at` on
abbrev pub Read : (ℕ → List ℕ → List ℕ → Type 0) → (List ℕ → Type 0) → List ℕ → ℕ → ℕ → Option ℕ → Type 0
Read Then Stops s at d (Some q) = Ended Then Stops s at d q
Read Then Stops s at d None = (r : List ℕ) → Then d (drop at s) r → Stops r → ⊥

-- whether the byte at p is b
abbrev pub Stands : List ℕ → ℕ → ℕ → Bool → Type 0
Stands s p b true = (p < length s) × (get_or s p 0 ≡ b)
Stands s p b false = Apart b (drop p s)

-- whether A holds
abbrev pub Decides : Type 0 → Bool → Type 0
Decides A true = A
Decides A false = A → ⊥
