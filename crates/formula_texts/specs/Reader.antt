-- The reading of a text, as a function that computes: for the model, which "is given the text too".
use Rattle.std.specs.Prelude.{Bool, true, false, cond, List, [], ◌∷◌, ℕ, zero, suc, ◌-◌, ◌*◌, length, ltb, leb, eqb}
use Rattle.formula_texts.specs.Trees.{
  Formula,
  Term,
  Factor,
  one_term,
  plus,
  one_factor,
  times,
  digit,
  bracketed,
  max_bytes,
  max_brackets,
}

-- a tree and the bytes after it
pub data Parsed (A : Type 0) : Type 0 where
  found : A → List ℕ → Parsed A
  nothing : Parsed A

-- a step on the tree that was found
abbrev pub grown : {A B : Type 0} → (A → B) → Parsed A → Parsed B
grown h (found a r) = found (h a) r
grown h nothing = nothing

-- after a first tree: where the byte b follows, the tree of what is behind it is joined on
abbrev pub follow : {A B : Type 0} → ℕ → (A → B) → (A → B → B) → (List ℕ → Parsed B) → Parsed A → Parsed B
follow b one more k (found a []) = found (one a) []
follow b one more k (found a (x ∷ r)) = cond (eqb x b) (grown (more a) (k r)) (found (one a) (x ∷ r))
follow b one more k nothing = nothing

-- a formula that ")" follows is a factor in brackets
abbrev pub closed : Parsed Formula → Parsed Factor
closed (found f []) = nothing
closed (found f (x ∷ r)) = cond (eqb x 41) (found (bracketed f) r) nothing
closed nothing = nothing

-- the allowance falls by one inside a bracket
abbrev pub inside : ℕ → (ℕ → Parsed Formula) → Parsed Factor
inside zero k = nothing
inside (suc d) k = closed (k d)

-- the byte c as a digit 0 to 7, before the bytes x
abbrev pub plain : ℕ → List ℕ → Parsed Factor
plain c x = cond (ltb c 48) nothing (cond (ltb 55 c) nothing (found (digit (c - 48)) x))

-- the first number bounds how deep the calls go, the second is the bracket allowance
unfoldable mutual
  pub read_formula : ℕ → ℕ → List ℕ → Parsed Formula
  read_formula zero d x = nothing
  read_formula (suc n) d x = follow 43 one_term plus (λ y. read_formula n d y) (read_term n d x)

  pub read_term : ℕ → ℕ → List ℕ → Parsed Term
  read_term zero d x = nothing
  read_term (suc n) d x = follow 42 one_factor times (λ y. read_term n d y) (read_factor n d x)

  pub read_factor : ℕ → ℕ → List ℕ → Parsed Factor
  read_factor zero d x = nothing
  read_factor (suc n) d [] = nothing
  read_factor (suc n) d (c ∷ x) = cond (eqb c 40) (inside d (λ e. read_formula n e x)) (plain c x)

-- the tree of a whole text, or that it has none
pub data Outcome : Type 0 where
  read_as : Formula → Outcome
  unreadable : Outcome

-- nothing may follow the tree
abbrev pub whole : Parsed Formula → Outcome
whole (found f []) = read_as f
whole (found f (x ∷ r)) = unreadable
whole nothing = unreadable

-- the reading of a text of at most 64 bytes; three calls to a byte are enough
unfoldable pub reading : List ℕ → Outcome
reading s = cond (leb (length s) max_bytes) (whole (read_formula (3 * length s) max_brackets s)) unreadable

-- whether a text is in the language, as a Boolean value that computes
abbrev pub readable : Outcome → Bool
readable (read_as f) = true
readable unreadable = false

-- of a text
abbrev pub accepted : List ℕ → Bool
accepted s = readable (reading s)
