-- A formula is terms joined by "+", a term is factors joined by "*": the steps of both readings, once.
use mathlib.Core.Path.{◌≡◌, refl, sym, ap, ◌∙◌}
use mathlib.Core.List.{List, ◌∷◌}
use Prim.Native.Nat.{ℕ, ◌+◌, ◌<◌}
use native.Mathlib.Numerals.{add-one}
use native.Mathlib.Omega.{arith}
use lib.ListN.{length, get_or, drop}
use lib.Seq.{drop-cons}
use Rattle.std.specs.Prelude.{Option, Some, None}
use Rattle.formula_texts.specs.Trees.{Formula, Term, one_term, plus, one_factor, times, Within, TermWithin}
use Rattle.formula_texts.specs.Reading.{
  before,
  term_before,
  factor_before,
  FormulaThen,
  TermThen,
  FactorThen,
  Apart,
  FactorStops,
  TermStops,
  Ended,
  Read,
}
use Rattle.formula_texts.proofs.Once.{tail_same, apart_not, term_once, factor_once}

-- ---- a byte of s, and what follows it; also for `formula_evaluation`
-- b stands at p
pub at_byte : (s : List ℕ) (p b : ℕ) → p < length s → get_or s p 0 ≡ b → drop p s ≡ b ∷ drop (p + 1) s
at_byte s p b h e = drop-cons s p 0 h ∙ rw (e, add-one)

-- ---- phrases of one kind are phrases of another kind, joined by b
-- such a phrase is one of the other kind alone, or that and b and more
pub data Splits (Then Then' : ℕ → List ℕ → List ℕ → Type 0) (b d : ℕ) (x r : List ℕ) : Type 0 where
  alone : Then' d x r → Splits Then Then' b d x r
  joined : (y : List ℕ) → Then' d x (b ∷ y) → Then d y r → Splits Then Then' b d x r

-- all that the readings of both use
pub record Joins (Then Then' : ℕ → List ℕ → List ℕ → Type 0) (Stops' : List ℕ → Type 0) (b : ℕ) : Type 0 where
  pub only : (d : ℕ) (x r : List ℕ) → Then' d x r → Then d x r
  pub more : (d : ℕ) (x y r : List ℕ) → Then' d x (b ∷ y) → Then d y r → Then d x r
  pub split : (d : ℕ) (x r : List ℕ) → Then d x r → Splits Then Then' b d x r
  pub once : (d : ℕ) (x r q : List ℕ) → Stops' r → Stops' q → Then' d x r → Then' d x q → r ≡ q
  pub between : (y : List ℕ) → Stops' (b ∷ y)

-- a formula is terms joined by "+"
pub terms : Joins FormulaThen TermThen TermStops 43
unfolding before
terms = record {
  only = λ d x r h. (one_term h.0, h.1, h.2);
  more =
      λ d x y r h k. (plus h.0 k.0, (h.1, k.1), h.2 ∙ ap (λ (z : List ℕ). term_before h.0 (43 ∷ z)) k.2);
  split = λ d x r h. go d x r h.0 h.1 h.2;
  once = λ d x r q h k u v. (term_once u.0 v.0 r q h k (sym u.2 ∙ v.2)).1;
  between = λ y. (tt, λ z. omega arith);
}
  where
    go : (d : ℕ) (x r : List ℕ) (f : Formula) → Within f d → x ≡ before f r → Splits FormulaThen TermThen 43 d x r
    go d x r (one_term t) w e = alone (t, w, e)
    go d x r (plus t f) w e = joined (before f r) (t, w.0, e) (f, w.1, refl)

-- a term is factors joined by "*"
pub factors : Joins TermThen FactorThen FactorStops 42
unfolding before
factors = record {
  only = λ d x r h. (one_factor h.0, h.1, h.2);
  more =
      λ d x y r h k. (
        times h.0 k.0,
        (h.1, k.1),
        h.2
            ∙ ap (λ (z : List ℕ). factor_before h.0 (42 ∷ z)) k.2,
      );
  split = λ d x r h. go d x r h.0 h.1 h.2;
  once = λ d x r q h k u v. (factor_once u.0 v.0 r q (sym u.2 ∙ v.2)).1;
  between = λ y. tt;
}
  where
    go : (d : ℕ) (x r : List ℕ) (t : Term) → TermWithin t d → x ≡ term_before t r
        → Splits TermThen FactorThen 42 d x r
    go d x r (one_factor y) w e = alone (y, w, e)
    go d x r (times y t) w e = joined (term_before t r) (y, w.0, e) (t, w.1, refl)

-- ---- the answers of `formula` and of `term`
module _ {Then Then' : ℕ → List ℕ → List ℕ → Type 0} {Stops' : List ℕ → Type 0} {b : ℕ} (J : Joins Then Then' Stops' b)
    (s : List ℕ) (at d : ℕ) where
  -- no first phrase: none at all
  pub no_first : Read Then' Stops' s at d None → Read Then (λ r. Stops' r × Apart b r) s at d None
  no_first h r k z = go (J.split d (drop at s) r k)
    where
      go : Splits Then Then' b d (drop at s) r → ⊥
      go (alone u) = h r u z.0
      go (joined y u v) = h (b ∷ y) u (J.between y)

  module _ (p : ℕ) (first : Ended Then' Stops' s at d p) where
    -- b does not follow the first phrase: it is the whole
    pub first_alone : Apart b (drop p s) → Read Then (λ r. Stops' r × Apart b r) s at d (Some p)
    first_alone a =
        record {
          phrase = J.only d _ _ first.phrase;
          stops = (first.stops, a);
          ahead = first.ahead;
          inside = first.inside;
        }

    -- b follows: the rest decides
    pub first_joined : (o : Option ℕ) → (p < length s) × (get_or s p 0 ≡ b)
        → Read Then (λ r. Stops' r × Apart b r) s (p + 1) d o → Read Then (λ r. Stops' r × Apart b r) s at d o
    first_joined (Some q) l k =
        record {
          phrase = J.more d _ _ _ (rw (at_byte s p b l.0 l.1) at first.phrase) k.phrase;
          stops = k.stops;
          ahead = omega (arith, first.ahead, k.ahead);
          inside = k.inside;
        }
    first_joined None l k = λ r u z. go r z (J.split d (drop at s) r u)
      where
        follows : drop p s ≡ b ∷ drop (p + 1) s
        follows = at_byte s p b l.0 l.1

        go : (r : List ℕ) → Stops' r × Apart b r → Splits Then Then' b d (drop at s) r → ⊥
        go r z (alone v) =
            apart_not b r _ z.1 (J.once d (drop at s) r (drop p s) z.0 first.stops v first.phrase ∙ follows)
        go r z (joined y v w) =
            let same : b ∷ y ≡ drop p s = J.once d (drop at s) (b ∷ y) (drop p s) (J.between y) first.stops v
            first.phrase in
            let tail : y ≡ drop (p + 1) s = tail_same (same ∙ follows) in
            k r (rw tail at w) z
