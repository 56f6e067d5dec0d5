-- Laws of `first_applying`: cases one after the other, and what is known where none applies.
use Prim.Native.Nat.{ℕ}
use mathlib.Core.Path.{◌≡◌, refl, sym, ◌∙◌}
use mathlib.Core.List.{List, [], ◌∷◌, ◌++◌}
use mathlib.Core.Bool.{Bool, true, false, cond}
use lib.Dec.{eqb}
use borrow.Author.Tests.{eqb-false}
use Rattle.refusals.specs.Cases.{Case, first_applying}

-- where the number is 0, the case does not apply, and the later ones give 0
pub record Later (x : Bool) (r : ℕ) : Type 0 where
  pub here : x ≡ false
  pub rest : r ≡ 0

pub later : (x : Bool) (n r : ℕ) → eqb n 0 ≡ false → cond x n r ≡ 0 → Later x r
later true n r f h = absurd (eqb-false n 0 f h)
later false n r f h = record { here = refl; rest = h }

-- a refusal among the first cases is that of all
pub applying_first : (xs ys : List Case) (n : ℕ) → n ≡ first_applying xs → (n ≡ 0 → ⊥) → n ≡ first_applying (xs ++ ys)
applying_first [] ys n e h = absurd (h e)
applying_first (x ∷ xs) ys n e h = go x.applies e (λ e. applying_first xs ys n e h)
  where
    go : (b : Bool) → n ≡ cond b x.number (first_applying xs) → (n ≡ first_applying xs → n ≡ first_applying (xs ++ ys))
        → n ≡ cond b x.number (first_applying (xs ++ ys))
    go true e f = e
    go false e f = f e

-- no case has the number 0
abbrev pub Numbered : List Case → Type 0
Numbered [] = Unit {0}
Numbered (x ∷ xs) = (eqb x.number 0 ≡ false) × Numbered xs

-- where none of the first cases applies, the later ones decide
pub applying_rest : (xs ys : List Case) → Numbered xs → first_applying xs ≡ 0 → first_applying (xs ++ ys) ≡ first_applying ys
applying_rest [] ys m h = refl
applying_rest (x ∷ xs) ys m h =
    let l = later x.applies x.number (first_applying xs) m.0 h in
    rw l.here (applying_rest xs ys m.1 l.rest)

-- where no case applies, none of the first does
pub applying_none : (xs ys : List Case) → Numbered xs → first_applying (xs ++ ys) ≡ 0 → first_applying xs ≡ 0
applying_none [] ys m h = refl
applying_none (x ∷ xs) ys m h =
    let l = later x.applies x.number (first_applying (xs ++ ys)) m.0 h in
    rw l.here (applying_none xs ys m.1 l.rest)

-- so none of the later ones does
pub applying_tail : (xs ys : List Case) → Numbered xs → first_applying (xs ++ ys) ≡ 0 → first_applying ys ≡ 0
applying_tail xs ys k h = sym (applying_rest xs ys k (applying_none xs ys k h)) ∙ h

-- cases that come after others matter only where none of these applies
pub applying_after : (xs ys zs : List Case) → (first_applying xs ≡ 0 → first_applying ys ≡ first_applying zs)
    → first_applying (xs ++ ys) ≡ first_applying (xs ++ zs)
applying_after [] ys zs f = f refl
applying_after (x ∷ xs) ys zs f = go x.applies f (λ g. applying_after xs ys zs g)
  where
    go : (b : Bool) → (cond b x.number (first_applying xs) ≡ 0 → first_applying ys ≡ first_applying zs)
        → ((first_applying xs ≡ 0 → first_applying ys ≡ first_applying zs)
        → first_applying (xs ++ ys) ≡ first_applying (xs ++ zs))
        → cond b x.number (first_applying (xs ++ ys)) ≡ cond b x.number (first_applying (xs ++ zs))
    go true f r = refl
    go false f r = r f
