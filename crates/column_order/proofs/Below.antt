-- A fold over column numbers that keeps whether all were below a bound: what `all_below` cites.
use Prim.Native.Nat.{ℕ, zero, suc}
use mathlib.Core.Path.{◌≡◌, refl, sym, ap, ◌∙◌}
use mathlib.Core.Bool.{Bool, true, false, ◌&&◌}
use mathlib.Core.List.{List, [], ◌∷◌}
use lib.ListN.{length}
use lib.Dec.{ltb}
use Rattle.std.specs.List.{fold}
use Rattle.conditions.specs.Tests.{◌and◌, all}
use Rattle.conditions.proofs.Tests.{and_assoc}
use Rattle.words.specs.Words.{at}
use Rattle.column_order.specs.Falls.{all_below}

and_true : (b : Bool) → (b and true) ≡ b
unfolding ◌and◌
and_true true = refl
and_true false = refl

-- the test at the first number, and at those behind it
all_first : (n : ℕ) (p : ℕ → Bool) → all (suc n) p ≡ (p 0 and all n (λ k. p (suc k)))
unfolding all ◌and◌
all_first zero p = sym (and_true (p 0))
all_first (suc n) p = rw (all_first n p) (and_assoc (p 0) (all n (λ k. p (suc k))) (p (suc n)))

regroup : (v b a : Bool) → ((v && b) and a) ≡ (b and (v and a))
unfolding ◌and◌
regroup true true a = refl
regroup true false a = refl
regroup false true a = refl
regroup false false a = refl

-- a flag, kept while each number is below the bound
kept : (bound : ℕ) (b : Bool) (xs : List ℕ)
    → fold (λ b x. ltb x bound && b) b xs ≡ (b and all (length xs) (λ k. ltb (at xs k) bound))
unfolding all
kept bound b [] = sym (and_true b)
kept bound b (x ∷ xs) =
    kept bound (ltb x bound && b) xs ∙ regroup (ltb x bound) b (all (length xs) (λ k. ltb (at xs k) bound))
    ∙ ap (λ (a : Bool). b and a) (sym (all_first (length xs) (λ k. ltb (at (x ∷ xs) k) bound)))

pub below_kept : (bound : ℕ) (xs : List ℕ) → fold (λ b x. ltb x bound && b) true xs ≡ all_below bound xs
unfolding all_below ◌and◌
below_kept bound xs = kept bound true xs
