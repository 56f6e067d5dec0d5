-- The numbers of refusals.
use Rattle.std.proofs.Common.{ℕ, zero, suc, ◌<◌, ◌≡◌, refl, arith}
use Rattle.answers.specs.declared.Refusal.{Refusal}
use Rattle.answers.specs.declared.Refusal.TheVariants as refusal
use Rattle.answers.specs.Results.{number}

-- no refusal has the number 0
pub number_positive : (r : Refusal) → 0 < number r
number_positive refusal.FlagsOutOfRange = omega arith
number_positive refusal.UnknownOperator = omega arith
number_positive refusal.InvalidFirst = omega arith
number_positive refusal.InvalidSecond = omega arith
number_positive refusal.InvalidMask = omega arith
number_positive refusal.InvalidOutput = omega arith
number_positive refusal.IndexOutOfBounds = omega arith
number_positive refusal.InvalidShape = omega arith
number_positive refusal.WorkspaceTooShort = omega arith
number_positive refusal.TooManyEntries = omega arith
number_positive refusal.InsufficientSpace = omega arith
number_positive refusal.InvalidStore = omega arith
number_positive refusal.EmptySlot = omega arith
number_positive refusal.InvalidFormula = omega arith
number_positive refusal.InvalidFile = omega arith

pub number_not_0 : (r : Refusal) → number r ≡ 0 → ⊥
number_not_0 r e = let p = number_positive r in omega arith

-- every number of a refusal is below it
abbrev pub number_limit : ℕ
number_limit = 16

-- the refusal of a number
pub record Numbered (n : ℕ) : Type 0 where
  pub refusal : Refusal
  pub number_is : number refusal ≡ n

pub refusal_numbered : (n : ℕ) → (n ≡ 0 → ⊥) → n < number_limit → Numbered n
refusal_numbered zero f l = absurd (f refl)
refusal_numbered (suc zero) f l = record { refusal = refusal.FlagsOutOfRange; number_is = refl }
refusal_numbered (suc (suc zero)) f l = record { refusal = refusal.UnknownOperator; number_is = refl }
refusal_numbered (suc (suc (suc zero))) f l = record { refusal = refusal.InvalidFirst; number_is = refl }
refusal_numbered (suc (suc (suc (suc zero)))) f l = record { refusal = refusal.InvalidSecond; number_is = refl }
refusal_numbered (suc (suc (suc (suc (suc zero))))) f l = record { refusal = refusal.InvalidMask; number_is = refl }
refusal_numbered (suc (suc (suc (suc (suc (suc zero)))))) f l = record { refusal = refusal.InvalidOutput; number_is = refl }
refusal_numbered (suc (suc (suc (suc (suc (suc (suc zero))))))) f l = record { refusal = refusal.IndexOutOfBounds; number_is = refl }
refusal_numbered (suc (suc (suc (suc (suc (suc (suc (suc zero)))))))) f l = record { refusal = refusal.InvalidShape; number_is = refl }
refusal_numbered (suc (suc (suc (suc (suc (suc (suc (suc (suc zero))))))))) f l = record { refusal = refusal.WorkspaceTooShort; number_is = refl }
refusal_numbered (suc (suc (suc (suc (suc (suc (suc (suc (suc (suc zero)))))))))) f l = record { refusal = refusal.TooManyEntries; number_is = refl }
refusal_numbered (suc (suc (suc (suc (suc (suc (suc (suc (suc (suc (suc zero))))))))))) f l = record { refusal = refusal.InsufficientSpace; number_is = refl }
refusal_numbered (suc (suc (suc (suc (suc (suc (suc (suc (suc (suc (suc (suc zero)))))))))))) f l = record { refusal = refusal.InvalidStore; number_is = refl }
refusal_numbered (suc (suc (suc (suc (suc (suc (suc (suc (suc (suc (suc (suc (suc zero))))))))))))) f l = record { refusal = refusal.EmptySlot; number_is = refl }
refusal_numbered (suc (suc (suc (suc (suc (suc (suc (suc (suc (suc (suc (suc (suc (suc zero)))))))))))))) f l = record { refusal = refusal.InvalidFormula; number_is = refl }
refusal_numbered (suc (suc (suc (suc (suc (suc (suc (suc (suc (suc (suc (suc (suc (suc (suc zero))))))))))))))) f l = record { refusal = refusal.InvalidFile; number_is = refl }
refusal_numbered (suc (suc (suc (suc (suc (suc (suc (suc (suc (suc (suc (suc (suc (suc (suc (suc n)))))))))))))))) f l = absurd (omega arith)
