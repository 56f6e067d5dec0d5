-- Two inverses one behind the other, in zeros: what the parts hold that `invert` is lent, and where the inverses stand.
use Prim.Native.Nat.{ℕ, ◌+◌, ◌-◌}
use native.Mathlib.Omega.{arith}
use mathlib.Core.Path.{◌≡◌, sym, ap, ◌∙◌}
use mathlib.Core.List.{List, [], ◌++◌, append-nil}
use lib.ListN.{length, take, drop, replicate, length-append, length-drop, length-replicate, replicate-append-replicate}
use lib.Seq.{take_all, drop-length, take-append_seam, drop-append_seam}
use borrow.Rule.Slice.PartMut.{put_mid}

module _ (n : ℕ) (w : List ℕ) (z : w ≡ replicate (n + n) 0) where
  halves : w ≡ replicate n 0 ++ replicate n 0
  halves = z ∙ sym (replicate-append-replicate {A = ℕ} n n 0)

  pub both_long : length w ≡ n + n
  both_long = ap length z ∙ length-replicate {A = ℕ} (n + n) 0

  pub first_zeros : take n w ≡ replicate n 0
  first_zeros =
      ap (take n) halves
      ∙ ap (λ (k : ℕ). take k (replicate n 0 ++ replicate n 0)) (sym (length-replicate {A = ℕ} n 0))
      ∙ take-append_seam (replicate n 0) (replicate n 0)

  rest_zeros : drop n w ≡ replicate n 0
  rest_zeros =
      ap (drop n) halves
      ∙ ap (λ (k : ℕ). drop k (replicate n 0 ++ replicate n 0)) (sym (length-replicate {A = ℕ} n 0))
      ∙ drop-append_seam (replicate n 0) (replicate n 0)

  -- x stands in the first part
  module _ (x : List ℕ) (p : length x ≡ n) where
    abbrev first : List ℕ
    first = x ++ drop n w

    pub first_long : length first ≡ n + n
    first_long = length-append x (drop n w) ∙ simp length-drop (omega (arith, both_long))

    behind : drop n first ≡ replicate n 0
    behind = ap (λ (k : ℕ). drop k first) (sym p) ∙ drop-append_seam x (drop n w) ∙ rest_zeros

    pub second_zeros : take (length first - n) (drop n first) ≡ replicate n 0
    second_zeros =
        ap (take (length first - n)) behind
        ∙ take_all (length first - n) (replicate n 0) (omega (arith, first_long, length-replicate {A = ℕ} n 0))

    -- and y in the second
    module _ (y : List ℕ) (q : length y ≡ n) where
      abbrev both : List ℕ
      both = put_mid n (length first - n) first y

      front : take n first ≡ x
      front = ap (λ (k : ℕ). take k first) (sym p) ∙ take-append_seam x (drop n w)

      none : drop (length first - n) (drop n first) ≡ []
      none =
          ap (drop (length first - n)) behind
          ∙ ap (λ (k : ℕ). drop k (replicate n 0))
          (let l : length first - n ≡ n = omega (arith, first_long) in l ∙ sym (length-replicate {A = ℕ} n 0))
          ∙ drop-length (replicate n 0)

      together : both ≡ x ++ y
      together =
          ap (λ (t : List ℕ). take n first ++ (y ++ t)) none
          ∙ ap (λ (t : List ℕ). take n first ++ t) (append-nil y) ∙ ap (λ (t : List ℕ). t ++ y) front

      pub first_part : take n both ≡ x
      first_part =
          ap (take n) together ∙ ap (λ (k : ℕ). take k (x ++ y)) (sym p) ∙ take-append_seam x y

      pub second_part : drop n both ≡ y
      second_part =
          ap (drop n) together ∙ ap (λ (k : ℕ). drop k (x ++ y)) (sym p) ∙ drop-append_seam x y
