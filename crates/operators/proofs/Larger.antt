-- MAX on words is a least upper bound in the order of the numbers that the words hold, so that neither order nor
-- repetition matters: for merges by MAX (`merging`).
use Rattle.std.proofs.Common.{
  ◌≡◌,
  ℕ,
  suc,
  ◌+◌,
  ◌-◌,
  ◌%◌,
  ◌^◌,
  ◌<◌,
  ◌≤◌,
  Bool,
  true,
  false,
  cond,
  leb,
  pos,
  negsuc,
  sym,
  refl,
  ◌∙◌,
  arith,
  le-leb,
  leb-false,
  leb-true,
}
use native.Mathlib.Decide.{dec_le}
use lib.Signed.{le_z}
use borrow.Author.Tests.{lt-leb}
use Rattle.twos_complement.specs.TwosComplement.{signed, word}
use Rattle.twos_complement.proofs.Words.{signed_cases, word_signed}
use Rattle.operators.specs.declared.BinaryOp.TheVariants.{Max}
use Rattle.operators.specs.Operators.{binary_word}

-- where a word stands among all, from the smallest number to the largest
abbrev pub rank : ℕ → ℕ
rank x = (x + 2 ^ 31) % 2 ^ 32

pub rank_one : {x y : ℕ} → x < 2 ^ 32 → y < 2 ^ 32 → rank x ≡ rank y → x ≡ y
rank_one {x} {y} hx hy e = omega arith

pub leb_same : (a b c d : ℕ) → (a ≤ b → c ≤ d) → (c ≤ d → a ≤ b) → leb a b ≡ leb c d
leb_same a b c d f g = go (dec_le a b)
  where
    go : Dec (a ≤ b) → leb a b ≡ leb c d
    go (yes l) = le-leb a b l ∙ sym (le-leb c d (f l))
    go (no n) =
        let h : c ≤ d → ⊥ = λ k. n (g k) in
        lt-leb a b (omega arith) ∙ sym (lt-leb c d (above (dec_le c d) h))
      where
        above : Dec (c ≤ d) → (c ≤ d → ⊥) → d < c
        above (yes k) h = absurd (h k)
        above (no k) h = omega arith

-- the order of the numbers is the order of the ranks
pub rank_order : (x y : ℕ) → x < 2 ^ 32 → y < 2 ^ 32 → le_z (signed x) (signed y) ≡ leb (rank x) (rank y)
rank_order x y hx hy =
    signed_cases (λ z. le_z z (signed y) ≡ leb (rank x) (rank y)) x hx
    (λ l.
    signed_cases (λ z. le_z (pos x) z ≡ leb (rank x) (rank y)) y hy
    (λ m. leb_same x y (rank x) (rank y) (λ h. omega arith) (λ h. omega arith))
    (λ m. sym (lt-leb (rank x) (rank y) (omega arith))))
    (λ l.
    signed_cases (λ z. le_z (negsuc (2 ^ 32 - suc x)) z ≡ leb (rank x) (rank y)) y hy
    (λ m. sym (le-leb (rank x) (rank y) (omega arith)))
    (λ m. leb_same (2 ^ 32 - suc y) (2 ^ 32 - suc x) (rank x) (rank y) (λ h. omega arith) (λ h. omega arith)))

-- r is the larger of x and y
pub record Larger (x y r : ℕ) : Type 0 where
  pub small : r < 2 ^ 32
  pub left : rank x ≤ rank r
  pub right : rank y ≤ rank r
  pub least : (m : ℕ) → rank x ≤ m → rank y ≤ m → rank r ≤ m

pub larger : (x y : ℕ) → x < 2 ^ 32 → y < 2 ^ 32 → Larger x y (binary_word Max x y)
unfolding binary_word
larger x y hx hy = rw (rank_order x y hx hy) (go (leb (rank x) (rank y)) refl)
  where
    go : (b : Bool) → leb (rank x) (rank y) ≡ b → Larger x y (word (cond b (signed y) (signed x)))
    go true e =
        rw (word_signed y hy)
        (let l = leb-true (rank x) (rank y) e in
        record { small = hy; left = l; right = omega arith; least = λ m p q. q })
    go false e =
        rw (word_signed x hx)
        (let l = leb-false (rank x) (rank y) e in
        record { small = hx; left = omega arith; right = omega arith; least = λ m p q. p })

-- what is the larger of two has one rank, and so is one word
pub max_exchanged : {c x y : ℕ} → c < 2 ^ 32 → x < 2 ^ 32 → y < 2 ^ 32
    → binary_word Max (binary_word Max c x) y ≡ binary_word Max (binary_word Max c y) x
max_exchanged {c} {x} {y} hc hx hy =
    let a = larger c x hc hx in
    let b = larger c y hc hy in
    let p = larger (binary_word Max c x) y a.small hy in
    let q = larger (binary_word Max c y) x b.small hx in
    let l =
    p.least (rank (binary_word Max (binary_word Max c y) x))
    (a.least (rank (binary_word Max (binary_word Max c y) x)) (omega arith) q.right) (omega arith) in
    let m =
    q.least (rank (binary_word Max (binary_word Max c x) y))
    (b.least (rank (binary_word Max (binary_word Max c x) y)) (omega arith) p.right) (omega arith) in
    rank_one p.small q.small (omega arith)

pub max_either : {x y : ℕ} → x < 2 ^ 32 → y < 2 ^ 32 → binary_word Max x y ≡ binary_word Max y x
max_either {x} {y} hx hy =
    let p = larger x y hx hy in
    let q = larger y x hy hx in
    let l = p.least (rank (binary_word Max y x)) q.right q.left in
    let m = q.least (rank (binary_word Max x y)) p.right p.left in
    rank_one p.small q.small (omega arith)

-- a word that is no larger changes nothing
pub max_again : {c x : ℕ} → c < 2 ^ 32 → x < 2 ^ 32 → binary_word Max (binary_word Max c x) x ≡ binary_word Max c x
max_again {c} {x} hc hx =
    let a = larger c x hc hx in
    let p = larger (binary_word Max c x) x a.small hx in
    let l = p.least (rank (binary_word Max c x)) (omega arith) a.right in
    rank_one p.small a.small (omega arith)

pub max_same : {x : ℕ} → x < 2 ^ 32 → binary_word Max x x ≡ x
max_same {x} hx =
    let a = larger x x hx hx in
    let l = a.least (rank x) (omega arith) (omega arith) in
    rank_one a.small hx (omega arith)
