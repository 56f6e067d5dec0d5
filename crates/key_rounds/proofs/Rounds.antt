-- The rounds: keys and doors only grow, a round that adds no key is followed by no change, and after as many rounds as
-- there are keys none is added: "an allowance beyond the number of keys adds nothing".
use Rattle.std.proofs.Common.{None, Some}
use Prim.Native.Nat.{ℕ, zero, suc, ◌+◌, ◌-◌, ◌≤◌, ◌<◌}
use native.Mathlib.Omega.{arith}
use native.Mathlib.Nat.{add-zero, add-suc}
use native.Mathlib.Decide.{dec_lt}
use mathlib.Core.Path.{◌≡◌, refl, sym, ap, ◌∙◌}
use mathlib.Core.Bool.{Bool, true, false, cond, false≢true}
use mathlib.Core.Logic.{◌⊎◌, inl, inr}
use Rattle.grid.specs.Cell.{Cell}
use Rattle.grid.specs.Grid.{Grid, Same}
use Rattle.key_rounds.specs.Rounds.{
  filled,
  ◌or◌,
  count,
  reached,
  keys_after,
  doors_after,
  earlier,
  first_before,
  first_round,
  in_hand,
  door_vector,
}
use Rattle.key_rounds.proofs.Tests.{or_left, reached_same, reached_grows}
use Rattle.key_rounds.proofs.Counting.{count_most, count_full}

module _ (locks cabinets : Grid) (hand : ℕ → Bool) where
  abbrev keys : ℕ → ℕ → Bool
  keys = keys_after locks cabinets hand

  abbrev doors : ℕ → ℕ → Bool
  doors = doors_after locks cabinets hand

  abbrev first : ℕ → ℕ → Cell
  first = first_before locks cabinets hand

  -- the round's step, from the doors
  pub keys_next : (n k : ℕ) → keys (suc n) k ≡ (keys n k or reached cabinets (doors n) k)
  unfolding keys_after doors_after
  keys_next n k = refl

  -- a key stays held
  pub keys_grow : (n k : ℕ) → keys n k ≡ true → keys (suc n) k ≡ true
  unfolding keys_after
  keys_grow n k h = or_left (keys n k) _ h

  -- a door stays open
  pub doors_grow : (n d : ℕ) → doors n d ≡ true → doors (suc n) d ≡ true
  unfolding doors_after
  doors_grow n d = reached_grows locks (keys n) (keys (suc n)) d (λ k l. keys_grow n k)

  -- a round after which no key is added
  pub record Settled (n : ℕ) : Type 0 where
    pub same : (k : ℕ) → k < locks.rows → keys (suc n) k ≡ keys n k

  -- doors follow the keys
  pub settled_doors : {n : ℕ} → Settled n → (d : ℕ) → doors (suc n) d ≡ doors n d
  unfolding doors_after
  settled_doors {n} s d = reached_same locks (keys (suc n)) (keys n) d s.same

  -- and the next round adds no key either
  pub settled_next : {n : ℕ} → Settled n → Settled (suc n)
  settled_next {n} s = record {
    same = λ k l.
        keys_next (suc n) k
        ∙ rw (
          s.same k l,
          reached_same cabinets (doors (suc n)) (doors n) k (λ d m. settled_doors s d),
          ←
              (keys_next n k),
        )
        (s.same k l);
  }

  pub settled_later : {n : ℕ} → Settled n → (e : ℕ) → Settled (n + e)
  settled_later {n} s zero = rw (add-zero n) s
  settled_later {n} s (suc e) = rw (add-suc n e) (settled_next (settled_later s e))

  -- "nothing changes afterwards"
  pub keys_stay : {n : ℕ} → Settled n → (e k : ℕ) → k < locks.rows → keys (n + e) k ≡ keys n k
  keys_stay {n} s zero k l = rw (add-zero n)
  keys_stay {n} s (suc e) k l = rw (add-suc n e) ((settled_later s e).same k l ∙ keys_stay s e k l)

  pub doors_stay : {n : ℕ} → Settled n → (e d : ℕ) → doors (n + e) d ≡ doors n d
  unfolding doors_after
  doors_stay {n} s e d = reached_same locks (keys (n + e)) (keys n) d (λ k l. keys_stay s e k l)

  -- a door has a first round before round n + 1 where it is open after round n
  filled_earlier : (c : Cell) (n : ℕ) (b : Bool) → (filled c ≡ true → b ≡ true)
      → filled (earlier c (cond b (Some n) None)) ≡ b
  unfolding filled
  filled_earlier None n true h = refl
  filled_earlier None n false h = refl
  filled_earlier (Some r) n b h = sym (h refl)

  pub first_open : (n d : ℕ) → filled (first (suc n) d) ≡ doors n d
  unfolding first_before filled
  first_open zero d = filled_earlier None zero (doors zero d) (λ e. absurd (false≢true e))
  first_open (suc n) d =
      filled_earlier (first (suc n) d) (suc n) (doors (suc n) d) (λ e. doors_grow n d (sym (first_open n d) ∙ e))

  -- no first round comes later
  keep_earlier : (c : Cell) (n : ℕ) (b : Bool) → b ≡ filled c → earlier c (cond b (Some n) None) ≡ c
  unfolding filled
  keep_earlier None n b h = rw h
  keep_earlier (Some r) n b h = refl

  pub first_stays : {n : ℕ} → Settled n → (e d : ℕ) → first (suc n + e) d ≡ first (suc n) d
  unfolding first_before
  first_stays {n} s zero d = rw (add-zero (suc n))
  first_stays {n} s (suc e) d =
      rw (add-suc (suc n) e, first_stays s e d)
      (keep_earlier (first (suc n) d) (suc n + e) (doors (suc n + e) d)
      (ap (λ (i : ℕ). doors i d) (omega arith) ∙ doors_stay s (suc e) d ∙ sym (first_open n d)))

  -- a round that does not count more keys has added none
  pub settled_count : (n : ℕ) → count locks.rows (keys (suc n)) ≤ count locks.rows (keys n) → Settled n
  settled_count n c = record {
    same = λ k l. sym (count_full locks.rows (keys n) (keys (suc n)) (λ i m. keys_grow n i) c k l);
  }

  -- each round adds a key, until one adds none
  progress : (n : ℕ) → Settled n ⊎ (n ≤ count locks.rows (keys n))
  progress zero = inr (omega arith)
  progress (suc n) = go (progress n) (dec_lt (count locks.rows (keys n)) (count locks.rows (keys (suc n))))
    where
      go : Settled n ⊎ (n ≤ count locks.rows (keys n))
          → Dec (count locks.rows (keys n) < count locks.rows (keys (suc n)))
          → Settled (suc n) ⊎ (suc n ≤ count locks.rows (keys (suc n)))
      go (inl s) d = inl (settled_next s)
      go (inr l) (yes d) = inr (omega arith)
      go (inr l) (no d) = inl (settled_next (settled_count n (omega arith)))

  -- after as many rounds as there are keys none is added
  pub settled_keys : Settled locks.rows
  settled_keys = go (progress locks.rows)
    where
      go : Settled locks.rows ⊎ (locks.rows ≤ count locks.rows (keys locks.rows)) → Settled locks.rows
      go (inl s) = s
      go (inr l) = settled_count locks.rows (omega (arith, count_most locks.rows (keys (suc locks.rows))))

  -- "an allowance beyond the number of keys adds nothing"
  pub allowance_enough : (allowance : ℕ) → locks.rows ≤ allowance → (d : ℕ)
      → first_round locks cabinets hand allowance d ≡ first_round locks cabinets hand locks.rows d
  allowance_enough allowance l d =
      ap (λ (i : ℕ). first i d) (omega arith) ∙ first_stays settled_keys (allowance - locks.rows) d

-- so the answer with a larger allowance is the same vector
pub vector_enough : (locks cabinets vector : Grid) (allowance : ℕ) → locks.rows ≤ allowance
    → Same (door_vector locks cabinets vector allowance) (door_vector locks cabinets vector locks.rows)
vector_enough locks cabinets vector allowance l = record {
  rows = refl;
  cols = refl;
  cell = λ i d u v. allowance_enough locks cabinets (in_hand vector) allowance l d;
}

-- the rounds go by the keys of the grid alone: hands that agree there give the same
module _ (locks cabinets : Grid) (hand other : ℕ → Bool) (h : (k : ℕ) → k < locks.rows → hand k ≡ other k) where
  pub keys_same : (n k : ℕ) → k < locks.rows → keys_after locks cabinets hand n k ≡ keys_after locks cabinets other n k
  unfolding keys_after
  keys_same zero k l = h k l
  keys_same (suc n) k l =
      rw (
        keys_same n k l,
        reached_same cabinets (reached locks (keys_after locks cabinets hand n))
            (reached locks (keys_after locks cabinets other n)) k
            (λ d m. reached_same locks (keys_after locks cabinets hand n) (keys_after locks cabinets other n) d
            (keys_same n)),
      )

  pub first_same : (n d : ℕ) → first_before locks cabinets hand n d ≡ first_before locks cabinets other n d
  unfolding first_before doors_after
  first_same zero d = refl
  first_same (suc n) d =
      rw (
        first_same n d,
        reached_same locks (keys_after locks cabinets hand n) (keys_after locks cabinets other n) d (keys_same n),
      )
