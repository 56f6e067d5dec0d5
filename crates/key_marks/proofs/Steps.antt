-- The rounds in words: what a stamp of the doors and one of the keys make of them, and where they start and end.
use Rattle.std.proofs.Common.{None, Some}
use Prim.Native.Nat.{ℕ, suc, ◌+◌, ◌-◌, ◌≤◌, ◌<◌}
use native.Mathlib.Omega.{arith}
use native.Mathlib.Numerals.{add-one}
use mathlib.Core.Path.{◌≡◌, refl, sym, ap, subst, ◌∙◌}
use mathlib.Core.List.{List}
use mathlib.Core.Bool.{Bool, true, false, cond}
use lib.ListN.{length}
use lib.Seq.{ext_get_or}
use Rattle.words.specs.Words.{at}
use Rattle.grid.specs.Cell.{Cell}
use Rattle.grid.specs.Grid.{Grid}
use Rattle.matrix.specs.Layout.{grid_of}
use Rattle.key_rounds.specs.Rounds.{filled, count, reached, keys_after, doors_after, earlier, first_before, Fitting}
use Rattle.key_rounds.proofs.Tests.{reached_same}
use Rattle.key_rounds.proofs.Counting.{count_same}
use Rattle.key_rounds.proofs.Rounds.{Settled, keys_next, first_open, first_stays, keys_stay, settled_count}
use Rattle.key_marks.specs.Marks.{mark, held, once, Stamped, Stampable, door_word, Rounds, Lent}
use Rattle.key_marks.proofs.Stamps.{mark_zero, mark_other, mark_stamped, once_zero, once_other}

-- a door's word is marked where it has a first round
mark_door : (c : Cell) → mark (door_word c) ≡ filled c
unfolding door_word filled
mark_door None = mark_zero 0 refl
mark_door (Some r) = mark_other (r + 1) (λ e. omega arith)

-- a stamp of round n keeps an earlier round
stamp_door : (n : ℕ) (c : Cell) (b : Bool)
    → cond b (once (n + 1) (door_word c)) (door_word c) ≡ door_word (earlier c (cond b (Some n) None))
unfolding door_word
stamp_door n None true = once_zero (n + 1) 0 refl
stamp_door n None false = refl
stamp_door n (Some r) true = once_other (n + 1) (r + 1) (λ e. omega arith)
stamp_door n (Some r) false = refl

module _ {locks cabinets : Grid} {hand : ℕ → Bool} where
  -- the doors of round n are opened
  pub doors_stamped : {n : ℕ} {keys doors doors' : List ℕ} → Rounds locks cabinets hand n n keys doors
      → Stamped (n + 1) (reached locks (held keys)) doors doors' → Rounds locks cabinets hand n (n + 1) keys doors'
  unfolding first_before doors_after
  doors_stamped {n} {keys} {doors} {doors'} h s = record {
    keys_size = h.keys_size;
    doors_size = s.size ∙ h.doors_size;
    holds = h.holds;
    opens = λ d l.
        s.word d (omega (arith, h.doors_size))
        ∙ rw (h.opens d l, reached_same locks (held keys) (keys_after locks cabinets hand n) d h.holds, add-one n)
        (ap (λ (i : ℕ). cond (doors_after locks cabinets hand n d)
        (once i (door_word (first_before locks cabinets hand n d))) (door_word (first_before locks cabinets hand n d)))
        (sym (add-one n))
        ∙ stamp_door n (first_before locks cabinets hand n d) (doors_after locks cabinets hand n d));
  }

  -- the keys behind them are taken
  pub keys_stamped : {n : ℕ} {keys keys' doors : List ℕ} → Fitting locks cabinets
      → Rounds locks cabinets hand n (n + 1) keys doors
      → Stamped 1 (reached cabinets (held doors)) keys keys' → Rounds locks cabinets hand (n + 1) (n + 1) keys' doors
  keys_stamped {n} {keys} {keys'} {doors} f h s = record {
    keys_size = s.size ∙ h.keys_size;
    doors_size = h.doors_size;
    holds = λ k l.
        ap mark (s.word k (omega (arith, h.keys_size)))
        ∙ mark_stamped 1 (at keys k) (reached cabinets (held doors) k) (omega arith)
        ∙ rw (
          h.holds k l,
          reached_same cabinets (held doors) (doors_after locks cabinets hand n) k
              (λ d m. opened d (omega (arith, f.doors))),
          add-one n,
        )
        (sym (keys_next locks cabinets hand n k));
    opens = h.opens;
  }
    where
      opened : (d : ℕ) → d < locks.cols → held doors d ≡ doors_after locks cabinets hand n d
      opened d l =
          ap mark (h.opens d l)
          ∙ mark_door (first_before locks cabinets hand (n + 1) d)
          ∙ rw (add-one n) (first_open locks cabinets hand n d)

  -- the same, for the round after round m
  pub keys_stamped_at : {n m : ℕ} {keys keys' doors : List ℕ} → Fitting locks cabinets → m + 1 ≡ n
      → Rounds locks cabinets hand m (m + 1) keys doors → Stamped 1 (reached cabinets (held doors)) keys keys'
      → Rounds locks cabinets hand n n keys' doors
  keys_stamped_at {keys' = keys'} {doors = doors} f e h s =
      subst (λ (i : ℕ). Rounds locks cabinets hand i i keys' doors) e (keys_stamped f h s)

  -- a round that adds no mark is the last that counts
  pub rounds_settled : {n m : ℕ} {keys keys' doors : List ℕ} → Rounds locks cabinets hand n (n + 1) keys doors
      → Rounds locks cabinets hand (n + 1) (n + 1) keys' doors
      → count (length keys') (held keys') ≡ count (length keys) (held keys) → n < m
      → Rounds locks cabinets hand m (m + 1) keys' doors
  rounds_settled {n} {m} {keys} {keys'} {doors} h g c l = record {
    keys_size = g.keys_size;
    doors_size = g.doors_size;
    holds = λ k u.
        g.holds k u
        ∙ rw (add-one n) (settled.same k u)
        ∙ sym (keys_stay locks cabinets hand settled (m - n) k u)
        ∙ ap (λ (i : ℕ). keys_after locks cabinets hand i k) (omega arith);
    opens = λ d u.
        g.opens d u
        ∙ ap door_word (ap (λ (i : ℕ). first_before locks cabinets hand i d) (omega arith)
        ∙ sym (first_stays locks cabinets hand settled (m - n) d)
        ∙ ap (λ (i : ℕ). first_before locks cabinets hand i d) (omega arith));
  }
    where
      after : count (length keys') (held keys') ≡ count locks.rows (keys_after locks cabinets hand (suc n))
      after = rw (g.keys_size, ← (add-one n)) (count_same locks.rows _ _ g.holds)

      before : count (length keys) (held keys) ≡ count locks.rows (keys_after locks cabinets hand n)
      before = rw h.keys_size (count_same locks.rows _ _ h.holds)

      settled : Settled locks cabinets hand n
      settled = settled_count locks cabinets hand n (omega (arith, after, before))

  -- "proved equal": the doors' words are the same, however they were found
  pub doors_equal : {n n' m : ℕ} {keys doors keys' doors' : List ℕ} → Rounds locks cabinets hand n m keys doors
      → Rounds locks cabinets hand n' m keys' doors' → doors ≡ doors'
  doors_equal {doors = doors} {doors' = doors'} h g =
      ext_get_or 0 doors doors' (h.doors_size ∙ sym g.doors_size)
      (λ d l. h.opens d (omega (arith, h.doors_size)) ∙ sym (g.opens d (omega (arith, h.doors_size))))

-- before the first round
pub lent_rounds : {locks cabinets keys doors : List ℕ} → Lent locks cabinets keys doors
    → Rounds (grid_of locks) (grid_of cabinets) (held keys) 0 0 keys doors
unfolding keys_after first_before door_word
lent_rounds a = record {
  keys_size = a.keys_size;
  doors_size = a.doors_size;
  holds = λ k l. refl;
  opens = a.shut;
}

pub lent_fitting : {locks cabinets keys doors : List ℕ} → Lent locks cabinets keys doors
    → Fitting (grid_of locks) (grid_of cabinets)
lent_fitting a = record { doors = a.same_doors; keys = a.same_keys }

-- what the stamps ask, with any keys and doors that were reached
module _ {locks cabinets keys₀ doors₀ keys doors : List ℕ} {n m : ℕ} (a : Lent locks cabinets keys₀ doors₀)
    (h : Rounds (grid_of locks) (grid_of cabinets) (held keys₀) n m keys doors) where
  pub locks_stampable : {s : ℕ} → 1 ≤ s → Stampable locks keys s doors
  locks_stampable l = record {
    valid = a.locks_valid;
    from_size = h.keys_size;
    marks_size = h.doors_size;
    marking = l;
  }

  pub cabinets_stampable : Stampable cabinets doors 1 keys
  cabinets_stampable = record {
    valid = a.cabinets_valid;
    from_size = h.doors_size ∙ sym a.same_doors;
    marks_size = h.keys_size ∙ sym a.same_keys;
    marking = omega arith;
  }
