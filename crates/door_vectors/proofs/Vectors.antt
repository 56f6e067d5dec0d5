-- Laws of `round_at`, and the vector that the rounds leave: the first rounds of the doors, as a row.
use Rattle.std.proofs.Common.{None, Some}
use Prim.Native.Nat.{ℕ, ◌+◌, ◌-◌, ◌≤◌}
use native.Mathlib.Omega.{arith}
use native.Mathlib.Numerals.{add-one}
use mathlib.Core.Path.{◌≡◌, refl, ap, ◌∙◌}
use mathlib.Core.List.{List}
use lib.ListN.{length, take, length-take}
use borrow.Author.Tests.{eq-eqb, ne_eqb}
use Rattle.words.specs.Words.{at}
use Rattle.grid.specs.Cell.{Cell}
use Rattle.grid.specs.Grid.{Grid, Same}
use Rattle.grid.proofs.Same.{same_count, same_size}
use Rattle.encoding.proofs.Canonical.{encode_ext}
use Rattle.key_rounds.specs.Rounds.{first_before, in_hand, door_vector}
use Rattle.key_marks.specs.Marks.{door_word, Rounds}
use Rattle.door_vectors.specs.Vectors.{round_at, vector_of, Written}

-- the first n words of a longer buffer: a word for each key or door
pub prefix_length : (n : ℕ) (s : List ℕ) → n ≤ length s → n ≡ length (take n s)
prefix_length n s l = omega (arith, length-take n s)

pub round_shut : (doors : List ℕ) (d : ℕ) → at doors d ≡ 0 → round_at doors d ≡ None
unfolding round_at
round_shut doors d e = rw (eq-eqb (at doors d) 0 e)

pub round_open : (doors : List ℕ) (d : ℕ) → (at doors d ≡ 0 → ⊥) → round_at doors d ≡ Some (at doors d - 1)
unfolding round_at
round_open doors d e = rw (ne_eqb (at doors d) 0 e)

-- a door's word is read back
round_word : (doors : List ℕ) (d : ℕ) (c : Cell) → at doors d ≡ door_word c → round_at doors d ≡ c
unfolding door_word
round_word doors d None e = round_shut doors d e
round_word doors d (Some r) e =
    round_open doors d (λ z. omega arith) ∙ ap Some (omega (arith, e))

-- the vector of what the rounds leave is the answer
vector_answer : (vector : Grid) (allowance : ℕ) {locks cabinets : Grid} {n : ℕ} {keys doors : List ℕ}
    → Rounds locks cabinets (in_hand vector) n (allowance + 1) keys doors
    → Same (vector_of doors) (door_vector locks cabinets vector allowance)
vector_answer vector allowance {locks} {cabinets} {doors = doors} h = record {
  rows = refl;
  cols = h.doors_size;
  cell = λ i d u v.
      round_word doors d (first_before locks cabinets (in_hand vector) (allowance + 1) d) (h.opens d v)
      ∙ ap (λ (k : ℕ). first_before locks cabinets (in_hand vector) k d) (add-one allowance);
}

-- and its words are the answer's
pub answer_written : (hand : Grid) (allowance : ℕ) {locks cabinets : Grid} {n e : ℕ} {keys doors w : List ℕ}
    → Rounds locks cabinets (in_hand hand) n (allowance + 1) keys doors → Written (vector_of doors) e w
    → Written (door_vector locks cabinets hand allowance) e w
answer_written hand allowance {locks} {cabinets} {doors = doors} h x =
    let s = vector_answer hand allowance h in
    let g = door_vector locks cabinets hand allowance in
    record {
      count = x.count ∙ same_count (vector_of doors) g s;
      words = rw (encode_ext 0 (vector_of doors) g s, same_size (vector_of doors) g s) at x.words;
    }
