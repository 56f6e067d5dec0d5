-- The loops that collect the marked columns: over the bits of one word, and over the words in use.
use Rattle.std.proofs.Common.{None, Some}
use Prim.Native.Nat.{ℕ, ◌+◌, ◌-◌, ◌*◌, ◌/◌, ◌%◌, ◌^◌, ◌≤◌, ◌<◌}
use native.Mathlib.Omega.{arith}
use native.Mathlib.Decide.{dec_lt}
use mathlib.Core.Path.{◌≡◌, refl, sym, ap, ◌∙◌}
use mathlib.Core.List.{List}
use lib.ListN.{length, set, length-set}
use lib.Seq.{get_or-set_other}
use lib.Bits.{bit_and}
use borrow.Author.Tests.{eq-eqb, ne_eqb}
use Rattle.words.specs.Words.{at}
use Rattle.grid.specs.Cell.{Cell}
use Rattle.rows.specs.Row.{Holds}
use Rattle.rows.proofs.Holds.{holds_none, holds_put, holds_skip}
use Rattle.bit_rows.specs.Bits.{bit, map_words, map_places, mark, flagged, Tracked, Room, WordRoom, Collecting}
use Rattle.bit_rows.specs.Bits.{Says, WordCollected}
use Rattle.bit_rows.proofs.Bits.{Left, next, left_start, left_none, left_from, left_here, left_within}
use Rattle.bit_rows.proofs.Bits.{left_gap, left_step, bit_none}
use Rattle.bit_rows.proofs.Marks.{flagged_unmarked}

-- ---- one column, and a gap

module _ {f : ℕ → Cell} {ov₀ oc ov : List ℕ} {e j : ℕ} (h : Collecting f ov₀ oc ov e j) where
  -- no entries from j up to q
  pub collecting_skip : (q : ℕ) → j ≤ q → ((k : ℕ) → j ≤ k → k < q → f k ≡ None) → Collecting f ov₀ oc ov e q
  collecting_skip q l a = record {
    most = omega (arith, h.most);
    out = holds_skip h.out q l a;
    rest = λ k m. h.rest k (omega arith);
  }

  -- column j has its value in its place yet, and both are moved to the front
  pub collecting_take : j < length oc → j < length ov → f j ≡ Some (at ov₀ j)
      → Collecting f ov₀ (set oc e j) (set ov e (at ov j)) (e + 1) (j + 1)
  collecting_take a b p = record {
    most = omega (arith, h.most);
    out = holds_put h.out (omega (arith, h.most)) (omega (arith, h.most))
        (p ∙ ap Some (sym (h.rest j (omega arith))));
    rest = λ k m. get_or-set_other ov e k (at ov j) 0 (λ z. omega (arith, h.most)) ∙ h.rest k (omega arith);
  }

-- ---- the bits of one word

pub record WordAt (word base : ℕ) (oc₁ ov₁ oc ov : List ℕ) (count rest e : ℕ) : Type 0 where
  pub place : ℕ
  pub left : Left word rest place
  pub within : place ≤ 64
  pub most : e ≤ base + place
  pub long_cols : length oc ≡ length oc₁
  pub long_vals : length ov ≡ length ov₁
  pub out : (f : ℕ → Cell) (ov₀ : List ℕ) → Says word base ov₀ f → Collecting f ov₀ oc₁ ov₁ count base
      → Collecting f ov₀ oc ov e (base + place)

pub word_start : {word base : ℕ} {oc ov : List ℕ} {count : ℕ} → word < 2 ^ 64 → count ≤ base
    → WordAt word base oc ov oc ov count word count
word_start {word} {base} l m = record {
  place = 0;
  left = left_start word l;
  within = omega arith;
  most = omega arith;
  long_cols = refl;
  long_vals = refl;
  out = λ f ov₀ s h. let z : base + 0 ≡ base = omega arith in rw z h;
}

module _ {word base : ℕ} {oc₁ ov₁ oc ov : List ℕ} {count rest e : ℕ}
    (h : WordAt word base oc₁ ov₁ oc ov count rest e) where
  -- the columns between two places have no entries where the bits are 0
  gap : (f : ℕ → Cell) (ov₀ : List ℕ) → Says word base ov₀ f → (p q : ℕ) → q ≤ 64
      → ((s : ℕ) → p ≤ s → s < q → bit word s ≡ 0) → (k : ℕ) → base + p ≤ k → k < base + q → f k ≡ None
  gap f ov₀ says p q l none k a b =
      let z : k ≡ base + (k - base) = omega arith in
      ap f z ∙ says (k - base) (omega arith)
      ∙ rw (eq-eqb (bit word (k - base)) 0 (none (k - base) (omega arith) (omega arith)))

  pub word_done : rest ≡ 0 → WordCollected word base oc₁ ov₁ count oc ov e
  word_done n f ov₀ says c =
      collecting_skip (h.out f ov₀ says c) (base + 64) (omega (arith, h.within))
      (gap f ov₀ says h.place 64 (omega arith) (λ s a b. left_none h.left n s a))

  module _ (n : rest ≡ 0 → ⊥) where
    pub word_within : next rest < 64
    word_within = left_within h.left n

    pub word_most : e ≤ base + next rest
    word_most = omega (arith, h.most, left_from h.left n)

    pub word_in_cols : WordRoom word base (length oc₁) (length ov₁) → base + next rest < length oc
    word_in_cols r = omega (arith, r.in_cols (next rest) word_within (left_here h.left n), h.long_cols)

    pub word_in_vals : WordRoom word base (length oc₁) (length ov₁) → base + next rest < length ov
    word_in_vals r = omega (arith, r.in_vals (next rest) word_within (left_here h.left n), h.long_vals)

    pub word_step : WordRoom word base (length oc₁) (length ov₁)
        → WordAt word base oc₁ ov₁ (set oc e (base + next rest)) (set ov e (at ov (base + next rest))) count
        (bit_and rest (rest - 1)) (e + 1)
    word_step r = record {
      place = next rest + 1;
      left = left_step h.left n;
      within = omega (arith, word_within);
      most = omega (arith, word_most);
      long_cols = length-set oc e (base + next rest) ∙ h.long_cols;
      long_vals = length-set ov e (at ov (base + next rest)) ∙ h.long_vals;
      out = λ f ov₀ says c.
          let z : base + (next rest + 1) ≡ base + next rest + 1 = omega arith in
          let here : bit word (next rest) ≡ 1 = left_here h.left n in
          rw z (collecting_take
          (collecting_skip (h.out f ov₀ says c) (base + next rest) (omega (arith, left_from h.left n))
          (gap f ov₀ says h.place (next rest) (omega (arith, word_within)) (left_gap h.left n)))
          (word_in_cols r) (word_in_vals r)
          (says (next rest) word_within ∙ rw (ne_eqb (bit word (next rest)) 0 (λ e. omega arith))));
    }

-- ---- the words in use

pub record WordsAt (top : ℕ) (map oc₀ ov₀ oc ov : List ℕ) (rest e : ℕ) : Type 0 where
  pub place : ℕ
  pub left : Left top rest place
  pub within : place ≤ map_words
  pub long_cols : length oc ≡ length oc₀
  pub long_vals : length ov ≡ length ov₀
  pub out : Collecting (flagged map ov₀) ov₀ oc ov e (place * 64)

pub words_start : {top : ℕ} {map oc ov : List ℕ} → top < 2 ^ 64 → WordsAt top map oc ov oc ov top 0
words_start {top} {map} {oc} {ov} l = record {
  place = 0;
  left = left_start top l;
  within = omega arith;
  long_cols = refl;
  long_vals = refl;
  out = record { most = omega arith; out = holds_none (flagged map ov) oc ov; rest = λ k m. refl };
}

module _ {top : ℕ} {map oc₀ ov₀ oc ov : List ℕ} {rest e : ℕ} (t : Tracked top map)
    (h : WordsAt top map oc₀ ov₀ oc ov rest e) where
  -- the columns of words that are not in use have no entries
  unused : (p q : ℕ) → ((w : ℕ) → p ≤ w → w < q → bit top w ≡ 0) → (k : ℕ) → p * 64 ≤ k → k < q * 64
      → flagged map ov₀ k ≡ None
  unused p q none k a b =
      flagged_unmarked map ov₀ k
      (rw (t.unused (k / 64) (none (k / 64) (omega arith) (omega arith))) (bit_none (k % 64)))

  pub words_done : rest ≡ 0 → Holds map_places (flagged map ov₀) e oc ov
  words_done n =
      (collecting_skip h.out map_places (omega (arith, h.within))
      (unused h.place map_words (λ w a b. left_none h.left n w a))).out

  module _ (n : rest ≡ 0 → ⊥) where
    pub words_within : next rest < map_words
    words_within = go (dec_lt (next rest) map_words)
      where
        go : Dec (next rest < map_words) → next rest < map_words
        go (yes d) = d
        go (no d) = absurd (omega (arith, left_here h.left n, t.within (next rest) (omega arith)))

    skipped : Collecting (flagged map ov₀) ov₀ oc ov e (next rest * 64)
    skipped =
        collecting_skip h.out (next rest * 64) (omega (arith, left_from h.left n))
        (unused h.place (next rest) (left_gap h.left n))

    pub words_most : e ≤ next rest * 64
    words_most = skipped.most

    -- where column s of word w is
    at_word : (w s : ℕ) → s < 64 → mark map (w * 64 + s) ≡ bit (at map w) s
    at_word w s l =
        let q : (w * 64 + s) / 64 ≡ w = omega arith in
        let r : (w * 64 + s) % 64 ≡ s = omega arith in
        rw (q, r)

    pub words_room : Room map (length oc₀) (length ov₀)
        → WordRoom (at map (next rest)) (next rest * 64) (length oc) (length ov)
    words_room r = record {
      in_cols = λ s l b. omega (arith, r.in_cols (next rest * 64 + s) (at_word (next rest) s l ∙ b), h.long_cols);
      in_vals = λ s l b. omega (arith, r.in_vals (next rest * 64 + s) (at_word (next rest) s l ∙ b), h.long_vals);
    }

    pub words_step : {oc' ov' : List ℕ} {e' : ℕ} → length oc' ≡ length oc → length ov' ≡ length ov
        → WordCollected (at map (next rest)) (next rest * 64) oc ov e oc' ov' e'
        → WordsAt top map oc₀ ov₀ oc' ov' (bit_and rest (rest - 1)) e'
    unfolding flagged
    words_step {oc'} {ov'} {e'} a b c = record {
      place = next rest + 1;
      left = left_step h.left n;
      within = omega (arith, words_within);
      long_cols = a ∙ h.long_cols;
      long_vals = b ∙ h.long_vals;
      out =
          let z : (next rest + 1) * 64 ≡ next rest * 64 + 64 = omega arith in
          rw z (c (flagged map ov₀) ov₀ (λ s l. rw (at_word (next rest) s l)) skipped);
    }
