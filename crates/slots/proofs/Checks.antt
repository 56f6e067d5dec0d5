-- The tests of a store as the code reaches them: the words of a slot, a section, all sections, the zeros, the whole.
use Prim.Native.Nat.{ℕ, ◌+◌, ◌-◌, ◌≤◌, ◌<◌}
use native.Mathlib.Omega.{arith}
use native.Mathlib.Decide.{ℕ_discrete}
use mathlib.Core.Path.{◌≡◌, refl, sym, ap, ◌∙◌}
use mathlib.Core.Bool.{Bool, true, false, cond, false≢true}
use mathlib.Core.List.{List}
use lib.ListN.{length, take, drop, length-drop}
use Rattle.std.specs.Prelude.{Option, Some, None, ok_or, Result, Ok, Err}
use Rattle.std.proofs.Common.{below_more}
use Rattle.std.proofs.lemmas.Option.{cond_some}
use Rattle.answers.specs.declared.Refusal.{Refusal}
use Rattle.answers.specs.declared.Refusal.TheVariants.{InvalidStore}
use lib.Seq.{take_all}
use lib.Dec.{eqb}
use lib.Bits.{bit_or, or_add_and, and_le_l, and_le_r}
use borrow.Author.Tests.{le-leb, lt-leb, eq-eqb, ne_eqb, leb-true}
use Rattle.limits.specs.Limits.{slot_count, max_store_words}
use Rattle.words.specs.Words.{at, part}
use Rattle.conditions.specs.Tests.{◌and◌, all}
use Rattle.conditions.proofs.Tests.{refuted, and_left, and_right, and_both, all_none, all_more, all_at}
use Rattle.matrix.specs.Layout.{size}
use Rattle.matrix.specs.Valid.{valid}
use Rattle.slots.specs.Sections.{end_from, all_zero, sectioned}
use Rattle.slots.specs.Valid.{contents_valid, all_contents_valid, store_valid, section_valid, sections_valid}
use Rattle.slots.proofs.Sections.{end_more, end_none, slot_words, section_at}
use Rattle.slots.proofs.Facts.{valid_at, zeros_at, zeros_made, store_facts}

-- ---- the words of one slot, which are not none: first the matrix, then its size

module _ (x : List ℕ) (e : eqb (length x) 0 ≡ false) where
  pub matrix_fails : valid x ≡ false → false ≡ contents_valid x
  unfolding contents_valid ◌and◌
  matrix_fails v = rw (e, v)

  pub size_decides : (n : ℕ) → n ≡ size x → valid x ≡ true → eqb n (length x) ≡ contents_valid x
  unfolding contents_valid ◌and◌
  size_decides n f v = rw (e, v, f)

-- ---- one section: first that it lies within the words, then its contents

module _ (s : List ℕ) (a : ℕ) where
  pub section_outside : length s < a + 1 + at s a → false ≡ section_valid s a
  unfolding section_valid ◌and◌
  section_outside h = rw (lt-leb (a + 1 + at s a) (length s) h)

  pub contents_decide : (b : Bool) → a + 1 + at s a ≤ length s → b ≡ contents_valid (part (a + 1) (a + 1 + at s a) s)
      → b ≡ section_valid s a
  unfolding section_valid ◌and◌
  contents_decide b h e = e ∙ rw (le-leb (a + 1 + at s a) (length s) h)

-- ---- all sections: k of them passed, the next one from a on

-- what `sections_end` answers
abbrev pub sections_answer : List ℕ → Option ℕ
sections_answer s = cond (sections_valid s) (Some (end_from slot_count s)) None

pub record Walk (s : List ℕ) (a k : ℕ) : Type 0 where
  pub most : k ≤ slot_count
  pub start : a ≡ end_from k s
  pub inside : a ≤ length s
  pub valid : all k (valid_at s) ≡ true

pub walk_start : (s : List ℕ) → Walk s 0 0
walk_start s = record {
  most = omega arith;
  start = sym (end_none s);
  inside = omega arith;
  valid = all_none (valid_at s);
}

module _ {s : List ℕ} {a k : ℕ} (w : Walk s a k) where
  -- the test of slot k's contents, as the code makes it
  here : k < slot_count → valid_at s k ≡ contents_valid (part (a + 1) (a + 1 + at s a) s)
  here l = ap contents_valid (slot_words s a k l w.start)

  -- that a section is within the words is known where it is valid
  pub walk_inside : section_valid s a ≡ true → a + 1 + at s a ≤ length s
  unfolding section_valid
  walk_inside v = leb-true _ _ (and_left _ _ v)

  -- a section that is valid is passed
  pub walk_turn : k < slot_count → section_valid s a ≡ true → Walk s (a + 1 + at s a) (k + 1)
  unfolding section_valid
  walk_turn l v =
      let e = w.start in
      let m = end_more k s in
      let g : at s a ≡ at s (end_from k s) = ap (λ (i : ℕ). at s i) e in
      record {
        most = omega arith;
        start = omega arith;
        inside = walk_inside v;
        valid = all_more (valid_at s) k w.valid (here l ∙ and_right _ _ v);
      }

  -- a section that is not valid
  pub walk_stop : k < slot_count → section_valid s a ≡ false → None ≡ sections_answer s
  unfolding sections_valid all_contents_valid
  walk_stop l f = rw (refuted (sections_valid s) (λ h.
      let r = section_at s a k (leb-true _ _ (and_left _ _ h)) l w.start in
      let v = all_at (valid_at s) slot_count k l (and_right _ _ h) in
      false≢true (sym f ∙ sym (contents_decide s a true (omega arith) (sym v ∙ here l))))) refl

  -- all are passed
  pub walk_end : slot_count ≤ k → Some a ≡ sections_answer s
  unfolding sections_valid all_contents_valid
  walk_end l =
      let m = w.most in
      let i = w.inside in
      let e : k ≡ slot_count = omega arith in
      let q : a ≡ end_from slot_count s = w.start ∙ ap (λ (j : ℕ). end_from j s) e in
      let v : all slot_count (valid_at s) ≡ true = sym (ap (λ (j : ℕ). all j (valid_at s)) e) ∙ w.valid in
      let b : sections_valid s ≡ true = and_both (le-leb (end_from slot_count s) (length s) (omega arith)) v in
      ap Some q ∙ rw b

-- ---- the zeros, by one word that has the bits of all words seen: it is 0 where they are zeros, and only there

pub record Collected (s : List ℕ) (i bits : ℕ) : Type 0 where
  pub clear : bits ≡ 0 → (j : ℕ) → j < i → at s j ≡ 0
  pub kept : ((j : ℕ) → j < i → at s j ≡ 0) → bits ≡ 0

pub collected_start : (s : List ℕ) → Collected s 0 0
collected_start s = record { clear = λ e j l. let z : ⊥ = omega arith in absurd z; kept = λ z. refl }

-- one more
pub collected_turn : {s : List ℕ} {i bits : ℕ} → Collected s i bits → Collected s (i + 1) (bit_or bits (at s i))
collected_turn {s} {i} {bits} m =
    let x = at s i in
    record {
      clear = λ e. below_more _ _
          (m.clear (omega (arith, or_add_and bits x, and_le_l bits x, and_le_r bits x)))
          (omega (arith, or_add_and bits x, and_le_l bits x, and_le_r bits x));
      kept = λ z.
          let e = m.kept (λ j k. z j (omega arith)) in
          let f : x ≡ 0 = z i (omega arith) in
          omega (arith, or_add_and bits x);
    }

-- no word is left
pub collected_end : {s : List ℕ} {i bits : ℕ} → Collected s i bits → i ≡ length s → eqb bits 0 ≡ all_zero s
collected_end {s} {i} {bits} m h = go (ℕ_discrete bits 0)
  where
    go : Dec (bits ≡ 0) → eqb bits 0 ≡ all_zero s
    go (yes e) = eq-eqb bits 0 e ∙ sym (zeros_made s (λ j l. m.clear e j (omega arith)))
    go (no f) =
        ne_eqb bits 0 f
        ∙ sym (refuted (all_zero s) (λ t. f (m.kept (λ j l. zeros_at s t j (omega arith)))))

-- a tail, as the code takes it
pub tail_all : (s : List ℕ) (a : ℕ) → take (length s - a) (drop a s) ≡ drop a s
tail_all s a = take_all (length s - a) (drop a s) (omega (arith, length-drop a s))

-- ---- the whole

module _ (s : List ℕ) where
  -- what `check` answers
  abbrev answered : Result ℕ Refusal
  answered = cond (store_valid s) (Ok (end_from slot_count s)) (Err InvalidStore)

  -- every refusal ends here
  not_store : store_valid s ≡ false → Err InvalidStore ≡ answered
  not_store f = rw f

  -- the length
  pub too_short : length s < slot_count → Err InvalidStore ≡ answered
  too_short h = not_store (refuted _ (λ v. let f = store_facts s v in omega arith))

  pub too_long : max_store_words < length s → Err InvalidStore ≡ answered
  too_long h = not_store (refuted _ (λ v. let f = store_facts s v in omega arith))

  -- the two parts of the test
  sections_of : store_valid s ≡ true → sections_valid s ≡ true
  unfolding store_valid sections_valid sectioned
  sections_of v =
      let h = and_right _ _ (and_right _ _ v) in
      and_both (and_left _ _ (and_left _ _ h)) (and_right _ _ h)

  zeros_of : store_valid s ≡ true → all_zero (drop (end_from slot_count s) s) ≡ true
  unfolding store_valid sectioned
  zeros_of v = and_right _ _ (and_left _ _ (and_right _ _ (and_right _ _ v)))

  -- after `sections_end`: that they do not end, and else the zeros
  pub sections_fail : {r : Option ℕ} {e : Refusal} → r ≡ sections_answer s → Err e ≡ ok_or r InvalidStore → Err e ≡ answered
  sections_fail {r} {e} f g = go (sections_valid s) refl (g ∙ ap (λ (o : Option ℕ). ok_or o InvalidStore) f)
    where
      go : (b : Bool) → sections_valid s ≡ b
          → Err e ≡ ok_or (cond b (Some (end_from slot_count s)) None) InvalidStore → Err e ≡ answered
      go true h q = grind arith
      go false h q = q ∙ not_store (refuted _ (λ v. false≢true (sym h ∙ sections_of v)))

  module _ {end : ℕ} (e : Some end ≡ sections_answer s) where
    end_is : end ≡ end_from slot_count s
    end_is = sym (cond_some (sections_valid s) (end_from slot_count s) end (sym e)).1

    holds : sections_valid s ≡ true
    holds = (cond_some (sections_valid s) (end_from slot_count s) end (sym e)).0

    pub end_inside : end ≤ length s
    unfolding sections_valid
    end_inside =
        let q = end_is in
        let h : end_from slot_count s ≤ length s = leb-true _ _ (and_left _ _ holds) in
        omega arith

    pub zeros_fail : all_zero (drop end s) ≡ false → Err InvalidStore ≡ answered
    zeros_fail f =
        not_store (refuted _ (λ v.
        false≢true (sym f ∙ ap (λ (a : ℕ). all_zero (drop a s)) end_is ∙ zeros_of v)))

    pub all_hold_lem : slot_count ≤ length s → length s ≤ max_store_words → all_zero (drop end s) ≡ true
        → Ok end ≡ answered
    unfolding store_valid sections_valid sectioned
    all_hold_lem l m f =
        let h = holds in
        let t = sym (ap (λ (a : ℕ). all_zero (drop a s)) end_is) ∙ f in
        let c = and_both (and_both (and_left _ _ h) t) (and_right _ _ h) in
        let v : store_valid s ≡ true = and_both (le-leb _ _ l) (and_both (le-leb _ _ m) c) in
        ap Ok end_is ∙ rw v
