-- Files of the form before A12: the reader takes exactly those that were files by the rule of that time.
use Prim.Native.Nat.{ℕ, zero, suc, ◌+◌, ◌-◌, ◌*◌, ◌≤◌}
use native.Mathlib.Omega.{arith}
use native.Mathlib.Decide.{dec_le, ℕ_discrete}
use mathlib.Core.Path.{◌≡◌, refl, sym, ap, ◌∙◌}
use mathlib.Core.Bool.{Bool, true, false}
use mathlib.Core.List.{List, ◌∷◌}
use lib.ListN.{length, take, drop}
use lib.Dec.{leb, eqb}
use borrow.Author.Tests.{eq-eqb, ne_eqb, le-leb, lt-leb}
use Rattle.conditions.specs.Tests.{◌and◌, all}
use Rattle.limits.specs.Limits.{max_entries}
use Rattle.words.specs.Words.{at, part}
use Rattle.rows.specs.Row.{rising}
use Rattle.matrix.specs.Layout.{cols, rows, start, entries, entries_again, size, columns_from, row_columns}
use Rattle.matrix.specs.Valid.{header_valid, starts_valid, rows_valid, valid}
use Rattle.files.specs.File.{old_form, file_of, file_valid}
use Rattle.word_bytes.specs.Bytes.{words_of}
use Rattle.file_claims.specs.OldRule.{old_rows, old_start, old_entries, old_size, old_columns, old_valid, old_file}

-- ---- words and parts behind two others
front : (h : List ℕ) (k j : ℕ) → k ≡ j + 2 → at (1 ∷ 0 ∷ h) k ≡ at h j
front h k j e = let s : k ≡ suc (suc j) = omega arith in ap (at (1 ∷ 0 ∷ h)) s

part_front : (h : List ℕ) (a b c d : ℕ) → a ≡ c + 2 → b ≡ d + 2 → part a b (1 ∷ 0 ∷ h) ≡ part c d h
part_front h a b c d p q =
    let s : a ≡ suc (suc c) = omega arith in
    let n : b - a ≡ d - c = omega arith in
    ap (λ (k : ℕ). take (b - a) (drop k (1 ∷ 0 ∷ h))) s ∙ ap (λ (k : ℕ). take k (drop c h)) n

-- ---- tests that say the same
leb_same : (a b c d : ℕ) → (a ≤ b → c ≤ d) → (c ≤ d → a ≤ b) → leb a b ≡ leb c d
leb_same a b c d f g = go (dec_le a b)
  where
    go : Dec (a ≤ b) → leb a b ≡ leb c d
    go (yes l) = le-leb a b l ∙ sym (le-leb c d (f l))
    go (no l) =
        let m : c ≤ d → ⊥ = λ x. l (g x) in
        lt-leb a b (omega arith) ∙ sym (lt-leb c d (omega (arith, m)))

eqb_same : (a b c d : ℕ) → (a ≡ b → c ≡ d) → (c ≡ d → a ≡ b) → eqb a b ≡ eqb c d
eqb_same a b c d f g = go (ℕ_discrete a b)
  where
    go : Dec (a ≡ b) → eqb a b ≡ eqb c d
    go (yes e) = eq-eqb a b e ∙ sym (eq-eqb c d (f e))
    go (no n) = ne_eqb a b n ∙ sym (ne_eqb c d (λ e. n (g e)))

all_same : (p q : ℕ → Bool) (n : ℕ) → ((i : ℕ) → p i ≡ q i) → all n p ≡ all n q
unfolding all
all_same p q zero e = refl
all_same p q (suc n) e = rw (all_same p q n e, e n)

-- the grouping of the tests: the count of the new section is 1
flat : (a b c d e f g h i j k : Bool)
    → ((true and a and b and c and d and e and f and g) and (h and i and j) and k)
    ≡ (a and b and c and d and e and f and g and h and i and j and k)
unfolding ◌and◌
flat false b c d e f g h i j k = refl
flat true false c d e f g h i j k = refl
flat true true false d e f g h i j k = refl
flat true true true false e f g h i j k = refl
flat true true true true false f g h i j k = refl
flat true true true true true false g h i j k = refl
flat true true true true true true false h i j k = refl
flat true true true true true true true false i j k = refl
flat true true true true true true true true false j k = refl
flat true true true true true true true true true j k = refl

-- ---- the section "1, 0" and then the words h
module _ (h : List ℕ) where
  abbrev s : List ℕ
  s = 1 ∷ 0 ∷ h

  entries_front : entries s ≡ old_entries h
  entries_front = front h (old_rows h + 7) (old_rows h + 5) (omega arith)

  start_front : (i : ℕ) → start s i ≡ old_start h i
  start_front i = front h (i + 6) (i + 4) (omega arith)

  few_front : leb (entries s) max_entries ≡ leb (old_entries h) max_entries
  few_front = ap (λ (n : ℕ). leb n max_entries) entries_front

  size_front : leb (size s) (length s) ≡ leb (old_size h) (length h)
  size_front =
      let n = entries_front in
      leb_same (size s) (length s) (old_size h) (length h) (λ l. omega arith) (λ l. omega arith)

  again_front : eqb (entries_again s) (entries s) ≡ eqb (at h (old_rows h + old_entries h + 6)) (old_entries h)
  again_front =
      ap (λ (n : ℕ). eqb (at s (old_rows h + n + 8)) n) entries_front
      ∙ ap (λ (x : ℕ). eqb x (old_entries h))
      (front h (old_rows h + old_entries h + 8) (old_rows h + old_entries h + 6) (omega arith))

  last_front : eqb (start s (rows s)) (entries s) ≡ eqb (old_start h (old_rows h)) (old_entries h)
  last_front = rw (start_front (old_rows h), entries_front)

  rising_front : all (rows s) (λ i. leb (start s i) (start s (i + 1)))
      ≡ all (old_rows h) (λ i. leb (old_start h i) (old_start h (i + 1)))
  rising_front =
      all_same (λ i. leb (start s i) (start s (i + 1))) (λ i. leb (old_start h i) (old_start h (i + 1))) (old_rows h)
      (λ i. rw (start_front i, start_front (i + 1)))

  columns_front : (i : ℕ) → row_columns s i ≡ old_columns h i
  columns_front i =
      let a = start_front i in
      let b = start_front (i + 1) in
      part_front h (columns_from s i) (columns_from s (i + 1)) (old_rows h + 6 + old_start h i)
      (old_rows h + 6 + old_start h (i + 1)) (omega arith) (omega arith)

  rows_front : all (rows s) (λ i. rising (cols s) 0 (row_columns s i))
      ≡ all (old_rows h) (λ i. rising (at h 2) 0 (old_columns h i))
  rows_front =
      all_same (λ i. rising (cols s) 0 (row_columns s i)) (λ i. rising (at h 2) 0 (old_columns h i)) (old_rows h)
      (λ i. ap (rising (at h 2) 0) (columns_front i))

  -- the tests of the new form are those of the old one
  pub old_valid_lem : valid s ≡ old_valid h
  unfolding valid header_valid starts_valid rows_valid old_valid
  old_valid_lem =
      rw (few_front, size_front, again_front, last_front, rising_front, rows_front) (flat _ _ _ _ _ _ _ _ _ _ _)

-- a file of the old form is taken exactly where it was one
pub file_taken : (f : List ℕ) → old_form (words_of f) ≡ true → file_valid f ≡ old_file (length f) (words_of f)
unfolding file_of old_file
file_taken f o =
    let h = words_of f in
    let n = entries_front h in
    let e = eqb_same (length f + 8) (size (1 ∷ 0 ∷ h) * 4) (length f) (old_size h * 4) (λ x. omega arith) (λ x. omega arith) in
    rw (o, old_valid_lem h, e)
