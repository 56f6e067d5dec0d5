-- Words moved up or down, by position: where each one comes from. Cited where an entry is put in or taken out.
use Prim.Native.Nat.{ℕ, ◌+◌, ◌-◌, ◌≤◌, ◌<◌}
use native.Mathlib.Omega.{arith}
use mathlib.Core.Path.{◌≡◌, ap, ◌∙◌}
use mathlib.Core.List.{List}
use lib.ListN.{length}
use Rattle.words.specs.Words.{at, part}
use Rattle.words.proofs.Parts.{length_part, part_at}
use Rattle.words.proofs.Overwrite.{overwrite_length, overwrite_before, overwrite_at, overwrite_after}
use Rattle.edits.specs.Changes.{moved}

-- n words of s from `from` on are written again from `to` on
module _ (from to n : ℕ) (s : List ℕ) (h : from + n ≤ length s) (l : to + n ≤ length s) where
  abbrev words : List ℕ
  words = part from (from + n) s

  count : length words ≡ n
  count = length_part from (from + n) s h ∙ omega arith

  room : to + length words ≤ length s
  room = omega (arith, count)

  pub moved_length : length (moved from to n s) ≡ length s
  moved_length = overwrite_length to words s room

  -- the words that were moved: word k was word m
  pub moved_here : (k m : ℕ) → k + from ≡ m + to → to ≤ k → k < to + n → at (moved from to n s) k ≡ at s m
  moved_here k m e b c =
      let p : k ≡ to + (k - to) = omega arith in
      let q : from + (k - to) ≡ m = omega arith in
      ap (at (moved from to n s)) p ∙ overwrite_at to words s room (k - to) (omega (arith, count))
      ∙ part_at from (from + n) (k - to) s (omega arith) ∙ ap (at s) q

  -- and those on either side
  pub moved_before : (k : ℕ) → k < to → at (moved from to n s) k ≡ at s k
  moved_before k b = overwrite_before to words s room k b

  pub moved_after : (k : ℕ) → to + n ≤ k → at (moved from to n s) k ≡ at s k
  moved_after k b = overwrite_after to words s room k (omega (arith, count))
