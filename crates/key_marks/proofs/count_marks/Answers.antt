-- `count_marks` adds up 1 for each word that is marked.
use Rattle.std.proofs.Common.{rules}
use Prim.Native.Nat.{ℕ, zero, suc, ◌≤◌}
use native.Mathlib.Omega.{arith}
use native.Mathlib.Numerals.{add-one}
use mathlib.Core.Path.{◌≡◌, refl, ◌∙◌}
use mathlib.Core.Bool.{cond}
use mathlib.Core.List.{List}
use lib.ListN.{length, take}
use lib.Seq.{take_all}
use borrow.Author.Tests.{tests}
use Rattle.std.specs.List.{count_by}
use Rattle.std.proofs.lemmas.List.Sums.{sum_by_more}
use Rattle.std.proofs.lemmas.Iterator.{YieldsList-from_slice, YieldsList-from_map}
use Rattle.std.proofs.lemmas.Iterator.Consumers.{sum_by_from_yields_List, fits_by_from_yields_list}
use Rattle.key_rounds.specs.Rounds.{count}
use Rattle.key_rounds.proofs.Counting.{count_most}
use Rattle.key_marks.specs.Marks.{mark, held}
use Rattle.key_marks.proofs.count_marks.Goals as goal

-- 1 for a word that is marked
abbrev one : ℕ → ℕ
one w = cond (mark w) 1 0

-- the marks of the first n words
marks_before : (words : List ℕ) (n : ℕ) → n ≤ length words → count_by mark (take n words) ≡ count n (held words)
unfolding count
marks_before words zero l = refl
marks_before words (suc n) l =
    let h = marks_before words n (omega arith) in
    let s = sum_by_more (λ w. cond (mark w) 1 0) words n 0 (omega arith) in
    rw (← (add-one n)) (s ∙ rw h)

marks_all : (words : List ℕ) → count_by mark words ≡ count (length words) (held words)
marks_all words = rw (take_all (length words) words (omega arith)) at (marks_before words (length words) (omega arith))

pub sum-requires-clause-fits : goal.sum-requires-clause-fits
unfolding mark
sum-requires-clause-fits c =
    let w = c.args.words.now in
    fits_by_from_yields_list one w _ _
    (YieldsList-from_map _ one (YieldsList-from_slice w cc) c.map.ensures.closure (λ x r q k. search (rules, tests)))
    (omega (arith, marks_all w, count_most (length w) (held w)))

pub returns : goal.returns
unfolding mark
returns c =
    let w = c.args.words.now in
    sum_by_from_yields_List one w _ _ c.sum.ensures.ran
    (YieldsList-from_map _ one (YieldsList-from_slice w cc) c.map.ensures.closure (λ x r q k. search (rules, tests)))
    ∙ marks_all w
