-- `fall_count` is `falls`: the count is that of the pairs passed.
use native.Mathlib.Omega.{arith}
use Prim.Native.Nat.{ℕ, ◌+◌, ◌-◌}
use mathlib.Core.Path.{◌≡◌, refl, sym, ap, ◌∙◌}
use lib.ListN.{length}
use lib.Dec.{leb}
use Rattle.std.proofs.lemmas.Iterator.{window_more}
use Rattle.std.specs.Slice.Iter.{windows_rest}
use Rattle.words.specs.Words.{at}
use Rattle.column_order.specs.Falls.{falls_after, falls, count}
use Rattle.column_order.proofs.Counts.{count_none, count_turn, count_most}
use Rattle.column_order.proofs.fall_count.Goals as goal

pub loop-pair-init : goal.loop-pair-init
loop-pair-init c =
    let words = c.args.words.now in
    let none : length words - length words ≡ 0 = omega arith in
    let pairs = c.windows-pair-items.ensures in
    rw (c.into_iter-pair-iterator.ensures.into_iter_gives, pairs.rest, pairs.size, none)
    (record {
      can_next = omega arith;
      is_finite = tt;
      pairs = refl;
      passed = omega arith;
      short = omega arith;
      rest = refl;
      few = omega arith;
      counted = sym (count_none (falls_after words));
    })

pub loop-pair-preserved : goal.loop-pair-preserved
loop-pair-preserved c =
    let words = c.args.words.now in
    let v = c.loop-pair.invariant in
    let k = length words - length (windows_rest c.loop-pair.pair-iterator) in
    let m = window_more words _ _ _ c.in-Some.pair c.in-Some.is c.next.ensures.steps (omega arith) v.short v.rest in
    let one_more : k + 1 ≡ length words - length (windows_rest c.next.new.self) = omega arith in
    let here : k + 0 ≡ k = omega arith in
    let pair : leb (at c.in-Some.pair.now 1) (at c.in-Some.pair.now 0) ≡ falls_after words k =
    rw (m.3 1 0 (omega arith), m.3 0 0 (omega arith), here) in
    let counted = count_turn (falls_after words) _ v.counted c.from-falls.ensures pair in
    record {
      can_next = omega (arith, c.next.ensures.steps.0);
      is_finite = tt;
      pairs = c.next.ensures.steps.0 ∙ v.pairs;
      passed = omega arith;
      short = omega arith;
      rest = m.1;
      few = omega (arith, count_most (k + 1) (falls_after words));
      counted = counted ∙ ap (λ (n : ℕ). count n (falls_after words)) one_more;
    }

pub returns : goal.returns
unfolding falls
returns c =
    let words = c.args.words.now in
    let k = length words - length (windows_rest c.loop-pair.pair-iterator) in
    let last = c.in-None.ensures.steps.1.0 in
    let e : k ≡ length words - 1 = omega arith in
    rw e at c.loop-pair.invariant.counted
