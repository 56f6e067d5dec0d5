-- `fall_count` is `falls`: the count is that of the pairs passed.
use Prim.Native.Nat.{◌-◌, ◌≤◌}
use mathlib.Core.Path.{◌≡◌}
use lib.ListN.{length, drop}
use Rattle.std.specs.Slice.Iter.{windows_rest, windows_size}
use Rattle.column_order.specs.Falls.{count, falls_after}
use Rattle.column_order.proofs.fall_count.Given as goal

abbrev pub invariant-loop-pair : goal.invariant-loop-pair
invariant-loop-pair l =
    let words = l.words in
    let rest = windows_rest l.pair-iterator in
    let k = length words - length rest in
    record {
      can_next : (goal.iterator-loop-pair).can_next l.pair-iterator;
      is_finite : (goal.iterator-loop-pair).is_finite l.pair-iterator;
      pairs : windows_size l.pair-iterator ≡ 2;
      passed : k ≤ length words - 1;
      short : length rest ≤ length words;
      rest : rest ≡ drop k words;
      few : l.falls ≤ k;
      counted : l.falls ≡ count k (falls_after words);
    }
