-- `apply_values` overwrites: after k turns the first k values are in place.
use native.Mathlib.Omega.{arith}
use Prim.Native.Nat.{ℕ, ◌+◌}
use mathlib.Core.Path.{ap, ◌∙◌}
use mathlib.Core.List.{List, map}
use lib.ListN.{set, length-map}
use Rattle.words.proofs.Overwrite.{overwrite_done}
use Rattle.apply_rows.specs.Values.{value_word}
use Rattle.apply_rows.proofs.Values.{value_turn}
use Rattle.apply_rows.proofs.apply_values.Goals as goal

pub loop-k-preserved : goal.loop-k-preserved
loop-k-preserved c =
    let a = c.args in
    ap (λ (x : List ℕ). set x (a.at + c.loop-k.k) c.apply_entry.result) c.loop-k.invariant
    ∙ value_turn (value_word a.op) a.dst.now a.at a.src.now c.loop-k.k c.apply_entry.result (omega arith)
    (omega arith) c.apply_entry.ensures

pub returns : goal.returns
returns c =
    let a = c.args in
    let l = length-map a.src.now (value_word a.op) in
    c.loop-k.invariant
    ∙ overwrite_done a.at (map (value_word a.op) a.src.now) a.dst.now (omega arith) c.loop-k.k (omega arith)
