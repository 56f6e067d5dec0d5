-- `write_rows` leaves T at the front of the workspace.
use Prim.Native.Nat.{ℕ, ◌≤◌}
use native.Mathlib.Omega.{arith}
use mathlib.Core.List.{List}
use mathlib.Core.Path.{◌≡◌, sym, ◌∙◌}
use lib.ListN.{length, length-replicate, replicate}
use lib.Seq.{length-take-le}
use Rattle.limits.specs.Limits.{max_rows}
use Rattle.plain_results.proofs.Result.{space_fresh, values_fit, bounds, written_joined}
use Rattle.plain_results.proofs.write_rows.Goals as goal

-- the starts fill their buffer at most
starts_fit : {total height : ℕ} → total ≡ height → height ≤ max_rows → (starts : List ℕ)
    → length starts ≡ length (replicate {A = ℕ} max_rows 0) → total ≤ length starts
starts_fit e m starts long = let z = long ∙ length-replicate {A = ℕ} max_rows 0 in omega arith

pub returns : goal.returns
returns c =
    let h = c.in_ok-n.ensures in
    written_joined _ _ _ _ _ _ c.requires.inputs _ _ _ _ h.0 h.1 c.args.work.now c.requires.space _ _
    c.row_count-total.ensures c.col_count-cols.ensures (starts_fit c.row_count-total.ensures
    c.requires.inputs.output.header.row_range.most _ c.all_rows.auto.starts) c.all_rows.auto.oc _ c.join.ensures
