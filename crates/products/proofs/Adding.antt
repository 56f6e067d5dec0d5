-- The loop of `add_row`: the entries before p of a row, each times x, are added to a dense row.
use Rattle.std.proofs.Common.{None, Some}
use Prim.Native.Nat.{ℕ, ◌+◌, ◌≤◌, ◌<◌}
use native.Mathlib.Omega.{arith}
use mathlib.Core.Path.{◌≡◌, ◌∙◌}
use mathlib.Core.List.{List}
use lib.ListN.{length, set}
use Rattle.limits.specs.Limits.{max_cols}
use Rattle.words.specs.Words.{at}
use Rattle.grid.specs.Cell.{Cell}
use Rattle.operators.specs.declared.BinaryOp.{BinaryOp}
use Rattle.operators.specs.declared.Monoid.{Monoid}
use Rattle.operators.specs.Operators.{binary_word, monoid_op}
use Rattle.operations.specs.CellOperations.{unite}
use Rattle.rows.specs.Row.{lookup, Row}
use Rattle.rows.proofs.Walk.{front_at, lookup_entry}
use Rattle.dense_rows.specs.Dense.{marked, dense, Sized, Spread}
use Rattle.dense_rows.proofs.Cells.{stored_sized, stored_here, stored_other}
use Rattle.dense_rows.proofs.Sweep.{Swept, swept_start, swept_step, swept_done}
use Rattle.products.specs.Products.{added_row}
use Rattle.products.proofs.Dot.{unite_absent}

pub record Adding (monoid : Monoid) (op : BinaryOp) (x : ℕ) (cols vals : List ℕ) (old : ℕ → Cell) (marks cells : List ℕ)
    (p : ℕ) : Type 0 where
  pub sized : Sized marks cells
  pub swept : Swept max_cols cols old (added_row monoid op x (lookup cols vals) old) (dense marks cells) p

-- where the row has no entry nothing is added
pub keeps : (monoid : Monoid) (op : BinaryOp) (x : ℕ) (row old : ℕ → Cell) (j : ℕ) → row j ≡ None
    → added_row monoid op x row old j ≡ old j
keeps monoid op x row old j e = rw e (unite_absent (monoid_op monoid) (old j))

module _ {cols vals : List ℕ} (w : Row max_cols cols vals) {monoid : Monoid} {op : BinaryOp} {x : ℕ} {old : ℕ → Cell}
  where
    pub adding_start : {marks cells : List ℕ} → Sized marks cells → ((j : ℕ) → dense marks cells j ≡ old j)
        → Adding monoid op x cols vals old marks cells 0
    adding_start s f = record { sized = s; swept = swept_start w (keeps monoid op x _ old) f }

    module _ {marks cells : List ℕ} {p : ℕ} (h : Adding monoid op x cols vals old marks cells p) where
      -- the sum s with the product of entry p is stored at its column
      pub adding_step : {t s : ℕ} → p < length cols → t ≡ binary_word op x (at vals p)
          → Some s ≡ unite (monoid_op monoid) (marked (at marks (at cols p)) (at cells (at cols p))) (Some t)
          → Adding monoid op x cols vals old (set marks (at cols p) 1) (set cells (at cols p) s) (p + 1)
      unfolding dense
      adding_step {t} {s} l e f =
          let c = at cols p in
          let before : dense marks cells c ≡ old c = h.swept.rest c (omega (arith, front_at max_cols cols p l)) in
          record {
            sized = stored_sized h.sized c s;
            swept = swept_step w (keeps monoid op x _ old) h.swept l
                (stored_here h.sized c s (w.small p l) ∙ f ∙ rw (lookup_entry w p l, e, ← before))
                (stored_other h.sized c s);
          }

      pub adding_done : length cols ≤ p → Spread (added_row monoid op x (lookup cols vals) old) marks cells
      adding_done l = record { sized = h.sized; cell = swept_done w (keeps monoid op x _ old) h.swept l }
