-- The sums of the products at the places before an entry, for any row that holds them. Cited by the loops that add up
-- rows.
use Rattle.std.proofs.Common.{None}
use Prim.Native.Nat.{ℕ, ◌+◌, ◌≤◌, ◌<◌}
use native.Mathlib.Omega.{arith}
use mathlib.Core.Path.{◌≡◌, sym, ap, ◌∙◌}
use mathlib.Core.List.{List}
use lib.ListN.{length}
use Rattle.words.specs.Words.{at}
use Rattle.grid.specs.Cell.{Cell}
use Rattle.operators.specs.declared.BinaryOp.{BinaryOp}
use Rattle.operators.specs.declared.Monoid.{Monoid}
use Rattle.operations.specs.CellOperations.{dot}
use Rattle.rows.specs.Row.{lookup, Row}
use Rattle.rows.proofs.Walk.{front, front_at, front_end, front_above, lookup_entry, absent_first, absent_next}
use Rattle.products.specs.Products.{added_row}
use Rattle.products.proofs.Dot.{dot_next, dot_skip}

-- at every column j the sum of the products at the places before entry p
pub record Sums (monoid : Monoid) (op : BinaryOp) (n : ℕ) (cols vals : List ℕ) (b : ℕ → ℕ → Cell) (sum : ℕ → Cell)
    (p : ℕ) : Type 0 where
  pub total : (j : ℕ) → sum j ≡ dot monoid op (front n cols p) (lookup cols vals) (λ k. b k j)

module _ {n : ℕ} {cols vals : List ℕ} (w : Row n cols vals) {monoid : Monoid} {op : BinaryOp} {b : ℕ → ℕ → Cell} where
  pub sums_start : {sum : ℕ → Cell} → ((j : ℕ) → sum j ≡ None) → Sums monoid op n cols vals b sum 0
  unfolding dot
  sums_start s = record {
    total = λ j.
        s j
        ∙ sym (dot_skip monoid op _ (λ k. b k j) 0 (front n cols 0) (omega arith) (λ k u v. absent_first w k v));
  }

  module _ {sum : ℕ → Cell} {p : ℕ} (h : Sums monoid op n cols vals b sum p) where
    -- entry p times its row of b is added
    pub sums_step : {next : ℕ → Cell} → p < length cols
        → ((j : ℕ) → next j ≡ added_row monoid op (at vals p) (b (at cols p)) sum j)
        → Sums monoid op n cols vals b next (p + 1)
    sums_step {next} l s = record {
      total = λ j.
          let c = at cols p in
          let past = dot_skip monoid op (lookup cols vals) (λ k. b k j) (c + 1) (front n cols (p + 1))
          (omega (arith, front_above w p (p + 1) (omega arith) l)) (λ k u v. absent_next w p k l (omega arith) v) in
          let before : sum j ≡ dot monoid op c (lookup cols vals) (λ k. b k j) =
          h.total j ∙ ap (λ (q : ℕ). dot monoid op q (lookup cols vals) (λ k. b k j)) (front_at n cols p l) in
          s j
          ∙ rw (past, dot_next monoid op (lookup cols vals) (λ k. b k j) c, lookup_entry w p l, before);
    }

    pub sums_done : length cols ≤ p → (j : ℕ) → sum j ≡ dot monoid op n (lookup cols vals) (λ k. b k j)
    sums_done l j =
        h.total j ∙ ap (λ (x : ℕ). dot monoid op x (lookup cols vals) (λ k. b k j)) (front_end n cols p l)
