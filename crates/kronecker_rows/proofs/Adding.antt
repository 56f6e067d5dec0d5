-- The loop of `add_block`: what it has written when it stands at entry p of the row.
use Rattle.std.proofs.Common.{None, Some}
use Prim.Native.Nat.{ℕ, ◌+◌, ◌-◌, ◌≤◌, ◌<◌}
use native.Mathlib.Omega.{arith}
use native.Mathlib.Decide.{dec_lt}
use mathlib.Core.Path.{◌≡◌, refl, sym, ap, ◌∙◌}
use mathlib.Core.List.{List}
use lib.ListN.{length, set, length-set}
use Rattle.words.specs.Words.{at}
use Rattle.grid.specs.Cell.{Cell}
use Rattle.operators.specs.declared.BinaryOp.{BinaryOp}
use Rattle.operators.specs.Operators.{binary_word}
use Rattle.rows.specs.Row.{lookup, Row, Holds}
use Rattle.rows.proofs.Holds.{holds_put, holds_skip}
use Rattle.rows.proofs.Walk.{front, front_at, front_end, front_above, lookup_entry, absent_first, absent_next}
use Rattle.kronecker_rows.specs.Blocks.{Block}

-- the entries before p are written behind those that were there, e entries now, and the buffers are as long as they
-- were
pub record Adding (op : BinaryOp) (x base n : ℕ) (cols vals oc₀ ov₀ : List ℕ) (count : ℕ) (oc ov : List ℕ) (p e : ℕ)
    : Type 0 where
  pub most : e ≤ base + front n cols p
  pub out : (f : ℕ → Cell) → Block op x base n cols vals f → Holds base f count oc₀ ov₀
      → Holds (base + front n cols p) f e oc ov
  pub long_cols : length oc ≡ length oc₀
  pub long_vals : length ov ≡ length ov₀

module _ {n : ℕ} {cols vals : List ℕ} (w : Row n cols vals) where
  front_most : (p : ℕ) → front n cols p ≤ n
  front_most p = go (dec_lt p (length cols))
    where
      go : Dec (p < length cols) → front n cols p ≤ n
      go (yes d) = omega (arith, w.small p d, front_at n cols p d)
      go (no d) = omega (arith, front_end n cols p (omega arith))

  -- a column of the block where the row has no entry
  block_absent : (op : BinaryOp) (x base : ℕ) (f : ℕ → Cell) → Block op x base n cols vals f
      → (j : ℕ) → base ≤ j → j - base < n → lookup cols vals (j - base) ≡ None → f j ≡ None
  block_absent op x base f b j l m e =
      let z : base + (j - base) ≡ j = omega arith in ap f (sym z) ∙ b (j - base) m ∙ rw e

  -- before the first entry
  pub adding_start : (op : BinaryOp) (x base count : ℕ) (oc ov : List ℕ) → count ≤ base
      → Adding op x base n cols vals oc ov count oc ov 0 count
  adding_start op x base count oc ov l = record {
    most = omega arith;
    out = λ f b h. holds_skip h (base + front n cols 0) (omega arith)
        (λ j u v. block_absent op x base f b j u (omega (arith, front_most 0))
        (absent_first w (j - base) (omega arith)));
    long_cols = refl;
    long_vals = refl;
  }

  module _ {op : BinaryOp} {x base : ℕ} {oc₀ ov₀ : List ℕ} {count : ℕ} {oc ov : List ℕ} {p e : ℕ}
      (h : Adding op x base n cols vals oc₀ ov₀ count oc ov p e) (l : p < length cols) where
    -- there is room for entry p
    pub adding_room : e < base + n
    adding_room = omega (arith, h.most, front_at n cols p l, w.small p l)

    -- it is put behind the others
    pub adding_step : base + n ≤ length oc₀ → base + n ≤ length ov₀
        → Adding op x base n cols vals oc₀ ov₀ count (set oc e (base + at cols p))
        (set ov e (binary_word op x (at vals p))) (p + 1) (e + 1)
    adding_step a b =
        let room = adding_room in
        let next = front_above w p (p + 1) (omega arith) l in
        let here = front_at n cols p l in
        record {
          most = omega (arith, h.most);
          out = λ f k g.
              let entry : f (base + at cols p) ≡ Some (binary_word op x (at vals p)) =
              k (at cols p) (w.small p l) ∙ rw (lookup_entry w p l) in
              let done : Holds (base + at cols p) f e oc ov = rw here at (h.out f k g) in
              holds_skip (holds_put done (omega (arith, h.long_cols)) (omega (arith, h.long_vals)) entry)
              (base + front n cols (p + 1)) (omega arith)
              (λ j u v. block_absent op x base f k j (omega arith) (omega (arith, front_most (p + 1)))
              (absent_next w p (j - base) l (omega arith) (omega arith)));
          long_cols = length-set oc e (base + at cols p) ∙ h.long_cols;
          long_vals = length-set ov e (binary_word op x (at vals p)) ∙ h.long_vals;
        }

  -- behind the last entry the block is whole
  pub adding_done : {op : BinaryOp} {x base : ℕ} {oc₀ ov₀ : List ℕ} {count : ℕ} {oc ov : List ℕ} {p e : ℕ}
      → Adding op x base n cols vals oc₀ ov₀ count oc ov p e → length cols ≤ p → (f : ℕ → Cell)
      → Block op x base n cols vals f → Holds base f count oc₀ ov₀ → Holds (base + n) f e oc ov
  adding_done {p = p} h l f k g = rw (front_end n cols p l) at (h.out f k g)
