-- From the rows of T to its words in the workspace, where the column numbers are in their place already.
use Prim.Native.Nat.{ℕ, ◌+◌, ◌-◌, ◌≤◌, ◌<◌}
use native.Mathlib.Omega.{arith}
use mathlib.Core.Path.{◌≡◌, sym, ap, subst, ◌∙◌}
use mathlib.Core.List.{List}
use lib.ListN.{length, take, drop, replicate, length-take, length-replicate}
use lib.Seq.{length-take-le, take_at, drop_at, get_or-take}
use Rattle.std.specs.Prelude.{Ok}
use Rattle.limits.specs.Limits.{max_rows, max_cols, max_entries}
use Rattle.words.specs.Words.{part}
use Rattle.grid.specs.Grid.{Grid}
use Rattle.grid.specs.Entries.{column, value, grid_columns}
use Rattle.grid.proofs.Gather.{flatten_length}
use Rattle.matrix.specs.Layout as layout
use Rattle.matrix.specs.Layout.{grid_of, columns_at, workspace_words}
use Rattle.encoding.specs.Encode.{encode, grid_size}
use Rattle.encoding.proofs.Canonical.{encode_length}
use Rattle.operations.specs.declared.Operation.{Operation}
use Rattle.operations.specs.GridOperations.{result_grid}
use Rattle.results.specs.Joining.{SectionBounds, joined}
use Rattle.results.proofs.Joined.{joined_written}
use Rattle.plain_results.specs.Rows.{Inputs, Space, Rows, Written}
use Rattle.plain_results.proofs.Rows.{lent, back, back_is, lent_length, back_length}

-- fresh buffers, and the workspace from the column numbers' place on
pub space_fresh : (r q : ℕ) (w : List ℕ) → r ≡ q → q ≤ max_rows → workspace_words ≤ length w
    → Space (replicate max_rows 0) (lent (columns_at r) w) (replicate (max_entries + max_cols) 0)
space_fresh r q w i l m =
    let e : length {A = ℕ} (replicate max_rows 0) ≡ max_rows = length-replicate {A = ℕ} max_rows 0 in
    let f : length {A = ℕ} (replicate (max_entries + max_cols) 0) ≡ max_entries + max_cols =
    length-replicate {A = ℕ} (max_entries + max_cols) 0 in
    record { starts = omega arith; columns = omega (arith, lent_length (columns_at r) w); values = omega arith }

module _ (op : Operation) (a b c is js : List ℕ) (p : Inputs op a b c is js) (n : ℕ) (st xc ov : List ℕ)
    (few : n ≤ max_entries)
    (rows : Rows (result_grid op (grid_of a) (grid_of b) (grid_of c) is js) (result_grid op (grid_of a) (grid_of b) (grid_of c) is js).rows n st xc ov) where
  abbrev T : Grid
  T = result_grid op (grid_of a) (grid_of b) (grid_of c) is js

  values_long : length (take n ov) ≡ n
  values_long =
      ap length rows.values ∙ flatten_length value column T.cols T.cell T.rows ∙ sym rows.count

  -- the values lie within their buffer
  pub values_fit : n ≤ length ov
  values_fit = omega (arith, simp length-take at values_long)

  -- the workspace w, with the column numbers; r and k are C's shape
  module _ (w : List ℕ) (space : workspace_words ≤ length w) (r k : ℕ) (r-is : r ≡ layout.rows c) (k-is : k ≡ layout.cols c)
      (long : r ≤ length st) (kept : length xc ≡ length (lent (columns_at r) w)) where
    abbrev w₁ : List ℕ
    w₁ = back (columns_at r) w xc

    inside : columns_at r ≤ length w
    inside = omega (arith, p.output.header.row_range.most)

    length₁ : length w₁ ≡ length w
    length₁ = back_length (columns_at r) w xc inside kept

    pub bounds : SectionBounds r k (take r st) (take n ov) w₁
    bounds = record {
      rows = omega (arith, p.output.header.row_range.most);
      cols = omega (arith, p.output.header.col_range.most);
      starts = length-take-le r st (omega arith);
      few = omega (arith, values_long);
      space = omega (arith, length₁);
    }

    columns : part (columns_at r) (columns_at r + length (take n ov)) w₁ ≡ grid_columns T
    columns =
        let e : columns_at r + length (take n ov) - columns_at r ≡ n = omega (arith, values_long) in
        rw e (ap (λ (s : List ℕ). take n (drop (columns_at r) s)) (back_is (columns_at r) w xc inside)
        ∙ ap (take n) (drop_at (take (columns_at r) w) xc (columns_at r) (length-take-le (columns_at r) w inside))
        ∙ rows.columns)

    -- the words that they make
    pub written_joined : (w' : List ℕ) → w' ≡ joined r k (take r st) (take n ov) w₁ → Written T (Ok n) w'
    written_joined w' e =
        let q : r ≡ T.rows = r-is ∙ sym p.same_rows in
        let s : k ≡ T.cols = k-is ∙ sym p.same_cols in
        let b : SectionBounds T.rows T.cols (take T.rows st) (take n ov) w₁ =
        subst (λ (m : ℕ). SectionBounds T.rows m (take T.rows st) (take n ov) w₁) s
        (subst (λ (m : ℕ). SectionBounds m k (take m st) (take n ov) w₁) q bounds) in
        let x : w' ≡ joined T.rows T.cols (take T.rows st) (take n ov) w₁ =
        e ∙ ap (λ (m : ℕ). joined m k (take m st) (take n ov) w₁) q
        ∙ ap (λ (m : ℕ). joined T.rows m (take T.rows st) (take n ov) w₁) s in
        let y = joined_written T (take T.rows st) (take n ov) w₁ b
        (λ i l. get_or-take T.rows st i 0 l ∙ rows.starts i l)
        (ap (λ (m : ℕ). part (columns_at m) (columns_at m + length (take n ov)) w₁) (sym q) ∙ columns) rows.values in
        (rows.count, few, ap (take (grid_size T)) (x ∙ y) ∙ take_at (encode T) _ (grid_size T) (encode_length 0 T))
