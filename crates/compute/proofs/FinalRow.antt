-- One row of the final C, from what is known of a call whose inputs are valid and agree.
use Rattle.std.proofs.Common.{None}
use Prim.Native.Nat.{ℕ, ◌<◌}
use native.Mathlib.Omega.{arith}
use mathlib.Core.Path.{◌≡◌, refl, sym, ap, ◌∙◌}
use mathlib.Core.List.{List, []}
use mathlib.Core.Bool.{Bool, true, false, cond}
use lib.ListN.{take}
use borrow.Author.Tests.{eqb-true}
use Rattle.conditions.proofs.Tests.{and_left, and_right}
use Rattle.grid.specs.Cell.{Cell}
use Rattle.grid.specs.Grid.{Grid, Same}
use Rattle.rows.specs.Row.{Holds, lookup}
use Rattle.rows.proofs.Holds.{holds_same}
use Rattle.rows.proofs.Walk.{row_wider}
use Rattle.rows.proofs.Lookup.{gather_row, lookup_gather}
use Rattle.matrix.specs.Layout.{rows, cols, row_columns, row_values, cell_of, grid_of}
use Rattle.operations.specs.declared.Call.{Call}
use Rattle.operations.specs.declared.WriteBack.{WriteBack}
use Rattle.operations.specs.declared.Shapes.{Shapes}
use Rattle.operations.specs.GridOperations.{oriented, needs_of, result_grid}
use Rattle.operations.specs.WriteBacks.{accumulated, inside, write_back}
use Rattle.operations.specs.Calls.{
  transpose_first,
  transpose_second,
  write_back_of,
  has_second,
  has_lists,
  call_shapes,
  call_needs,
  call_result,
  call_final,
  inputs_agree,
  lists_valid,
  indexes_valid,
  shapes_agree,
}
use Rattle.requests.specs.Refusal.{lent_final}
use Rattle.extract_rows.specs.Indices.{Inverses}
use Rattle.plain_results.specs.Rows.{Inputs}
use Rattle.result_rows.specs.RowInputs.{row_shapes, row_needs, RowInputs, Buffers}
use Rattle.result_rows.proofs.Inputs.{matrix_row}
use Rattle.masked_rows.specs.Inside.{MaskKnown, HoldsInside}
use Rattle.sources.specs.Sources.{Source}
use Rattle.compute.specs.Computing.{Prepared, MaskThere, OldRow, plain, RowBuffers}
use Rattle.operations.proofs.Results.{shapes_of_same, cell_same}
use Rattle.compute.proofs.Plain.{write_plain}

-- what `shapes_agree` says
record Agreed (call : Call) (a b m c : Grid) (is js : List ℕ) : Type 0 where
  inputs : inputs_agree (call_shapes call a b c is js) (call_needs call a b c is js) ≡ true
  result_rows : (call_result call a b c is js).rows ≡ c.rows
  result_cols : (call_result call a b c is js).cols ≡ c.cols
  mask_rows : call.has_mask ≡ true → m.rows ≡ c.rows
  mask_cols : call.has_mask ≡ true → m.cols ≡ c.cols

shapes_facts : (call : Call) (a b m c : Grid) (is js : List ℕ) → shapes_agree call a b m c is js ≡ true
    → Agreed call a b m c is js
unfolding shapes_agree
shapes_facts call a b m c is js h₀ =
    let h₁ = and_right _ _ h₀ in
    let h₂ = and_right _ _ h₁ in
    let t = and_left _ _ h₂ in
    let k = and_right _ _ h₂ in
    record {
      inputs = and_left _ _ h₁;
      result_rows = eqb-true _ _ (and_left _ _ t);
      result_cols = eqb-true _ _ (and_right _ _ t);
      mask_rows = λ e. eqb-true _ _ (and_left _ _ (rw e at k));
      mask_cols = λ e. eqb-true _ _ (and_right _ _ (rw e at k));
    }

-- the write-back looks at T inside the mask only
write_inside : (w : WriteBack) (m c t t' : Cell) → (inside w m ≡ true → t ≡ t') → write_back w m c t ≡ write_back w m c t'
unfolding write_back
write_inside w m c t t' e = go (inside w m) e
  where
    go : (b : Bool) → (b ≡ true → t ≡ t')
        → cond b (accumulated w.accumulator c t) (cond w.replace None c)
        ≡ cond b (accumulated w.accumulator c t') (cond w.replace None c)
    go true f = ap (accumulated w.accumulator c) (f refl)
    go false f = refl

-- the mask's row as it is handed on has the mask's own cells, where there is a mask
pub mask_inside : (w : WriteBack) (b : Bool) → w.has_mask ≡ b → (m : List ℕ) (i : ℕ) {n : ℕ} {f : ℕ → Cell} {e : ℕ}
    {oc ov : List ℕ} → HoldsInside w (lookup (cond b (row_columns m i) []) (cond b (row_values m i) [])) n f e oc ov
    → HoldsInside w (cell_of m i) n f e oc ov
unfolding cell_of
mask_inside w true k m i h = record { row = h.row; holds = h.holds; same = h.same }
mask_inside w false k m i h = record {
  row = h.row;
  holds = h.holds;
  same = λ j l. h.same j (rw k (rw k at l));
}

pub mask_known : (w : WriteBack) (m : List ℕ) (i : ℕ) (mc mv : List ℕ) → MaskThere w m i
    → mc ≡ cond w.has_mask (row_columns m i) [] → mv ≡ cond w.has_mask (row_values m i) [] → MaskKnown w mc mv
mask_known w m i mc mv h a b e =
    rw (a, b, e) (row_wider (matrix_row m (h e).matrix i (h e).row) (h e).matrix.header.col_range.most)

same_refl : {g : Grid} → Same g g
same_refl = record { rows = refl; cols = refl; cell = λ i j l m. refl }

-- x and y are the inputs as they are read
module _ (call : Call) (a b m c is js x y : List ℕ) (r : Prepared call a b m c is js)
    (s : Source (transpose_first call) a x) (u : has_second call.operation ≡ true → Source (transpose_second call) b y) where
  -- as the definition has them
  abbrev A : Grid
  A = oriented (transpose_first call) (grid_of a)

  abbrev B : Grid
  B = oriented (transpose_second call) (grid_of b)

  shapes : Agreed call (grid_of a) (grid_of b) (grid_of m) (grid_of c) is js
  shapes = shapes_facts call (grid_of a) (grid_of b) (grid_of m) (grid_of c) is js r.shapes

  lists : lists_valid call.operation (call_needs call (grid_of a) (grid_of b) (grid_of c) is js).bounds is js ≡ true
  unfolding indexes_valid
  lists = r.indexes

  second_same : has_second call.operation ≡ true → Same (grid_of y) B
  second_same h = (u h).same

  -- the shapes as they are read
  shapes_are : row_shapes call.operation x y c is js ≡ call_shapes call (grid_of a) (grid_of b) (grid_of c) is js
  shapes_are =
      shapes_of_same (grid_of x) A (grid_of y) B (grid_of c) (grid_of c) is js s.same same_refl call.operation second_same

  -- what the row of T needs
  pub row_inputs : (has_lists call.operation ≡ true → Inverses is js y) → (i : ℕ) → i < rows c
      → RowInputs call.operation x y c is js i
  row_inputs v i l = record {
    first = s.matrix;
    second = λ h. (u h).matrix;
    inverses = v;
    output = r.inputs.output;
    agree = ap (λ (z : Shapes). inputs_agree z (needs_of call.operation z)) shapes_are ∙ shapes.inputs;
    lists = rw shapes_are lists;
    row = rw (shapes_are, shapes.result_rows) l;
  }

  -- T as it is computed has C's columns
  cols_are : (row_needs call.operation x y c is js).result.cols ≡ cols c
  cols_are = rw shapes_are shapes.result_cols

  rows_are : (row_needs call.operation x y c is js).result.rows ≡ rows c
  rows_are = rw shapes_are shapes.result_rows

  -- what all rows of T need
  pub all_inputs : (has_lists call.operation ≡ true → Inverses is js y) → Inputs call.operation x y c is js
  all_inputs v = record { output = r.inputs.output; row = row_inputs v; same_rows = rows_are; same_cols = cols_are }

  -- its cells are the definition's
  result_cell_lem : (i j : ℕ) → i < rows c → j < cols c
      → (result_grid call.operation (grid_of x) (grid_of y) (grid_of c) is js).cell i j
      ≡ (call_result call (grid_of a) (grid_of b) (grid_of c) is js).cell i j
  result_cell_lem i j l k =
      cell_same (grid_of x) A (grid_of y) B (grid_of c) (grid_of c) is js s.same same_refl call.operation second_same
      shapes.inputs lists i j (rw shapes.result_rows l) (rw shapes.result_cols k)

  -- where C takes T in every place, T is the final C
  pub plain_same : plain (write_back_of call) ≡ true
      → Same (result_grid call.operation (grid_of x) (grid_of y) (grid_of c) is js) (lent_final call a b m c is js)
  unfolding call_final
  plain_same p = record {
    rows = rows_are;
    cols = cols_are;
    cell = λ i j l k. result_cell_lem i j l k
        ∙ sym (write_plain (write_back_of call) (cell_of m i j) (cell_of c i j) _ p);
  }

  pub row_buffers : (tc tv oc ov : List ℕ) → RowBuffers tc tv oc ov
      → Buffers (result_grid call.operation (grid_of x) (grid_of y) (grid_of c) is js) tc tv
  row_buffers tc tv oc ov h =
      let k = r.inputs.output.header.col_range.most in
      record { columns = omega (arith, cols_are); values = omega (arith, cols_are) }

  pub mask_there : (W : WriteBack) → W ≡ write_back_of call → (i : ℕ) → i < rows c → MaskThere W m i
  mask_there W v i l =
      rw v (λ e. record { matrix = r.inputs.mask e; row = rw (shapes.mask_rows e) l })

  -- the row of T, once it is left in its buffers
  module _ (i t : ℕ) (tc tv : List ℕ) (l : i < rows c) (W : WriteBack) (v : W ≡ write_back_of call)
      (h : HoldsInside W (cell_of m i) (result_grid call.operation (grid_of x) (grid_of y) (grid_of c) is js).cols
      ((result_grid call.operation (grid_of x) (grid_of y) (grid_of c) is js).cell i) t tc tv) where
    held : Holds (cols c) h.row t tc tv
    held = rw cols_are at h.holds

    pub old_row : OldRow W m c (take t tc) (take t tv) i
    old_row = rw v (record {
      matrix = r.inputs.output;
      row = l;
      mask = λ e. record { matrix = r.inputs.mask e; row = rw (shapes.mask_rows e) l };
      mask_cols = λ e. shapes.mask_cols e;
      result = rw (held.columns, held.values) (gather_row (cols c) h.row);
    })

    -- inside the mask it is the definition's row
    t_cell : (j : ℕ) → j < cols c → inside W (cell_of m i j) ≡ true
        → lookup (take t tc) (take t tv) j ≡ (call_result call (grid_of a) (grid_of b) (grid_of c) is js).cell i j
    t_cell j k n =
        let p : lookup (take t tc) (take t tv) j ≡ h.row j =
        rw (held.columns, held.values) (lookup_gather (cols c) h.row j k) in
        p ∙ h.same j n ∙ result_cell_lem i j l k

    pub final_row : (e : ℕ) (oc ov : List ℕ)
        → Holds (cols c) (λ j. write_back W (cell_of m i j) (cell_of c i j) (lookup (take t tc) (take t tv) j)) e oc ov
        → Holds (cols c) ((lent_final call a b m c is js).cell i) e oc ov
    unfolding call_final
    final_row e oc ov q =
        holds_same q _ (λ j k. rw (← v) (write_inside W (cell_of m i j) (cell_of c i j) _ _ (t_cell j k)))
