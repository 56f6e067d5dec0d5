-- T at the front of the area, or the step's refusal.
use Prim.Native.Nat.{ℕ, ◌+◌, ◌-◌, ◌*◌, ◌≤◌, ◌<◌}
use native.Mathlib.Omega.{arith}
use mathlib.Core.Path.{◌≡◌, refl, sym, ap, ◌∙◌}
use mathlib.Core.Bool.{Bool, true, false}
use mathlib.Core.List.{List, []}
use lib.ListN.{length, take, drop, length-drop, replicate, length-replicate}
use lib.Seq.{take_at}
use borrow.Author.Tests.{le-leb, lt-leb}
use Rattle.limits.specs.Limits.{max_cols, max_entries}
use Rattle.limits.specs.Sizes.{size_of}
use Rattle.answers.specs.Refusals.{invalid_shape, too_many_entries}
use Rattle.words.specs.Words.{part, overwrite}
use Rattle.words.proofs.Overwrite.{overwrite_here}
use Rattle.grid.specs.Grid.{Grid}
use Rattle.grid.specs.Entries.{entry_count}
use Rattle.matrix.specs.Layout.{grid_of, max_matrix_words}
use Rattle.matrix.specs.Facts.{Matrix}
use Rattle.encoding.specs.Encode.{encode, grid_size, written_over}
use Rattle.encoding.proofs.Canonical.{encode_length}
use Rattle.operations.specs.declared.Operation.{Operation}
use Rattle.operations.specs.declared.Shape.{Shape}
use Rattle.operations.specs.declared.Shapes.{Shapes}
use Rattle.operations.specs.declared.Needs.{Needs}
use Rattle.operations.specs.Lists.{Small}
use Rattle.operations.specs.GridOperations.{needs_of, shape_of, shapes_of}
use Rattle.operations.specs.Calls.{has_second, inputs_agree}
use Rattle.results.specs.Staging.{ResultBounds, finished, Staged}
use Rattle.results.proofs.Staged.{staged_none}
use Rattle.results.proofs.Finished.{finished_written}
use Rattle.formula_values.specs.Values.{value_code, outcome, step_agrees}
use Rattle.formula_steps.specs.Steps.{
  left_words,
  right_words,
  result_at,
  area_grid,
  Operands,
  Agreeing,
  Staging,
  Gathered,
  Stepped,
}
use Rattle.formula_steps.proofs.Rows.{tail, tail_is, back, back_length, back_tail}

-- ---- the code of an outcome
-- 8
disagree_code : (x y : Bool) (g : Grid) → x ≡ false → invalid_shape ≡ value_code (outcome x y g)
disagree_code x y g p = rw p refl

-- 10
full_code : (x y : Bool) (g : Grid) → x ≡ true → y ≡ false → too_many_entries ≡ value_code (outcome x y g)
full_code x y g p q = rw (p, q) refl

-- 0
done_code : (x y : Bool) (g : Grid) → x ≡ true → y ≡ true → 0 ≡ value_code (outcome x y g)
done_code x y g p q = rw (p, q) refl

-- ---- the shapes of a step
-- a matrix has the shape that `needs_of` asks for
pub shape_small : {x : List ℕ} → Matrix x → (f : Shape) → f ≡ shape_of (grid_of x) → Small max_cols f
shape_small m f e = rw e (omega (arith, m.header.row_range.most), omega (arith, m.header.col_range.most))

-- the shapes that `step` puts together are the operation's
shapes_are : (op : Operation) (a b : Grid) → has_second op ≡ true → (f s : Shape) → f ≡ shape_of a → s ≡ shape_of b
    → (let x : Shapes = record { first = f; second = s; output = f; lists = record { rows = 0; cols = 0 } } in x)
    ≡ shapes_of op a b a [] []
shapes_are op a b h f s p q = rw (p, q, h) refl

module _ {op : Operation} {w : List ℕ} (o : Operands op w) {f s : Shape} {n : Needs}
    (p : f ≡ shape_of (grid_of (left_words w))) (q : s ≡ shape_of (grid_of (right_words w)))
    (e : n ≡ needs_of op (record { first = f; second = s; output = f; lists = record { rows = 0; cols = 0 } })) where
  abbrev shapes : Shapes
  shapes = record { first = f; second = s; output = f; lists = record { rows = 0; cols = 0 } }

  -- of the operands in the area
  same : shapes ≡ shapes_of op (grid_of (left_words w)) (grid_of (right_words w)) (grid_of (left_words w)) [] []
  same = shapes_are op (grid_of (left_words w)) (grid_of (right_words w)) o.ready.second f s p q

  -- what the code tests is `step_agrees`
  agrees_are : inputs_agree shapes n ≡ step_agrees op (grid_of (left_words w)) (grid_of (right_words w))
  agrees_are = rw e (ap (λ (x : Shapes). inputs_agree x (needs_of op x)) same)

  -- 8: the area stays
  pub stepped_disagree : inputs_agree shapes n ≡ false → Stepped op w invalid_shape w
  stepped_disagree z = record {
    code_is = disagree_code _ _ _ (sym agrees_are ∙ z);
    written = λ y. absurd (omega arith);
  }

  -- the operands agree: for `write_result`
  pub agreeing : inputs_agree shapes n ≡ true → Agreeing op n.result w
  agreeing z = record {
    operands = o;
    agree = sym agrees_are ∙ z;
    shape_is = rw e (ap (λ (x : Shapes). (needs_of op x).result) same);
  }

-- ---- the rows
-- none is staged yet, before `all_rows`
pub staging_start : {op : Operation} {s : Shape} {w : List ℕ} → Agreeing op s w → (rows : ℕ) → rows ≡ s.rows
    → Staging op (left_words w) (right_words w) rows 0 0 w (replicate max_cols 0) (replicate max_cols 0)
staging_start {op} {s} {w} a rows e =
    let z : length {A = ℕ} (replicate max_cols 0) ≡ max_cols = length-replicate {A = ℕ} max_cols 0 in
    record {
      ready = a.operands.ready;
      agree = a.agree;
      rows_are = e ∙ ap (λ (x : Shape). x.rows) a.shape_is;
      within = omega arith;
      few = omega arith;
      left = refl;
      right = refl;
      space = a.operands.space;
      staged = staged_none (area_grid op w) (drop result_at w);
      columns = omega arith;
      values = omega arith;
    }

-- ---- after `all_rows`
module _ {op : Operation} {s : Shape} {w : List ℕ} (a : Agreeing op s w) {n : ℕ} {w₁ : List ℕ}
    (g : Gathered op (left_words w) (right_words w) n w₁) (k : length w₁ ≡ length w) where
  abbrev T : Grid
  T = area_grid op w

  -- 10
  pub stepped_full : max_entries < n → (w' : List ℕ) → Stepped op w too_many_entries w'
  stepped_full f w' = record {
    code_is = full_code _ _ _ a.agree (lt-leb _ _ (g.full f));
    written = λ y. absurd (omega arith);
  }

  -- all rows are staged
  module _ (f : n ≤ max_entries) where
    rows_are : s.rows ≡ T.rows
    rows_are = ap (λ (x : Shape). x.rows) a.shape_is

    cols_are : s.cols ≡ T.cols
    cols_are = ap (λ (x : Shape). x.cols) a.shape_is

    count_is : n ≡ entry_count T
    count_is = (g.all f).count

    space : 3 * max_matrix_words ≤ length w₁
    space = omega (arith, a.operands.space)

    tail_long : max_matrix_words ≤ length (tail w₁)
    tail_long = omega (arith, ap length (tail_is w₁), length-drop result_at w₁, space)

    -- what `results::finish` asks for
    pub result_bounds : ResultBounds s.rows s.cols n (tail w₁)
    result_bounds =
        let r = a.operands.ready.row_range.most in
        let c = a.operands.ready.col_range.most in
        record {
          rows = omega (arith, rows_are);
          cols = omega (arith, cols_are);
          few = f;
          space = tail_long;
        }

    -- the third region is there
    pub tail_starts : result_at ≤ length w₁
    tail_starts = omega (arith, space)

    -- T is no larger than a region
    pub size_fits : size_of s.rows n ≤ max_matrix_words
    size_fits = let r = a.operands.ready.row_range.most in omega (arith, rows_are)

    -- the third region is y after `results::finish`
    module _ (y : List ℕ) (e : y ≡ finished s.rows s.cols n (tail w₁)) (z : length y ≡ length (tail w₁)) where
      -- what `words::move_down` asks for
      pub move_fits : result_at + size_of s.rows n ≤ length (back w₁ y)
      move_fits = omega (arith, back_length w₁ y space z, space, size_fits)

      -- the area keeps its length
      pub area_kept : length (back w₁ y) ≡ length w
      area_kept = back_length w₁ y space z ∙ k

      bounds : ResultBounds T.rows T.cols n (tail w₁)
      bounds = rw (rows_are, cols_are) at result_bounds

      staged : Staged T T.rows n (tail w₁)
      staged = rw (tail_is w₁) (g.all f)

      y_is : y ≡ written_over T y
      y_is =
          let d : y ≡ finished T.rows T.cols n (tail w₁) = e ∙ rw (rows_are, cols_are) refl in
          rw d (finished_written T n (tail w₁) bounds staged)

      size_is : size_of s.rows n ≡ grid_size T
      size_is = rw (rows_are, count_is) refl

      abbrev moved : List ℕ
      moved = part result_at (result_at + size_of s.rows n) (back w₁ y)

      -- the words that are moved are T's
      moved_is : moved ≡ encode T
      moved_is =
          let d : (result_at + size_of s.rows n) - result_at ≡ grid_size T = omega (arith, size_is) in
          rw (d, back_tail w₁ y space) (ap (take (grid_size T)) y_is
          ∙ take_at (encode T) (drop (grid_size T) y) (grid_size T) (encode_length 0 T))

      -- 0, and T at the front
      pub stepped_done : (w' : List ℕ) → w' ≡ overwrite 0 moved (back w₁ y) → Stepped op w 0 w'
      stepped_done w' h = record {
        code_is = done_code _ _ _ a.agree (le-leb (entry_count T) max_entries (omega (arith, count_is)));
        written = λ q.
            let l : length moved ≡ grid_size T = ap length moved_is ∙ encode_length 0 T in
            let m : grid_size T ≡ (0 + length moved) - 0 = omega arith in
            ap (take (grid_size T)) h ∙ ap (λ (x : ℕ). take x (overwrite 0 moved (back w₁ y))) m
            ∙ overwrite_here 0 moved (back w₁ y) (omega (arith, move_fits, size_is)) ∙ moved_is;
      }
