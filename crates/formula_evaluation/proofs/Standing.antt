-- Grids at the front of words: lent on, and a step on two of them.
use Prim.Native.Nat.{ℕ, ◌+◌, ◌-◌, ◌*◌, ◌≤◌}
use native.Mathlib.Omega.{arith}
use mathlib.Core.Path.{◌≡◌, refl, sym, ap, subst, ◌∙◌}
use mathlib.Core.Bool.{Bool, true, false}
use mathlib.Core.List.{List, ◌++◌, append-nil}
use lib.ListN.{length, take, drop, take-append-drop, length-append, length-drop, length-take}
use lib.Seq.{length-take-le, drop-length, take_at, drop_at, take-take}
use borrow.Rule.Slice.PartMut.{put_mid, Post-is}
use Rattle.limits.specs.Limits.{max_rows, max_cols}
use Rattle.limits.specs.Ranges.{InRange}
use Rattle.operators.specs.declared.BinaryOp.{BinaryOp}
use Rattle.operators.specs.declared.Monoid.{Monoid}
use Rattle.words.specs.Words.{overwrite}
use Rattle.words.proofs.Overwrite.{overwrite_here}
use Rattle.grid.specs.Grid.{Grid, Same}
use Rattle.grid.proofs.Same.{same_size}
use Rattle.matrix.specs.Layout.{grid_of, max_matrix_words}
use Rattle.matrix.specs.Facts.{Matrix}
use Rattle.matrix.specs.HeaderWords.{with_revision}
use Rattle.encoding.specs.Encode.{encode_revised, encode, grid_size, Within}
use Rattle.encoding.proofs.Canonical.{encode_length, encode_same, encode_ext, encode_revised_lem}
use Rattle.encoding.proofs.Encoded.{encode_matrix}
use Rattle.operations.specs.declared.Operation.{Operation}
use Rattle.operations.specs.Calls.{has_second, has_lists}
use Rattle.formula_values.specs.Values.{
  Value,
  worth,
  value_code,
  step_grid,
  step_agrees,
  step_fits,
  outcome,
  step,
  sum_of,
  product_of,
}
use Rattle.formula_values.proofs.Same.{same_code, grid_same, step_same}
use Rattle.formula_values.proofs.Bounds.{WithinValue, sum_within, product_within}
use Rattle.formula_steps.specs.Steps.{left_words, right_words, area_grid, Operands, Stepped}
use Rattle.formula_evaluation.specs.Evaluating.{Standing}

-- the size of a grid within the limits
pub size_most : (g : Grid) → Within g → grid_size g ≤ max_matrix_words
size_most g h = omega (arith, h.row_range.most, h.few)

-- ---- the words behind the first region, lent and given back
abbrev pub behind : List ℕ → List ℕ
behind w = take (length w - max_matrix_words) (drop max_matrix_words w)

-- the words where what is behind comes back as y
abbrev pub back : List ℕ → List ℕ → List ℕ
back w y = put_mid max_matrix_words (length w - max_matrix_words) w y

module _ (w y : List ℕ) (l : max_matrix_words ≤ length w) where
  -- the first region, and then y
  pub back_is : back w y ≡ take max_matrix_words w ++ y
  back_is =
      ap (λ (z : List ℕ). take max_matrix_words w ++ (y ++ z)) (Post-is max_matrix_words (length w) w l ∙ drop-length w)
      ∙ ap (λ (z : List ℕ). take max_matrix_words w ++ z) (append-nil y)

  front : length (take max_matrix_words w) ≡ max_matrix_words
  front = length-take-le max_matrix_words w l

  -- how many words are lent on
  pub behind_length : length (behind w) ≡ length w - max_matrix_words
  behind_length = simp (length-take, length-drop) (omega arith)

  -- the length stays
  pub back_length : length y ≡ length (behind w) → length (back w y) ≡ length w
  back_length e =
      ap length back_is ∙ length-append (take max_matrix_words w) y ∙ omega (arith, front, behind_length)

  -- the operands of a step: the first region, and that of y
  left_back : left_words (back w y) ≡ left_words w
  left_back = ap left_words back_is ∙ take_at (take max_matrix_words w) y max_matrix_words front

  right_back : right_words (back w y) ≡ take max_matrix_words y
  right_back =
      ap (take max_matrix_words) (ap (drop max_matrix_words) back_is
      ∙ drop_at (take max_matrix_words w) y max_matrix_words front)

-- ---- a region in which a grid stands
-- its words
region_words : {g : Grid} {w : List ℕ} → Standing g w
    → take max_matrix_words w ≡ encode g ++ drop (grid_size g) (take max_matrix_words w)
region_words {g} {w} s =
    sym (take-append-drop (grid_size g) (take max_matrix_words w))
    ∙ ap (λ (x : List ℕ). x ++ drop (grid_size g) (take max_matrix_words w))
    (take-take (grid_size g) max_matrix_words w (size_most g s.within) ∙ s.words)

-- they are a matrix
region_matrix : {g : Grid} {w : List ℕ} → Standing g w → Matrix (take max_matrix_words w)
region_matrix {g} {w} s =
    rw (region_words s) (encode_matrix 0 g (drop (grid_size g) (take max_matrix_words w)) s.within)

-- of that grid
region_same : {g : Grid} {w : List ℕ} → Standing g w → Same (grid_of (take max_matrix_words w)) g
region_same {g} {w} s = rw (region_words s) (encode_same 0 g (drop (grid_size g) (take max_matrix_words w)))

-- ---- the two steps
-- what both have
pub record Step (op : Operation) : Type 0 where
  pub second : has_second op ≡ true
  pub lists : has_lists op ≡ false
  pub rows : (a b : Grid) → InRange max_rows a.rows → InRange max_rows b.rows
      → InRange max_rows (step_grid op a b).rows
  pub cols : (a b : Grid) → InRange max_cols a.cols → InRange max_cols b.cols
      → InRange max_cols (step_grid op a b).cols
  pub within : (v w : Value) → WithinValue v → WithinValue w → WithinValue (step op v w)

-- +
pub adding : (monoid : Monoid) → Step (sum_of monoid)
adding monoid = record {
  second = refl;
  lists = refl;
  rows = λ a b h k. h;
  cols = λ a b h k. h;
  within = sum_within monoid;
}

-- *
pub multiplying : (monoid : Monoid) (op : BinaryOp) → Step (product_of monoid op)
multiplying monoid op = record {
  second = refl;
  lists = refl;
  rows = λ a b h k. h;
  cols = λ a b h k. k;
  within = product_within monoid op;
}

-- ---- g stands where it stood, and h behind it
module _ {op : Operation} (o : Step op) (w y : List ℕ) (l : max_matrix_words ≤ length w) {g h : Grid} (s : Standing g w)
    (t : Standing h y) where
  left_same : Same (grid_of (left_words (back w y))) g
  left_same = rw (left_back w y l) (region_same s)

  right_same : Same (grid_of (right_words (back w y))) h
  right_same = rw (right_back w y l) (region_same t)

  -- what `formula_steps::step` asks for
  pub operands : 3 * max_matrix_words ≤ length (back w y) → Operands op (back w y)
  operands k =
      let a = left_same in
      let b = right_same in
      record {
        ready = record {
          second = o.second;
          lists = o.lists;
          left = rw (left_back w y l) (region_matrix s);
          right = rw (right_back w y l) (region_matrix t);
          row_range = o.rows (grid_of (left_words (back w y))) (grid_of (right_words (back w y)))
              (rw a.rows s.within.row_range) (rw b.rows t.within.row_range);
          col_range = o.cols (grid_of (left_words (back w y))) (grid_of (right_words (back w y)))
              (rw a.cols s.within.col_range) (rw b.cols t.within.col_range);
        };
        space = k;
      }

  module _ {code : ℕ} {w₂ : List ℕ} (p : Stepped op (back w y) code w₂) where
    -- its code is that of the step on the two grids
    pub code_standing : code ≡ value_code (step op (worth g) (worth h))
    code_standing =
        p.code_is
        ∙ same_code (step op (worth (grid_of (left_words (back w y)))) (worth (grid_of (right_words (back w y)))))
        (step op (worth g) (worth h))
        (step_same op o.lists (worth (grid_of (left_words (back w y)))) (worth (grid_of (right_words (back w y))))
        (worth g)
        (worth h) left_same right_same)

    -- the code 0 is of neither failure
    none : (x z : Bool) → value_code (outcome x z (step_grid op g h)) ≡ 0 → (x ≡ true) × (z ≡ true)
    none true true e = (refl, refl)
    none true false e = absurd (omega arith)
    none false z e = absurd (omega arith)

    -- for 0 the grid of the step stands at the front
    pub stepped_standing : code ≡ 0 → (r : Grid) × (step op (worth g) (worth h) ≡ worth r) × Standing r w₂
    stepped_standing z =
        let a = grid_of (left_words (back w y)) in
        let b = grid_of (right_words (back w y)) in
        let n = none (step_agrees op g h) (step_fits op g h) (sym code_standing ∙ z) in
        let v : step op (worth g) (worth h) ≡ worth (step_grid op g h) =
        ap (λ (x : Bool). outcome x (step_fits op g h) (step_grid op g h)) n.0
        ∙ ap (λ (x : Bool). outcome true x (step_grid op g h)) n.1 in
        let u = grid_same op o.lists a g b h left_same right_same n.0 in
        let i : Within (step_grid op g h) =
        subst WithinValue v (o.within (worth g) (worth h) s.within t.within) in
        let e : grid_size (area_grid op (back w y)) ≡ grid_size (step_grid op g h) =
        same_size (step_grid op a b) (step_grid op g h) u in (
          step_grid op g h,
          v,
          record {
            within = i;
            words = ap (λ (k : ℕ). take k w₂) (sym e) ∙ p.written z
                ∙ encode_ext 0 (step_grid op a b) (step_grid op g h) u;
          },
        )

-- ---- a slot's matrix copied to the front, with the revision 0: for `load`
pub copied_standing : (x w : List ℕ) (v : ℕ) (g : Grid) → Within g → encode_revised v g ≡ x → length x ≤ length w
    → Standing g (with_revision 0 (overwrite 0 x w))
copied_standing x w v g h e l =
    let m : grid_size g ≡ (0 + length x) - 0 = omega (arith, ap length e, encode_length v g) in
    let f : take (grid_size g) (overwrite 0 x w) ≡ encode_revised v g =
    ap (λ (k : ℕ). take k (overwrite 0 x w)) m ∙ overwrite_here 0 x w (omega arith) ∙ sym e in
    let t = drop (grid_size g) (overwrite 0 x w) in
    let q : overwrite 0 x w ≡ encode_revised v g ++ t =
    sym (take-append-drop (grid_size g) (overwrite 0 x w)) ∙ ap (λ (y : List ℕ). y ++ t) f in
    record {
      within = h;
      words = ap (λ (y : List ℕ). take (grid_size g) (with_revision 0 y)) q
          ∙ ap (take (grid_size g)) (encode_revised_lem v 0 g t) ∙ take_at (encode g) t (grid_size g) (encode_length 0 g);
    }
