-- A call depends only on the cells of its grids within their shapes.
use Rattle.std.proofs.Common.{None}
use Prim.Native.Nat.{ℕ, ◌<◌}
use native.Mathlib.Omega.{arith}
use mathlib.Core.Path.{◌≡◌, refl, ap, ◌∙◌}
use mathlib.Core.List.{List}
use mathlib.Core.Bool.{Bool, true, false, cond, not}
use borrow.Author.Tests.{eqb-true}
use Rattle.conditions.specs.Tests.{◌and◌}
use Rattle.conditions.proofs.Tests.{and_left, and_right}
use Rattle.grid.specs.Cell.{Cell}
use Rattle.grid.specs.Grid.{Grid, Same}
use Rattle.operations.specs.declared.Call.{Call}
use Rattle.operations.specs.declared.Shapes.{Shapes}
use Rattle.operations.specs.GridOperations.{oriented, needs_of, shape_of}
use Rattle.operations.specs.declared.WriteBack.{WriteBack}
use Rattle.operations.specs.WriteBacks.{accumulated, mask_holds, write_back}
use Rattle.operations.specs.Calls.{
  transpose_first,
  transpose_second,
  write_back_of,
  call_shapes,
  call_needs,
  call_result,
  call_final,
  lists_valid,
  indexes_valid,
  same_shape,
  inputs_agree,
  shapes_meet,
  shapes_agree,
}
use Rattle.operations.proofs.Results.{shapes_of_same, cell_same}

-- transposed alike
oriented_same : (flag : Bool) (g h : Grid) → Same g h → Same (oriented flag g) (oriented flag h)
oriented_same true g h s =
    record { rows = s.cols; cols = s.rows; cell = λ i j l m. s.cell j i m l }
oriented_same false g h s = s

-- what matters only where something is there
where_there : (there p q : Bool) → (there ≡ true → p ≡ q) → cond there p true ≡ cond there q true
where_there true p q f = f refl
where_there false p q f = refl

-- the write-back looks at the mask only where there is one
mask_same : (w : WriteBack) (x y c t : Cell) → (w.has_mask ≡ true → x ≡ y) → write_back w x c t ≡ write_back w y c t
unfolding write_back
mask_same w x y c t f =
    ap (λ (z : Bool). cond (cond w.complement (not z) z) (accumulated w.accumulator c t) (cond w.replace None c))
    (where_there w.has_mask (mask_holds w.structural x) (mask_holds w.structural y)
    (λ h. ap (mask_holds w.structural) (f h)))

module _ (call : Call) (a a' b b' m m' c c' : Grid) (is js : List ℕ) (sa : Same a a') (sb : Same b b') (sm : Same m m')
    (sc : Same c c') where
  abbrev A : Grid
  A = oriented (transpose_first call) a

  abbrev A' : Grid
  A' = oriented (transpose_first call) a'

  abbrev B : Grid
  B = oriented (transpose_second call) b

  abbrev B' : Grid
  B' = oriented (transpose_second call) b'

  first : Same A A'
  first = oriented_same (transpose_first call) a a' sa

  second : Same B B'
  second = oriented_same (transpose_second call) b b' sb

  shapes_are : call_shapes call a b c is js ≡ call_shapes call a' b' c' is js
  shapes_are = shapes_of_same A A' B B' c c' is js first sc call.operation (λ h. second)

  -- 7
  pub indexes_same : indexes_valid call a b c is js ≡ indexes_valid call a' b' c' is js
  unfolding indexes_valid
  indexes_same = ap (λ (s : Shapes). lists_valid call.operation (needs_of call.operation s).bounds is js) shapes_are

  -- 8
  pub shapes_same : shapes_agree call a b m c is js ≡ shapes_agree call a' b' m' c' is js
  unfolding shapes_agree
  shapes_same =
      ap (λ (s : Shapes). shapes_meet call s (needs_of call.operation s) (shape_of m)) shapes_are
      ∙ ap (shapes_meet call (call_shapes call a' b' c' is js) (call_needs call a' b' c' is js)) (rw (sm.rows, sm.cols))

  -- the final C, where the shapes and the indexes are as they have to be
  pub final_same : indexes_valid call a' b' c' is js ≡ true → shapes_agree call a' b' m' c' is js ≡ true
      → Same (call_final call a b m c is js) (call_final call a' b' m' c' is js)
  unfolding call_final indexes_valid shapes_agree
  final_same v w = record { rows = sc.rows; cols = sc.cols; cell = cells }
    where
      agrees : inputs_agree (call_shapes call a' b' c' is js) (call_needs call a' b' c' is js) ≡ true
      agrees = and_left _ _ (and_right _ _ w)

      shape : same_shape (call_result call a' b' c' is js) c' ≡ true
      shape = and_left _ _ (and_right _ _ (and_right _ _ w))

      mask : cond call.has_mask (same_shape m' c') true ≡ true
      mask = and_right _ _ (and_right _ _ (and_right _ _ w))

      cells : (i j : ℕ) → i < c'.rows → j < c'.cols
          → write_back (write_back_of call) (m.cell i j) (c.cell i j) ((call_result call a b c is js).cell i j)
          ≡ write_back (write_back_of call) (m'.cell i j) (c'.cell i j) ((call_result call a' b' c' is js).cell i j)
      cells i j l n =
          let e = eqb-true (call_result call a' b' c' is js).rows c'.rows (and_left _ _ shape) in
          let f = eqb-true (call_result call a' b' c' is js).cols c'.cols (and_right _ _ shape) in
          let t =
          cell_same A A' B B' c c' is js first sc call.operation (λ h. second) agrees v i j
          (omega arith) (omega arith) in
          mask_same (write_back_of call) (m.cell i j) (m'.cell i j) (c.cell i j) ((call_result call a b c is js).cell i j)
          (λ h.
          let k = rw h at mask in
          let p = eqb-true m'.rows c'.rows (and_left _ _ k) in
          let q = eqb-true m'.cols c'.cols (and_right _ _ k) in
          sm.cell i j (omega arith) (omega arith))
          ∙ ap (λ (x : Cell). write_back (write_back_of call) (m'.cell i j) x ((call_result call a b c is js).cell i j))
          (sc.cell i j l n)
          ∙ ap (write_back (write_back_of call) (m'.cell i j) (c'.cell i j)) t
