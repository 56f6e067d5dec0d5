-- A row of the write-back: the mask's row where there is a mask, and none where there is not.
use Prim.Native.Nat.{ℕ, ◌<◌}
use mathlib.Core.Path.{◌≡◌, refl, sym, ap, ◌∙◌}
use mathlib.Core.List.{List, []}
use mathlib.Core.Bool.{Bool, true, false, cond}
use lib.ListN.{length}
use Rattle.grid.specs.Cell.{Cell}
use Rattle.rows.specs.Row.{Row, Holds, lookup}
use Rattle.rows.proofs.Holds.{holds_same, holds_absent}
use Rattle.rows.proofs.Walk.{absent_all}
use Rattle.matrix.specs.Layout.{cols, row_columns, row_values, cell_of}
use Rattle.operations.specs.declared.WriteBack.{WriteBack}
use Rattle.operations.specs.WriteBacks.{write_back}
use Rattle.merge.specs.declared.Combine.TheVariants.{Write}
use Rattle.merge.specs.Combined.{combined, combined_row}
use Rattle.merge.proofs.Quiet.{row_quiet}
use Rattle.result_rows.proofs.Inputs.{matrix_row, empty_row, cell_row}
use Rattle.compute.specs.Computing.{MaskRow, OldRow}

-- without a mask its cell is not looked at
unmasked : (w : WriteBack) → w.has_mask ≡ false → (m m' c t : Cell) → write_back w m c t ≡ write_back w m' c t
unfolding write_back
unmasked w h m m' c t = rw h

-- the mask's row as it is handed on
pub mask_row : (b : Bool) (n i : ℕ) (m : List ℕ) → (b ≡ true → MaskRow m i) → (b ≡ true → cols m ≡ n)
    → Row n (cond b (row_columns m i) []) (cond b (row_values m i) [])
mask_row true n i m h k = rw (← (k refl)) (matrix_row m (h refl).matrix i (h refl).row)
mask_row false n i m h k = empty_row n

-- the write-back reads the mask's own cells
mask_cell : (w : WriteBack) (b : Bool) → w.has_mask ≡ b → (m : List ℕ) (i j : ℕ) (c t : Cell)
    → write_back w (lookup (cond b (row_columns m i) []) (cond b (row_values m i) []) j) c t
    ≡ write_back w (cell_of m i j) c t
unfolding cell_of
mask_cell w true e m i j c t = refl
mask_cell w false e m i j c t = unmasked w e _ _ c t

-- the merged row is the row of the write-back
pub written_row_lem : (w : WriteBack) (m c tc tv oc ov : List ℕ) (i n e : ℕ)
    → Holds n (combined_row (Write w) (cond w.has_mask (row_columns m i) []) (cond w.has_mask (row_values m i) [])
    (row_columns c i) (row_values c i) tc tv) e oc ov
    → Holds n (λ j. write_back w (cell_of m i j) (cell_of c i j) (lookup tc tv j)) e oc ov
unfolding combined
written_row_lem w m c tc tv oc ov i n e h =
    holds_same h _ (λ j l. mask_cell w w.has_mask refl m i j _ _
    ∙ ap (λ (x : Cell). write_back w (cell_of m i j) x (lookup tc tv j)) (sym (ap (λ (f : ℕ → Cell). f j) (cell_row c i))))

-- where neither the row of T nor that of old C has entries, the final row has none
pub quiet_row : (w : WriteBack) (m c tc tv oc ov : List ℕ) (i n : ℕ) → length tc ≡ 0 → length (row_columns c i) ≡ 0
    → Holds n (λ j. write_back w (cell_of m i j) (cell_of c i j) (lookup tc tv j)) 0 oc ov
unfolding cell_of
quiet_row w m c tc tv oc ov i n t e =
    holds_absent n _ oc ov
    (λ j. row_quiet w (row_columns m i) (row_values m i) (row_columns c i) (row_values c i) tc tv j
    (absent_all (row_columns c i) (row_values c i) e j) (absent_all tc tv t j))
