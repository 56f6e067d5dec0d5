-- Each way does what is asked for: the cases of the write-back without a mask. Cited by `write_way` and
-- `merge_row`.
use Rattle.std.proofs.Common.{None, Some}
use mathlib.Core.Path.{◌≡◌, refl, sym}
use mathlib.Core.Bool.{true, false}
use Rattle.grid.specs.Cell.{Cell}
use Rattle.operators.specs.declared.BinaryOp.{BinaryOp}
use Rattle.operations.specs.declared.WriteBack.{WriteBack}
use Rattle.operations.specs.CellOperations.{intersect, unite}
use Rattle.operations.specs.WriteBacks.{write_back}
use Rattle.merge.specs.declared.Combine.{Combine}
use Rattle.merge.specs.declared.Combine.TheVariants.{Write}
use Rattle.merge.specs.declared.Way.{Way}
use Rattle.merge.specs.declared.Way.TheVariants.{Nothing, First, Second, Intersect, Unite, Masked}
use Rattle.merge.specs.Combined.{combined}
use Rattle.merge.specs.Ways.{way_cell, Means}

module _ (w : WriteBack) where
  -- under a mask
  pub masked_means : Means (Masked w) (Write w)
  unfolding way_cell combined
  masked_means m c t = refl

  -- no mask, and complement: no position is inside
  module _ (n : w.has_mask ≡ false) (o : w.complement ≡ true) where
    pub nothing_means : w.replace ≡ true → Means Nothing (Write w)
    unfolding way_cell combined write_back
    nothing_means r m c t = rw (n, o, r)

    pub first_means : w.replace ≡ false → Means First (Write w)
    unfolding way_cell combined write_back
    first_means r m c t = rw (n, o, r)

  -- no mask: every position is inside
  module _ (n : w.has_mask ≡ false) (o : w.complement ≡ false) where
    pub second_means : w.accumulator ≡ None → Means Second (Write w)
    unfolding way_cell combined write_back
    second_means a m c t = rw (n, o, a)

    pub unite_means : (op : BinaryOp) → w.accumulator ≡ Some op → Means (Unite op) (Write w)
    unfolding way_cell combined write_back
    unite_means op a m c t = rw (n, o, a)

-- what a way that was found tells of the cells
module _ (way : Way) (how : Combine) (h : Means way how) (m c t : Cell) where
  pub nothing_told : way ≡ Nothing → combined how m c t ≡ None
  unfolding way_cell
  nothing_told e = sym (rw e at (h m c t))

  pub first_told : way ≡ First → c ≡ combined how m c t
  unfolding way_cell
  first_told e = rw e at (h m c t)

  pub second_told : way ≡ Second → t ≡ combined how m c t
  unfolding way_cell
  second_told e = rw e at (h m c t)

  pub intersect_told : {op : BinaryOp} → way ≡ Intersect op → intersect op c t ≡ combined how m c t
  unfolding way_cell
  intersect_told e = rw e at (h m c t)

  pub unite_told : {op : BinaryOp} → way ≡ Unite op → unite op c t ≡ combined how m c t
  unfolding way_cell
  unite_told e = rw e at (h m c t)

  pub masked_told : {w : WriteBack} → way ≡ Masked w → write_back w m c t ≡ combined how m c t
  unfolding way_cell
  masked_told e = rw e at (h m c t)
