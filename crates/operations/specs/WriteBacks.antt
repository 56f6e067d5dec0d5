-- The write-back (document 01, "The six operations": "Write-back: ..").
use Rattle.std.specs.Prelude.{Bool, true, false, cond, not, eqb, None, Some}
use Rattle.grid.specs.Cell.{Cell}
use Rattle.grid.specs.Grid.{Grid}
use Rattle.operations.specs.CellOperations.{unite}
use Rattle.operations.specs.Accumulator.{Accumulator}
use Rattle.operations.specs.declared.WriteBack.{WriteBack}

-- "without an accumulator Z is T. With one, Z is the union of old C and T under it, old C first"
abbrev pub accumulated : Accumulator → Cell → Cell → Cell
accumulated None c t = t
accumulated (Some op) c t = unite op c t

-- "the mask's entry there is present and nonzero (structural: present)"
abbrev pub mask_holds : Bool → Cell → Bool
mask_holds structural None = false
mask_holds true (Some v) = true
mask_holds false (Some v) = not (eqb v 0)

-- "No mask means every place"
abbrev pub masked : WriteBack → Cell → Bool
masked w m = cond w.has_mask (mask_holds w.structural m) true

-- "complement flips the result, so no mask with complement means no place"
abbrev pub inside : WriteBack → Cell → Bool
inside w m = cond w.complement (not (masked w m)) (masked w m)

-- "Inside, C takes Z, emptiness included. Outside, C keeps its entry, or loses it under replace."
unfoldable pub write_back : WriteBack → Cell → Cell → Cell → Cell
write_back w m c t = cond (inside w m) (accumulated w.accumulator c t) (cond w.replace None c)

-- the final C, where m is the mask's grid
abbrev pub final_grid : WriteBack → Grid → Grid → Grid → Grid
final_grid w m c t = record {
  rows = c.rows;
  cols = c.cols;
  cell = λ i j. write_back w (m.cell i j) (c.cell i j) (t.cell i j);
}
