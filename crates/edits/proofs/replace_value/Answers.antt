-- `replace_value` leaves the writing of the grid with the new value.
use Prim.Native.Nat.{◌<◌}
use native.Mathlib.Omega.{arith}
use mathlib.Core.Path.{◌∙◌}
use lib.ListN.{length-set}
use Rattle.matrix.specs.Layout.{entries}
use Rattle.edits.proofs.Place.{present_below}
use Rattle.edits.proofs.Replacement.{replaced_written}
use Rattle.edits.proofs.replace_value.Goals as goal

-- the position is below N
below : (c : goal.After-slice_known-3-1)
    → c.args.p < entries c.args.words.now
below c = present_below c.requires.fact_1 c.requires.fact_2

pub overflow_add-words-3 : goal.overflow_add-words-3
overflow_add-words-3 c = let l = below c in omega arith

pub offset_bounds-words-r-2 : goal.offset_bounds-words-r-2
offset_bounds-words-r-2 c = let l = below c in omega arith

pub bounds-words-r-2 : goal.bounds-words-r-2
bounds-words-r-2 c = let l = below c in omega arith

pub touch-requires : goal.touch-requires
touch-requires c = simp length-set (omega (arith, c.requires.fact_1.matrix.header.fits))

pub shape_of-words : goal.shape_of-words
shape_of-words c = c.touch.auto.words ∙ simp length-set

pub returns : goal.returns
returns c = c.touch.ensures ∙ replaced_written c.requires.fact_1 c.requires.fact_2 _
