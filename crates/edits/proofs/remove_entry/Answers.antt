-- `remove_entry` leaves the writing of the grid without the entry.
use native.Mathlib.Omega.{arith}
use mathlib.Core.Path.{ap, ◌∙◌}
use Rattle.matrix.specs.HeaderWords.{touched}
use Rattle.edits.proofs.Place.{later_starts}
use Rattle.edits.proofs.Removal.{take_bounds, removed_written}
use Rattle.edits.proofs.remove_entry.Goals as goal

pub shift_words-requires : goal.shift_words-requires
shift_words-requires c = record { bounded = later_starts c.requires.fact_1 _ c.requires.fact_2.cell; small = omega arith }

pub take_entry-requires : goal.take_entry-requires
take_entry-requires c = take_bounds c.requires.fact_1 c.requires.fact_2 c.shift_words.ensures

pub touch-requires : goal.touch-requires
touch-requires c =
    omega (arith, c.take_entry.auto.words, c.shift_words.auto.words, c.requires.fact_1.matrix.header.fits)

pub returns : goal.returns
returns c =
    c.touch.ensures ∙ ap touched c.take_entry.ensures
    ∙ removed_written c.requires.fact_1 c.requires.fact_2 c.shift_words.ensures
