-- `insert_entry` leaves the writing of the grid with the new entry.
use Rattle.std.proofs.Common.{None}
use native.Mathlib.Omega.{arith}
use mathlib.Core.Path.{ap, ◌∙◌}
use Rattle.matrix.specs.HeaderWords.{touched}
use Rattle.edits.proofs.Place.{later_starts}
use Rattle.edits.proofs.Insertion.{put_bounds, inserted_written}
use Rattle.edits.proofs.insert_entry.Goals as goal

pub shift_words-requires : goal.shift_words-requires
shift_words-requires c = record { bounded = later_starts c.requires.fact_1 None c.requires.fact_2.cell; small = omega arith }

pub put_entry-requires : goal.put_entry-requires
put_entry-requires c =
    put_bounds c.requires.fact_1 c.requires.fact_2 c.requires.fact_3 c.shift_words.ensures

pub touch-requires : goal.touch-requires
touch-requires c =
    omega (arith, c.put_entry.auto.words, c.shift_words.auto.words, c.requires.fact_1.matrix.header.fits)

pub returns : goal.returns
returns c =
    c.touch.ensures ∙ ap touched c.put_entry.ensures
    ∙ inserted_written c.requires.fact_1 c.requires.fact_2 c.requires.fact_3 c.shift_words.ensures _
