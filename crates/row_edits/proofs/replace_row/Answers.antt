-- `replace_row` leaves the writing of the grid with the new row.
use native.Mathlib.Omega.{arith}
use mathlib.Core.Path.{ap, ◌∙◌}
use Rattle.matrix.specs.HeaderWords.{touched}
use Rattle.row_edits.proofs.Replaced.{span, row_few, starts_bounded, room_bounds, put_bounds, replaced_written}
use Rattle.row_edits.proofs.replace_row.Goals as goal

pub overflow_cast-a : goal.overflow_cast-a
overflow_cast-a c =
    let x = span c.requires in
    omega (arith, c.requires.matrix.header.few)

pub overflow_cast-b : goal.overflow_cast-b
overflow_cast-b c =
    let x = span c.requires in
    omega (arith, c.requires.matrix.header.few)

pub overflow_cast-k : goal.overflow_cast-k
overflow_cast-k c =
    let x = span c.requires in let k = row_few c.requires in omega (arith, c.requires.matrix.header.few)

pub overflow_sub-b : goal.overflow_sub-b
overflow_sub-b c =
    let x = span c.requires in let k = row_few c.requires in omega (arith, c.requires.matrix.header.few)

pub overflow_cast-b-2 : goal.overflow_cast-b-2
overflow_cast-b-2 c =
    let x = span c.requires in let k = row_few c.requires in omega (arith, c.requires.matrix.header.few)

pub shift_words-requires : goal.shift_words-requires
shift_words-requires c =
    record {
      bounded = starts_bounded c.requires;
      small = row_few c.requires;
    }

pub make_room-requires : goal.make_room-requires
make_room-requires c = room_bounds c.requires c.shift_words.ensures

pub overflow_add-n-3 : goal.overflow_add-n-3
overflow_add-n-3 c =
    let x = span c.requires in
    let k = row_few c.requires in
    omega (arith, c.requires.matrix.header.few)

pub overflow_sub-n : goal.overflow_sub-n
overflow_sub-n c =
    let x = span c.requires in
    let k = row_few c.requires in
    omega (arith, c.requires.matrix.header.few)

pub put_row-requires : goal.put_row-requires
put_row-requires c = put_bounds c.requires c.shift_words.ensures c.make_room.ensures

pub touch-requires : goal.touch-requires
touch-requires c =
    omega (
      arith,
      c.put_row.auto.words,
      c.make_room.auto.words,
      c.shift_words.auto.words,
      c.requires.matrix.header.fits,
    )

pub returns : goal.returns
returns c =
    c.touch.ensures ∙ ap touched c.put_row.ensures
    ∙ replaced_written c.requires c.shift_words.ensures c.make_room.ensures
