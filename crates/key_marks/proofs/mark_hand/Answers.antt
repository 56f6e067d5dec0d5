-- `mark_hand` stamps the vector's row over zeros.
use native.Mathlib.Omega.{arith}
use Rattle.key_marks.proofs.Hands.{vector_span, vector_below, hand_marked}
use Rattle.key_marks.proofs.mark_hand.Goals as goal

pub row_columns-requires : goal.row_columns-requires
row_columns-requires c = (c.requires.valid.header, vector_span c.requires)

pub mark_row-requires : goal.mark_row-requires
mark_row-requires c =
    record {
      places = vector_below c.requires c.clear.ensures c.row_columns.ensures.words;
      marking = omega arith;
    }

pub returns : goal.returns
returns c =
    hand_marked c.requires c.clear.ensures c.row_columns.ensures.words c.args.doors.now
    c.clear-2.ensures c.mark_row.ensures
