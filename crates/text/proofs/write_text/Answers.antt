-- `write_text` answers and leaves what `TextWritten` says.
use native.Mathlib.Omega.{arith}
use Rattle.conditions.proofs.Tests.{said_no, said_yes}
use Rattle.matrix.proofs.Facts.{matrix_facts}
use Rattle.text.proofs.Cases.{no_matrix, text_short, text_written}
use Rattle.text.proofs.write_text.Goals as goal

pub returns-then-not-is_valid : goal.returns-then-not-is_valid
returns-then-not-is_valid c = no_matrix _ _ (said_no c.is_valid.ensures c.if-not-is_valid.true)

pub returns-then-out-lt-MAX_TEXT_BYTES : goal.returns-then-out-lt-MAX_TEXT_BYTES
returns-then-out-lt-MAX_TEXT_BYTES c =
    text_short _ _ (said_yes c.is_valid.ensures c.if-not-is_valid.false) c.if-out-lt-MAX_TEXT_BYTES.true

pub put_matrix-requires : goal.put_matrix-requires
put_matrix-requires c =
    record {
      matrix = matrix_facts _ (said_yes c.is_valid.ensures c.if-not-is_valid.false);
      room = omega arith;
    }

pub returns : goal.returns
returns c =
    text_written _ _ (said_yes c.is_valid.ensures c.if-not-is_valid.false) (omega arith) _ _ c.put_matrix.ensures.text
