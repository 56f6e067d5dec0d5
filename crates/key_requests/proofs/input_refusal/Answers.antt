-- `input_refusal` asks for the refusals in their order.
use Rattle.conditions.proofs.Tests.{said_yes}
use Rattle.matrix.proofs.Facts.{matrix_facts}
use Rattle.key_requests.proofs.input_refusal.Goals as goal

pub shapes_fit-requires : goal.shapes_fit-requires
shapes_fit-requires c =
    record {
      locks_header = (matrix_facts _ (said_yes c.is_valid.ensures c.if-not-is_valid.false)).header;
      cabinets_header = (matrix_facts _ (said_yes c.is_valid-2.ensures c.if-not-is_valid-2.false)).header;
      hand_header = (matrix_facts _ (said_yes c.is_valid-3.ensures c.if-not-is_valid-3.false)).header;
    }
