-- `doors_within` starts the rounds from the keys in hand.
use Rattle.key_marks.proofs.Hands.{asked_vector, marked_lent, marked_rounds}
use Rattle.key_marks.proofs.doors_within.Goals as goal

pub mark_hand-requires : goal.mark_hand-requires
mark_hand-requires c = asked_vector c.requires.asked

pub rounds-requires : goal.rounds-requires
rounds-requires c =
    record {
      lent = marked_lent c.requires.asked c.mark_hand.ensures;
      allowed = c.requires.allowed;
    }

pub returns : goal.returns
returns c = marked_rounds c.requires.asked c.mark_hand.ensures c.rounds.ensures
