-- `copy_rest` leaves `Copied`: two copies.
use borrow.Author.Rules.{rules}
use Rattle.row_pairs.proofs.copy_rest.Goals as goal

pub returns : goal.returns
returns c =
    record {
      count = search rules;
      columns = c.copy_into.ensures;
      values = c.copy_into-2.ensures;
    }
