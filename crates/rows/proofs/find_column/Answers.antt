-- `find_column` finds `column_at`: the position by halving, and one look more there.
use Rattle.rows.proofs.Halving.{looks_few, looks_all}
use Rattle.rows.proofs.find_column.Goals as goal

pub look_at-requires : goal.look_at-requires
look_at-requires c =
    record {
      rises = c.requires;
      at_position = c.lower_bound-bound.ensures.found;
      few = rw c.lower_bound-bound.ensures.counted (looks_few c.args.j c.args.columns.now);
    }

pub returns : goal.returns
returns c =
    record {
      found = c.look_at.ensures.found;
      counted =
          looks_all c.args.j c.args.columns.now c.lower_bound-bound.ensures.found c.lower_bound-bound.ensures.counted
          c.look_at.ensures.counted;
    }
