-- `entry_at` is `entry_at`: the row's two parts, searched in `looks_for` looks.
use mathlib.Core.Path.{ap, ◌∙◌}
use Rattle.rows.specs.Looks.{looks_for}
use Rattle.cells.proofs.Looks.{cell_looks}
use Rattle.cells.proofs.Entries.{span, parts_searchable, parts_entry}
use Rattle.cells.proofs.entry_at.Goals as goal

pub row_columns-requires : goal.row_columns-requires
row_columns-requires c = (c.requires.fact_1.header, span _ _ c.requires.fact_1 c.requires.fact_2)

pub row_values-requires : goal.row_values-requires
row_values-requires c = (c.requires.fact_1.header, span _ _ c.requires.fact_1 c.requires.fact_2)

pub find_entry-requires : goal.find_entry-requires
find_entry-requires c =
    let h = parts_searchable _ _ c.requires.fact_1 c.requires.fact_2 _ _ c.row_columns.ensures.words
    c.row_values.ensures.words in
    record {
      rises_1 = h.0;
      rises_2 = h.1;
      columns_bound = h.2;
    }

pub returns : goal.returns
returns c =
    let w = c.row_columns.ensures.words in
    let e = c.find_entry.ensures.fact_2 ∙ ap (looks_for c.args.j) w in record {
      fact_1 = parts_entry _ _ c.requires.fact_1 c.requires.fact_2 _ _ w c.row_values.ensures.words _ _ c.find_entry.ensures.fact_1;
      fact_2 = e;
      fact_3 = rw e (cell_looks c.args.words.now c.args.i c.args.j c.requires.fact_1 c.requires.fact_2);
    }
