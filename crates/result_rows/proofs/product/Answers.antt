-- `product` is a row of the product.
use Rattle.result_rows.proofs.Inputs.{matrix_row, matrix_span, cell_row}
use Rattle.result_rows.proofs.product.Goals as goal

pub row_columns-requires : goal.row_columns-requires
row_columns-requires c =
    let p = c.requires.product_inputs in
    (p.first.header, matrix_span _ p.first _ p.row)

pub row_values-requires : goal.row_values-requires
row_values-requires c =
    let p = c.requires.product_inputs in
    (p.first.header, matrix_span _ p.first _ p.row)

pub product_row_by-requires : goal.product_row_by-requires
product_row_by-requires c =
    let p = c.requires.product_inputs in
    record {
      inputs = (
        rw (c.row_columns.ensures.words, c.row_values.ensures.words, ← p.inner) (matrix_row _ p.first _ p.row),
        p.second,
      );
      output_room = c.requires.b_in_bounds;
    }

pub returns : goal.returns
returns c =
    rw (
      c.requires.product_inputs.inner,
      cell_row c.args.a.now c.args.i,
      ← c.row_columns.ensures.words,
      ← c.row_values.ensures.words,
    )
    c.product_row_by.ensures
