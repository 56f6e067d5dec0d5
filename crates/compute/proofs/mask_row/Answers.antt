-- `mask_row` reads a row that the mask has.
use Rattle.result_rows.proofs.Inputs.{matrix_span}
use Rattle.compute.proofs.mask_row.Goals as goal

pub row_columns-requires : goal.row_columns-requires
row_columns-requires c =
    let h = c.requires c.if-not-masked.false in
    (h.matrix.header, matrix_span _ h.matrix _ h.row)

pub row_values-requires : goal.row_values-requires
row_values-requires c =
    let h = c.requires c.if-not-masked.false in
    (h.matrix.header, matrix_span _ h.matrix _ h.row)
