-- `row_by_entries`: the product's row inside the mask, or the whole row of another operation.
use Rattle.result_rows.proofs.Inputs.{product_inputs, buffers}
use Rattle.masked_rows.proofs.Inside.{inside_all, inside_alone}
use Rattle.masked_rows.proofs.row_by_entries.Goals as goal

pub masked_product-requires : goal.masked_product-requires
masked_product-requires c =
    let e = c.in-Mxm.is in
    record {
      product_inputs = product_inputs _ _ _ _ _ _ _ _ (rw e at c.requires.row_inputs);
      under_mask = c.requires.under_mask;
      b_in_bounds = buffers (rw e at c.requires.buffers);
    }

pub returns-in-Mxm : goal.returns-in-Mxm
returns-in-Mxm c = rw c.in-Mxm.is (inside_alone c.masked_product.ensures)

pub returns-in_default : goal.returns-in_default
returns-in_default c = inside_all c.result_row.ensures
