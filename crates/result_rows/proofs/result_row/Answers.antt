-- `result_row` is a row of T, whichever the operation.
use Rattle.merge.specs.Combined.{combined}
use Rattle.result_rows.proofs.Inputs.{product_inputs, mult_inputs, add_inputs, list_inputs, assign_inputs}
use Rattle.result_rows.proofs.Inputs.{block_inputs, buffers}
use Rattle.result_rows.proofs.result_row.Goals as goal

pub product-requires : goal.product-requires
product-requires c =
    let e = c.in-Mxm.is in
    record {
      product_inputs = product_inputs _ _ _ _ _ _ _ _ (rw e at c.requires.row_inputs);
      b_in_bounds = buffers (rw e at c.requires.buffers);
    }

pub pair-requires : goal.pair-requires
pair-requires c =
    let e = c.in-EwiseMult.is in
    record {
      pair_inputs = mult_inputs _ _ _ _ _ _ _ (rw e at c.requires.row_inputs);
      a_in_bounds = buffers (rw e at c.requires.buffers);
    }

pub pair-requires-in-EwiseAdd : goal.pair-requires-in-EwiseAdd
pair-requires-in-EwiseAdd c =
    let e = c.in-EwiseAdd.is in
    record {
      pair_inputs = add_inputs _ _ _ _ _ _ _ (rw e at c.requires.row_inputs);
      a_in_bounds = buffers (rw e at c.requires.buffers);
    }

pub applied-requires : goal.applied-requires
applied-requires c =
    let e = c.in-Apply.is in
    let h = rw e at c.requires.row_inputs in
    record {
      matrix = h.first;
      row_in = h.row;
      a_in_bounds = buffers (rw e at c.requires.buffers);
    }

pub extracted-requires : goal.extracted-requires
extracted-requires c =
    let e = c.in-Extract.is in
    record {
      list_inputs = list_inputs _ _ _ _ _ _ (rw e at c.requires.row_inputs);
      js_in_bounds = buffers (rw e at c.requires.buffers);
    }

pub selected-requires : goal.selected-requires
selected-requires c =
    let e = c.in-Select.is in
    let h = rw e at c.requires.row_inputs in
    record {
      matrix = h.first;
      row_in = h.row;
      a_in_bounds = buffers (rw e at c.requires.buffers);
    }

pub reduce_rows-requires : goal.reduce_rows-requires
reduce_rows-requires c =
    let e = c.in-ReduceRows.is in
    let h = rw e at c.requires.row_inputs in
    record {
      fact_1 = h.first;
      fact_2 = buffers (rw e at c.requires.buffers);
    }

pub assigned-requires : goal.assigned-requires
assigned-requires c =
    let e = c.in-Assign.is in
    record {
      assign_inputs = assign_inputs _ _ _ _ _ _ _ (rw e at c.requires.row_inputs);
      c_in_bounds = buffers (rw e at c.requires.buffers);
    }

pub blocks-requires : goal.blocks-requires
blocks-requires c =
    let e = c.in-Kronecker.is in
    record {
      block_inputs = block_inputs _ _ _ _ _ _ _ (rw e at c.requires.row_inputs);
      b_in_bounds = buffers (rw e at c.requires.buffers);
    }

pub returns-in-Mxm : goal.returns-in-Mxm
returns-in-Mxm c = rw c.in-Mxm.is c.product.ensures

pub returns-in-EwiseMult : goal.returns-in-EwiseMult
unfolding combined
returns-in-EwiseMult c = rw c.in-EwiseMult.is c.pair.ensures

pub returns-in-EwiseAdd : goal.returns-in-EwiseAdd
unfolding combined
returns-in-EwiseAdd c = rw c.in-EwiseAdd.is c.pair-in-EwiseAdd.ensures

pub returns-in-Apply : goal.returns-in-Apply
returns-in-Apply c = rw c.in-Apply.is c.applied.ensures

pub returns-in-Extract : goal.returns-in-Extract
returns-in-Extract c = rw c.in-Extract.is c.extracted.ensures

pub returns-in-Select : goal.returns-in-Select
returns-in-Select c = rw c.in-Select.is c.selected.ensures

pub returns-in-ReduceRows : goal.returns-in-ReduceRows
returns-in-ReduceRows c = rw c.in-ReduceRows.is c.reduce_rows.ensures

pub returns-in-Assign : goal.returns-in-Assign
returns-in-Assign c = rw c.in-Assign.is c.assigned.ensures

pub returns-in-Kronecker : goal.returns-in-Kronecker
returns-in-Kronecker c = rw c.in-Kronecker.is c.blocks-in-Kronecker.ensures
