-- `result_row_inside`: the whole row, none where no place lies inside, or what the engine by entries leaves.
use Rattle.std.proofs.lemmas.Bool.{not-false}
use Rattle.masked_rows.proofs.Inside.{inside_all, inside_no}
use Rattle.masked_rows.proofs.result_row_inside.Goals as goal

pub returns-then-not-w : goal.returns-then-not-w
returns-then-not-w c = inside_all c.result_row.ensures

pub returns-then-none_inside : goal.returns-then-none_inside
returns-then-none_inside c =
    let a = c.args in
    inside_no _ a.mc.now a.mv.now _ _ _ _ (not-false _ c.if-not-w.false) (c.none_inside.ensures c.if-none_inside.true)

pub row_by_entries-requires : goal.row_by_entries-requires
row_by_entries-requires c =
    let m = not-false _ c.if-not-w.false in
    record {
      row_inputs = c.requires.row_inputs;
      buffers = c.requires.buffers;
      under_mask = record { has = m; row = c.requires.mask_known m };
    }

pub returns-in-ByPlaces : goal.returns-in-ByPlaces
returns-in-ByPlaces c = inside_all c.result_row-in-ByPlaces.ensures
