-- `set_cell` replaces an entry, or adds one where the search missed it.
use mathlib.Core.Path.{refl}
use Rattle.std.proofs.lemmas.Result.{err_from_is_err_and}
use Rattle.answers.proofs.Numbers.{number_not_0}
use Rattle.model.specs.Calls.{effect}
use Rattle.store_encoding.proofs.Performed.{performed_no_store}
use Rattle.store_cells.proofs.Checks.{unchecked, checked}
use Rattle.store_cells.proofs.Refusals.{reached}
use Rattle.store_cells.proofs.Outcomes.{set_refused, set_performed}
use Rattle.store_cells.proofs.Edited.{absent_found, present_in}
use Rattle.store_cells.proofs.set_cell.Goals as goal

pub returns-in_err-end : goal.returns-in_err-end
unfolding effect
returns-in_err-end c =
    let p = err_from_is_err_and c.from_residual.result c.from_residual.ensures.1 in
    let u = unchecked _ c.in_err-end.ensures in
    rw (p.1, p.2, u.refusal) (performed_no_store _ _ u.invalid)

pub cell_refusal-requires : goal.cell_refusal-requires
cell_refusal-requires c = (checked _ c.in_ok-end.ensures).store

pub returns-in_err-cell_refusal : goal.returns-in_err-cell_refusal
returns-in_err-cell_refusal c =
    let r = c.from_residual-in_err-cell_refusal in
    let p = err_from_is_err_and r.result r.ensures.1 in
    rw (p.1, p.2)
    (set_refused _ _ _ _ (checked _ c.in_ok-end.ensures).valid _ _ c.in_err-cell_refusal.ensures (number_not_0 _))

pub contents-requires : goal.contents-requires
contents-requires c =
    let h = (reached (checked _ c.in_ok-end.ensures) c.in_ok-cell_refusal.ensures refl).cell in
    record { fact_1 = h.store.sections; fact_2 = h.slot }

pub entry_at-entry-requires : goal.entry_at-entry-requires
entry_at-entry-requires c =
    let h = (reached (checked _ c.in_ok-end.ensures) c.in_ok-cell_refusal.ensures refl).cell in
    rw c.contents.ensures.words record { fact_1 = h.held.matrix; fact_2 = h.row }

pub replace-requires : goal.replace-requires
replace-requires c =
    let h = (reached (checked _ c.in_ok-end.ensures) c.in_ok-cell_refusal.ensures refl).cell in
    record {
      cell = h;
      present = present_in h c.contents.ensures.words c.entry_at-entry.ensures.fact_1 c.in-Present.is;
    }

pub returns : goal.returns
returns c =
    set_performed (reached (checked _ c.in_ok-end.ensures) c.in_ok-cell_refusal.ensures refl) _ _ _ c.replace.ensures

pub add-requires : goal.add-requires
add-requires c =
    let h = reached (checked _ c.in_ok-end.ensures) c.in_ok-cell_refusal.ensures refl in
    record {
      cell = h.cell;
      ends = h.checked.ends;
      absent =
          absent_found h.cell c.contents.ensures.words c.entry_at-entry.ensures.fact_1 c.in_default.is c.position_of.ensures;
    }

pub returns-in_default : goal.returns-in_default
returns-in_default c =
    set_performed (reached (checked _ c.in_ok-end.ensures) c.in_ok-cell_refusal.ensures refl) _ _ _ c.add.ensures
