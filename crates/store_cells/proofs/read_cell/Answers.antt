-- `read_cell` answers what the model does.
use Prim.Native.Nat.{ℕ}
use mathlib.Core.Path.{refl, ap, ◌∙◌}
use mathlib.Core.List.{List}
use Rattle.std.proofs.lemmas.Result.{err_from_is_err_and}
use Rattle.answers.proofs.Numbers.{number_not_0}
use Rattle.grid.specs.Position.{entry_at}
use Rattle.matrix.specs.Layout.{grid_of}
use Rattle.answers.specs.Reads.{found_answer}
use Rattle.model.specs.Effects.{found}
use Rattle.store_cells.proofs.Checks.{unchecked, checked}
use Rattle.store_cells.proofs.Refusals.{reached}
use Rattle.store_cells.proofs.Reading.{read_no_store, read_refused, read_found}
use Rattle.store_cells.proofs.read_cell.Goals as goal

pub returns-in_err-check : goal.returns-in_err-check
returns-in_err-check c =
    let p = err_from_is_err_and c.from_residual.result c.from_residual.ensures.1 in
    let u = unchecked _ c.in_err-check.ensures in
    rw (p.1, p.2, u.refusal) (read_no_store _ _ _ _ u.invalid)

pub cell_refusal-requires : goal.cell_refusal-requires
cell_refusal-requires c = (checked _ c.in_ok-check.ensures).store

pub returns-in_err-cell_refusal : goal.returns-in_err-cell_refusal
returns-in_err-cell_refusal c =
    let r = c.from_residual-in_err-cell_refusal in
    let p = err_from_is_err_and r.result r.ensures.1 in
    rw (p.1, p.2)
    (read_refused _ _ _ _ (checked _ c.in_ok-check.ensures).valid _ c.in_err-cell_refusal.ensures (number_not_0 _))

pub contents-requires : goal.contents-requires
contents-requires c =
    let h = (reached (checked _ c.in_ok-check.ensures) c.in_ok-cell_refusal.ensures refl).cell in
    record { fact_1 = h.store.sections; fact_2 = h.slot }

pub entry_at-requires : goal.entry_at-requires
entry_at-requires c =
    let h = (reached (checked _ c.in_ok-check.ensures) c.in_ok-cell_refusal.ensures refl).cell in
    rw c.contents.ensures.words record { fact_1 = h.held.matrix; fact_2 = h.row }

pub returns : goal.returns
returns c =
    let p = c.args in
    ap found (ap found_answer (c.entry_at.ensures.fact_1
    ∙ ap (λ (x : List ℕ). entry_at (grid_of x) p.i p.j) c.contents.ensures.words))
    ∙ read_found _ _ _ _ (reached (checked _ c.in_ok-check.ensures) c.in_ok-cell_refusal.ensures refl)
