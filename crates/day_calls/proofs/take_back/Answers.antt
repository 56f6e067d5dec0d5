-- `take_back` replaces the row by none, and takes the mark.
use mathlib.Core.Path.{refl, sym, ◌∙◌}
use Rattle.day_requests.proofs.Readiness.{back_ready}
use Rattle.day_calls.proofs.Replacing.{back_vector, count_without, without_replaceable, without_written}
use Rattle.day_calls.proofs.Rewrites.{back_done}
use Rattle.day_calls.proofs.take_back.Goals as goal

pub count_with-n-requires-clause-matrix : goal.count_with-n-requires-clause-matrix
count_with-n-requires-clause-matrix c = (back_ready _ _ _ (sym c.in_ok-back_refusal.ensures)).over.day_valid

pub count_with-n-requires-clause-row : goal.count_with-n-requires-clause-row
count_with-n-requires-clause-row c = (back_ready _ _ _ (sym c.in_ok-back_refusal.ensures)).row

pub replace_row-requires : goal.replace_row-requires
replace_row-requires c = without_replaceable (back_ready _ _ _ (sym c.in_ok-back_refusal.ensures)) _ _ refl refl

pub take_mark-requires : goal.take_mark-requires
take_mark-requires c = back_vector (back_ready _ _ _ (sym c.in_ok-back_refusal.ensures))

pub returns : goal.returns
returns c =
    let z = sym c.in_ok-back_refusal.ensures in
    let r = back_ready _ _ _ z in
    back_done _ _ _ z _ _ _ (c.count_with-n.ensures ∙ count_without r)
    (without_written r _ _ _ refl refl c.replace_row.ensures) c.take_mark.ensures
