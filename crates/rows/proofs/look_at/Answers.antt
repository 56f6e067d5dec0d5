-- `look_at` finds `column_at`: the column at the position decides, and is the one look more.
use native.Mathlib.Omega.{arith}
use mathlib.Core.Path.{sym, ◌∙◌}
use Rattle.rows.proofs.Places.{column_found, column_missing}
use Rattle.rows.proofs.look_at.Goals as goal

pub returns-then-columns-p-clause-found : goal.returns-then-columns-p-clause-found
returns-then-columns-p-clause-found c =
    column_missing _ c.requires.rises _ _ c.requires.at_position (λ l e. omega arith)

pub returns-then-seen-j-clause-found : goal.returns-then-seen-j-clause-found
returns-then-seen-j-clause-found c =
    column_found _ c.requires.rises _ _ c.requires.at_position (omega arith) (sym c.look-seen.ensures.0 ∙ c.if-seen-j.true)

pub returns-else-seen-j-clause-found : goal.returns-else-seen-j-clause-found
returns-else-seen-j-clause-found c =
    column_missing _ c.requires.rises _ _ c.requires.at_position (λ l e. c.if-seen-j.false (c.look-seen.ensures.0 ∙ e))
