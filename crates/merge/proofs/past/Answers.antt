-- `past` moves over the entry at column q, if there is one.
use native.Mathlib.Omega.{arith}
use Rattle.merge.proofs.Merging.{past_entry, past_none}
use Rattle.merge.proofs.past.Goals as goal
use Rattle.merge.proofs.past.Goals.{else-i-columns-via-then-i-columns+else-columns-i, else-i-columns-via-else-i-columns}

pub returns-then-columns-i : goal.returns-then-columns-i
returns-then-columns-i c = past_entry c.requires.rises c.requires.stands c.if-i-columns.true c.if-columns-i.true

pub returns-else-i-columns : goal.returns-else-i-columns
returns-else-i-columns c =
    elim c.else-i-columns.branch [
      | else-i-columns-via-then-i-columns+else-columns-i w ↦
          past_none c.requires.rises c.requires.stands (λ l. w.if-columns-i.false)
      | else-i-columns-via-else-i-columns w ↦
          past_none c.requires.rises c.requires.stands (λ l. absurd (omega (arith, w.if-i-columns.false)))
    ]
