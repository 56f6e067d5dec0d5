-- `is_valid` is the test `valid`: header, starts, rows.
use mathlib.Core.Path.{◌≡◌, sym, ◌∙◌}
use mathlib.Core.Bool.{true, false≢true}
use Rattle.conditions.proofs.Tests.{said_no, said_yes}
use Rattle.matrix.specs.Valid.{header_valid, starts_valid}
use Rattle.matrix.proofs.Facts.{header_facts, starts_facts}
use Rattle.matrix.proofs.Checks.{header_fails, starts_fail, rows_decide}
use Rattle.matrix.proofs.is_valid.Goals as goal
use Rattle.matrix.proofs.is_valid.Goals.{then-header_valid, else-header_valid, Then-starts_valid}

-- what the first two tests have said where both hold
passed : (c : Then-starts_valid) → (header_valid c.args.words.now ≡ true) × (starts_valid c.args.words.now ≡ true)
passed c = elim c.if-header_valid.branch [
  | then-header_valid w ↦ (
    said_yes c.header_valid.ensures w.if-header_valid.true,
    said_yes w.starts_valid.ensures (sym w.value-is ∙ c.if-starts_valid.true),
  )
  | else-header_valid w ↦ absurd (false≢true (sym w.if-header_valid.false ∙ sym w.value-is ∙ c.if-starts_valid.true))
]

pub starts_valid-requires : goal.starts_valid-requires
starts_valid-requires c = header_facts _ (said_yes c.header_valid.ensures c.if-header_valid.true)

pub rows_valid-requires : goal.rows_valid-requires
rows_valid-requires c = let p = passed c in record { header = header_facts _ p.0; starts = starts_facts _ p.1 }

pub returns-then-starts_valid : goal.returns-then-starts_valid
returns-then-starts_valid c =
    let p = passed (goal.at.returns-then-starts_valid c).Then-starts_valid in
    c.rows_valid.ensures ∙ rows_decide _ p.0 p.1

pub returns-else-starts_valid : goal.returns-else-starts_valid
returns-else-starts_valid c = elim c.if-header_valid.branch [
  | then-header_valid w ↦
      c.if-starts_valid.false
      ∙ starts_fail _ (said_yes c.header_valid.ensures w.if-header_valid.true)
      (said_no w.starts_valid.ensures (sym w.value-is ∙ c.if-starts_valid.false))
  | else-header_valid w ↦
      w.value-is ∙ w.if-header_valid.false ∙ header_fails _ (said_no c.header_valid.ensures w.if-header_valid.false)
]
