-- `read_cell` answers `read_answer`.
use native.Mathlib.Omega.{arith}
use mathlib.Core.Path.{sym, ap, ◌∙◌}
use Rattle.matrix.proofs.Facts.{matrix_facts}
use Rattle.answers.specs.Reads.{found_answer}
use Rattle.cells.proofs.Cases.{read_invalid, read_past_rows, read_past_cols, read_found}
use Rattle.cells.proofs.read_cell.Goals as goal
use Rattle.cells.proofs.read_cell.Goals.{then-words-i-via-then-words-i, then-words-i-via-else-words-i+then-words-j}

pub returns-then-not-is_valid : goal.returns-then-not-is_valid
returns-then-not-is_valid c = read_invalid _ _ _ (sym c.if-not-is_valid.ensures)

pub bounds-words-3 : goal.bounds-words-3
bounds-words-3 c = let m = matrix_facts _ (sym c.if-not-is_valid.ensures) in omega arith

pub bounds-words-4 : goal.bounds-words-4
bounds-words-4 c = let m = matrix_facts _ (sym c.if-not-is_valid.ensures) in omega arith

pub returns-then-words-i : goal.returns-then-words-i
returns-then-words-i c =
    elim c.then-words-i.branch [
      | then-words-i-via-then-words-i w ↦ read_past_rows _ _ _ (sym c.if-not-is_valid.ensures) w.if-words-i.true
      | then-words-i-via-else-words-i+then-words-j w ↦
          read_past_cols _ _ _ (sym c.if-not-is_valid.ensures) w.if-words-i.false w.if-words-j.true
    ]

pub entry_at-requires : goal.entry_at-requires
entry_at-requires c =
    record {
      fact_1 = matrix_facts _ (sym c.if-not-is_valid.ensures);
      fact_2 = c.if-words-i.false;
    }

pub returns : goal.returns
returns c =
    ap found_answer c.entry_at.ensures.fact_1
    ∙ read_found _ _ _ (sym c.if-not-is_valid.ensures) c.if-words-i.false c.if-words-j.false
