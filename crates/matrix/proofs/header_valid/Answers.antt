-- `header_valid` is the test `header_valid`.
use native.Mathlib.Omega.{arith}
use mathlib.Core.Path.{sym, ◌∙◌}
use mathlib.Core.Bool.{false≢true}
use Rattle.limits.specs.Limits.{max_rows, max_cols}
use Rattle.conditions.proofs.Tests.{refuted, said_no, said_yes}
use Rattle.matrix.specs.Layout.{rows, cols}
use Rattle.matrix.specs.Facts.{InRange}
use Rattle.matrix.proofs.Facts.{range_made, range_facts, header_facts, header_decide}
use Rattle.matrix.proofs.header_valid.Goals as goal
use Rattle.matrix.proofs.header_valid.Goals.{Else-not-in_range, Else-not-in_range-2}

-- what the tests of the shape have said
rows_known : (c : Else-not-in_range) → InRange max_rows (rows c.args.words.now)
rows_known c = range_facts _ _ (said_yes c.in_range.ensures c.if-not-in_range.false)

cols_known : (c : Else-not-in_range-2) → InRange max_cols (cols c.args.words.now)
cols_known c = range_facts _ _ (said_yes c.in_range-2.ensures c.if-not-in_range-2.false)

pub returns-then-words : goal.returns-then-words
returns-then-words c = sym (refuted _ (λ h. let f = header_facts _ h in omega arith))

pub returns-then-words-ne1 : goal.returns-then-words-ne1
returns-then-words-ne1 c = sym (refuted _ (λ h. let f = header_facts _ h in omega arith))

pub returns-then-words-ne2 : goal.returns-then-words-ne2
returns-then-words-ne2 c = sym (refuted _ (λ h. let f = header_facts _ h in omega arith))

pub returns-then-not-in_range : goal.returns-then-not-in_range
returns-then-not-in_range c =
    sym (refuted _ (λ h. false≢true
    (sym (said_no c.in_range.ensures c.if-not-in_range.true) ∙ range_made (header_facts _ h).row_range)))

pub returns-then-not-in_range-2 : goal.returns-then-not-in_range-2
returns-then-not-in_range-2 c =
    sym (refuted _ (λ h. false≢true
    (sym (said_no c.in_range-2.ensures c.if-not-in_range-2.true) ∙ range_made (header_facts _ h).col_range)))

pub overflow_add-r : goal.overflow_add-r
overflow_add-r c = let r = rows_known (goal.at.overflow_add-r c).Else-not-in_range in omega arith

pub returns-then-words-r : goal.returns-then-words-r
returns-then-words-r c = sym (refuted _ (λ h. let f = header_facts _ h in omega arith))

pub overflow_cast-rows : goal.overflow_cast-rows
overflow_cast-rows c = let r = rows_known (goal.at.overflow_cast-rows c).Else-not-in_range in omega arith

pub overflow_add-rows : goal.overflow_add-rows
overflow_add-rows c = let r = rows_known (goal.at.overflow_add-rows c).Else-not-in_range in omega arith

pub returns-then-words-rows : goal.returns-then-words-rows
returns-then-words-rows c = sym (refuted _ (λ h. let f = header_facts _ h in omega arith))

pub returns-then-count-gt-MAX_ENTRIES : goal.returns-then-count-gt-MAX_ENTRIES
returns-then-count-gt-MAX_ENTRIES c = sym (refuted _ (λ h. let f = header_facts _ h in omega arith))

pub returns-then-words-rows-2 : goal.returns-then-words-rows-2
returns-then-words-rows-2 c = sym (refuted _ (λ h. let f = header_facts _ h in omega arith))

pub returns : goal.returns
returns c =
    let at = goal.at.returns c in
    header_decide c.args.words.now (omega arith) (omega arith) (rows_known at.Else-not-in_range)
    (cols_known at.Else-not-in_range-2) (omega arith) (omega arith) (omega arith)
