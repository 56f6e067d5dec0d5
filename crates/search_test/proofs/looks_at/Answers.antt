-- `looks_at` is safe: past its tests the words are a valid matrix, and the row is one of its rows.
use Rattle.std.proofs.Common.{arith}
use Rattle.conditions.proofs.Tests.{said_yes}
use Rattle.matrix.proofs.Facts.{matrix_facts}
use Rattle.search_test.proofs.looks_at.Goals as goal

pub bounds-words-3 : goal.bounds-words-3
bounds-words-3 c = let m = matrix_facts _ (said_yes c.is_valid.ensures c.if-not-is_valid.false) in omega arith

pub entry_at-read-requires-clause-fact_1 : goal.entry_at-read-requires-clause-fact_1
entry_at-read-requires-clause-fact_1 c = matrix_facts _ (said_yes c.is_valid.ensures c.if-not-is_valid.false)
