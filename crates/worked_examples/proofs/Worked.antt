-- P1 to P12 of document 01, "Worked sheets": "proved as theorems, one table, one claim about all its rows".
use mathlib.Core.Path.{◌≡◌, refl}
use mathlib.Core.List.{Memᴰ}
use mathlib.Core.Bool.{true}
use Rattle.conditions.specs.Tests.{◌and◌, all}
use Rattle.twos_complement.specs.TwosComplement.{signed, word}
use Rattle.operators.specs.Operators.{binary_word, index_unary_word, entry_word}
use Rattle.operations.specs.CellOperations.{dot}
use Rattle.operations.specs.WriteBacks.{write_back}
use Rattle.operations.specs.Calls.{shapes_agree, call_final}
use Rattle.worked_examples.specs.Listed.{listed_cell, tuples_fit}
use Rattle.worked_examples.specs.Rows.{Row, Correct, same_cell, row_holds, all_hold}
use Rattle.worked_examples.specs.Table.{table}
use Rattle.worked_examples.proofs.Rows.{rows_correct}

-- the test of the whole table, computed
table_holds : all_hold table ≡ true
unfolding table listed_cell tuples_fit same_cell row_holds all_hold ◌and◌ all shapes_agree call_final write_back dot entry_word
    binary_word index_unary_word signed word
table_holds = refl

-- every row of the table is correct
pub worked : (r : Row) → Memᴰ r table → Correct r
worked = rows_correct table table_holds
