-- `put_signed` appends the digits of a number, with a minus sign before those of a negative one.
use native.Mathlib.Omega.{arith}
use Rattle.decimals.proofs.Cases.{positive_room, positive_appended, minus_room, negative_room, negative_appended}
use Rattle.decimals.proofs.put_signed.Goals as goal

pub put_decimal-requires : goal.put_decimal-requires
put_decimal-requires c =
    positive_room c.args.at c.args.word c.args.out.now c.if-word-lt-FIRST_NEGATIVE.true c.requires

pub returns-then-word-lt-FIRST_NEGATIVE : goal.returns-then-word-lt-FIRST_NEGATIVE
returns-then-word-lt-FIRST_NEGATIVE c = positive_appended _ _ _ c.if-word-lt-FIRST_NEGATIVE.true c.put_decimal.ensures

pub put_byte-next-requires : goal.put_byte-next-requires
put_byte-next-requires c = minus_room c.args.at c.args.word c.args.out.now (omega arith) (omega arith) c.requires

pub put_decimal-requires-else-word-lt-FIRST_NEGATIVE : goal.put_decimal-requires-else-word-lt-FIRST_NEGATIVE
put_decimal-requires-else-word-lt-FIRST_NEGATIVE c =
    negative_room c.args.at c.args.word c.args.out.now (omega arith) (omega arith) _ c.wrapping_neg.ensures
    (omega arith)
    c.requires c.put_byte-next.ensures

pub returns-else-word-lt-FIRST_NEGATIVE : goal.returns-else-word-lt-FIRST_NEGATIVE
returns-else-word-lt-FIRST_NEGATIVE c =
    negative_appended c.args.at c.args.word c.args.out.now (omega arith) (omega arith) _ c.wrapping_neg.ensures
    (omega arith)
    c.put_byte-next.ensures c.put_decimal-else-word-lt-FIRST_NEGATIVE.ensures
