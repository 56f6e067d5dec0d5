-- `put_decimal` appends the digits of n: those of n / 10, and the last digit.
use Rattle.std.proofs.Common.{arith}
use Rattle.decimals.proofs.Cases.{small_room, small_appended, front_room, last_room, large_appended}
use Rattle.decimals.proofs.+put_decimal.Goals as goal

pub put_byte-requires : goal.put_byte-requires
put_byte-requires t c = small_room c.args.at c.args.n c.args.out.now c.if-n-lt10.true c.requires

pub returns-then-n-lt10 : goal.returns-then-n-lt10
returns-then-n-lt10 t c = small_appended _ _ _ c.if-n-lt10.true c.put_byte.ensures

pub put_decimal-next-requires : goal.put_decimal-next-requires
put_decimal-next-requires t c =
    (omega arith, front_room c.args.at c.args.n c.args.out.now (omega arith) (omega arith) c.requires)

pub put_byte-requires-else-n-lt10 : goal.put_byte-requires-else-n-lt10
put_byte-requires-else-n-lt10 t c =
    last_room c.args.at c.args.n c.args.out.now (omega arith) (omega arith) c.requires c.put_decimal-next.ensures

pub returns-else-n-lt10 : goal.returns-else-n-lt10
returns-else-n-lt10 t c =
    large_appended _ _ _ (omega arith) (omega arith) c.put_decimal-next.ensures c.put_byte-else-n-lt10.ensures
