-- `put_line` appends three numbers, the spaces between them and a newline.
use native.Mathlib.Omega.{arith}
use Prim.Native.Nat.{ℕ, ◌+◌}
use mathlib.Core.Path.{◌≡◌}
use lib.ListN.{length}
use Rattle.decimals.specs.Decimal.{decimal, signed_decimal}
use Rattle.append.proofs.Appending.{appended_then}
use Rattle.text.specs.Text.{entry_line}
use Rattle.text.proofs.Lengths.{line_length}
use Rattle.text.proofs.put_line.Goals as goal

-- how long the line is
abbrev of_line : (a b c : ℕ)
    → length (entry_line a b c) ≡ length (decimal a) + length (decimal b) + length (signed_decimal c) + 3
of_line a b c = line_length (decimal a) (decimal b) (signed_decimal c)

pub put_decimal-after_first-requires : goal.put_decimal-after_first-requires
put_decimal-after_first-requires c =
    let e = of_line c.args.a c.args.b c.args.c in
    omega arith

pub put_byte-second-requires : goal.put_byte-second-requires
put_byte-second-requires c =
    let e = of_line c.args.a c.args.b c.args.c in
    omega arith

pub put_decimal-after_second-requires : goal.put_decimal-after_second-requires
put_decimal-after_second-requires c =
    let e = of_line c.args.a c.args.b c.args.c in
    omega arith

pub put_byte-third-requires : goal.put_byte-third-requires
put_byte-third-requires c =
    let e = of_line c.args.a c.args.b c.args.c in
    omega arith

pub put_signed-after_third-requires : goal.put_signed-after_third-requires
put_signed-after_third-requires c =
    let e = of_line c.args.a c.args.b c.args.c in
    omega arith

pub put_byte-requires : goal.put_byte-requires
put_byte-requires c =
    let e = of_line c.args.a c.args.b c.args.c in
    omega arith

pub returns : goal.returns
returns c =
    appended_then c.put_decimal-after_first.ensures (appended_then c.put_byte-second.ensures
    (appended_then c.put_decimal-after_second.ensures (appended_then c.put_byte-third.ensures
    (appended_then c.put_signed-after_third.ensures c.put_byte.ensures))))
