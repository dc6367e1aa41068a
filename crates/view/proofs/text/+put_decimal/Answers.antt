-- The proof of the cycle of calls {put_decimal}: the number falls to its tenth. Assumes nothing.
use Rattle.std.proofs.Common.{arith, ap, length}
use Rattle.view.proofs.Puts.{put_then}
use Rattle.view.proofs.Decimals.{decimal_one, decimal_more, decimal_long}
use Rattle.view.proofs.text.+put_decimal.Goals as goal

pub put_byte-requires : goal.put_byte-requires
put_byte-requires t c = omega (arith, c.requires, ap length (decimal_one c.args.n c.if-n-lt10.true))

pub put_decimal-last-requires : goal.put_decimal-last-requires
put_decimal-last-requires t c =
    let l = c.if-n-lt10.false in
    (omega (arith, c.decreases, l), omega (arith, c.requires, decimal_long c.args.n l))

pub put_byte-requires-else-n-lt10 : goal.put_byte-requires-else-n-lt10
put_byte-requires-else-n-lt10 t c =
    let u = c.put_decimal-last in
    omega (arith, c.requires, u.ensures.after, u.auto.out, decimal_long c.args.n c.if-n-lt10.false)

pub returns-then-n-lt10 : goal.returns-then-n-lt10
returns-then-n-lt10 t c = rw (decimal_one c.args.n c.if-n-lt10.true) c.put_byte.ensures

pub returns-else-n-lt10 : goal.returns-else-n-lt10
returns-else-n-lt10 t c =
    let l = c.if-n-lt10.false in
    let u = c.put_decimal-last.ensures in
    rw (decimal_more c.args.n l) (put_then (omega (arith, u.after, c.requires, decimal_long c.args.n l)) u c.put_byte-else-n-lt10.ensures)
