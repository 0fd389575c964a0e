-- The digits of the tenth, and the last one behind them.
use Rattle.std.proofs.Common.{arith}
use Rattle.listing.proofs.Numbers.{decimal-small, decimal-large, decimal-longer}
use Rattle.listing.proofs.Texts.{wrote-both}
use Rattle.listing.proofs.+put_decimal.Goals as goal

pub put_byte-requires : goal.put_byte-requires
put_byte-requires t c = omega (arith, rw (decimal-small c.args.x c.if-x-lt10.true) at c.requires)

pub returns-then-x-lt10 : goal.returns-then-x-lt10
returns-then-x-lt10 t c = rw (decimal-small c.args.x c.if-x-lt10.true) c.put_byte.ensures

pub put_decimal-last-requires : goal.put_decimal-last-requires
put_decimal-last-requires t c =
    (omega arith, omega (arith, decimal-longer c.args.x c.if-x-lt10.false))

pub put_byte-requires-2 : goal.put_byte-requires-2
put_byte-requires-2 t c = omega (arith, decimal-longer c.args.x c.if-x-lt10.false)

pub returns : goal.returns
returns t c =
    rw (decimal-large c.args.x c.if-x-lt10.false)
    (wrote-both (omega arith) c.put_decimal-last.ensures c.put_byte-2.ensures)
