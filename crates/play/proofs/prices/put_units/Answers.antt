use Prim.Native.Nat.{◌/◌}
use native.Mathlib.Omega.{arith}
use Rattle.listing.proofs.Numbers.{digits-most}
use Rattle.play.proofs.prices.Lines.{units-text}
use Rattle.play.proofs.prices.put_units.Goals as goal

pub put_decimal-n-requires : goal.put_decimal-n-requires
put_decimal-n-requires c = omega (arith, digits-most 19 (c.args.units / 10000) (omega arith))

pub put_byte-n-requires : goal.put_byte-n-requires
put_byte-n-requires c = omega (arith, digits-most 19 (c.args.units / 10000) (omega arith))

pub put_four-requires : goal.put_four-requires
put_four-requires c = omega (arith, digits-most 19 (c.args.units / 10000) (omega arith))

pub returns : goal.returns
returns c =
    units-text (omega arith) _ (omega arith) c.put_decimal-n.ensures c.put_byte-n.ensures
    c.put_four.ensures.0 c.put_four.ensures.1
