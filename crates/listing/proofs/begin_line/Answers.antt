use native.Mathlib.Omega.{arith}
use Rattle.listing.proofs.Numbers.{digits-most}
use Rattle.listing.proofs.Texts.{wrote-both}
use Rattle.listing.proofs.begin_line.Goals as goal

pub put_decimal-n-requires : goal.put_decimal-n-requires
put_decimal-n-requires c = omega (arith, digits-most 19 c.args.offset (omega arith))

pub put_byte-requires : goal.put_byte-requires
put_byte-requires c =
    omega (arith, digits-most 19 c.args.offset (omega arith))

pub returns : goal.returns
returns c = (
  wrote-both (omega arith) c.put_decimal-n.ensures
      c.put_byte.ensures,
  omega (
    arith,
    digits-most 19 c.args.offset
        (omega arith),
  ),
)
