use native.Mathlib.Omega.{arith}
use Rattle.listing.proofs.Numbers.{digits-most}
use Rattle.listing.proofs.Texts.{wrote-both}
use Rattle.play.specs.Lines.{spaced}
use Rattle.play.proofs.prices.put_spaced.Goals as goal

pub put_decimal-requires : goal.put_decimal-requires
put_decimal-requires c =
    omega (arith, digits-most 19 c.args.x (omega arith))

pub returns : goal.returns
unfolding spaced
returns c =
    (wrote-both (omega arith) c.put_byte-n.ensures c.put_decimal.ensures, omega (arith, digits-most 19 c.args.x (omega arith)))
