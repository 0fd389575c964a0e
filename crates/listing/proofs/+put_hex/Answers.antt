-- The digits of the sixteenth, and the last one behind them.
use Rattle.std.proofs.Common.{arith}
use Rattle.listing.specs.Text.{hex_of}
use Rattle.listing.proofs.Numbers.{hex-more}
use Rattle.listing.proofs.Texts.{wrote-both, put-none}
use Rattle.listing.proofs.+put_hex.Goals as goal

pub returns-then-digits-eq0 : goal.returns-then-digits-eq0
unfolding hex_of
returns-then-digits-eq0 t c =
    rw c.if-digits-eq0.true (record { bytes = put-none _ _; place = omega arith }, omega arith)

pub put_hex-last-requires : goal.put_hex-last-requires
put_hex-last-requires t c = (omega arith, omega arith)

pub put_byte-requires : goal.put_byte-requires
put_byte-requires t c = omega arith

pub returns : goal.returns
returns t c = (
  rw (hex-more c.args.digits c.args.x (omega arith), ← c.hex_digit.ensures)
      (wrote-both (omega arith) c.put_hex-last.ensures.0 c.put_byte.ensures),
  omega arith,
)
