use native.Mathlib.Omega.{arith}
use Rattle.play.proofs.prices.Lines.{four-digits}
use Rattle.play.proofs.prices.put_four.Goals as goal

pub returns : goal.returns
returns c =
    four-digits (omega arith) _ c.put_digit-n.ensures c.put_digit-n-2.ensures c.put_digit-n-3.ensures
    c.put_digit.ensures
