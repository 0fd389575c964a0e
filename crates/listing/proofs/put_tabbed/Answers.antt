use native.Mathlib.Omega.{arith}
use Rattle.listing.proofs.Texts.{wrote-both}
use Rattle.listing.proofs.put_tabbed.Goals as goal

pub returns : goal.returns
returns c =
    wrote-both (omega arith) c.put_byte-n.ensures
    c.put_decimal.ensures
