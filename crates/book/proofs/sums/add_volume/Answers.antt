use native.Mathlib.Omega.{arith}
use lib.IntN.{pos}
use Rattle.book.proofs.sums.Limits.{added-plain, volume-small}
use Rattle.book.proofs.sums.add_volume.Goals as goal

pub added-requires : goal.added-requires
added-requires c = volume-small _ _ c.requires c.from.ensures

pub returns : goal.returns
returns c = added-plain c.args.sum (pos c.args.volume) _ _ c.ranges.sum c.from.ensures (omega (arith, c.requires))
    c.added.ensures
