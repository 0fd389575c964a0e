use Rattle.ftd.proofs.signed.Integers.{above-is}
use Rattle.ftd.proofs.signed.above.Goals as goal

pub returns : goal.returns
returns c = above-is c.args.units c.requires
