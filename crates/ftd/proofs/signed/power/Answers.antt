use Rattle.ftd.proofs.signed.Stores.{powers, power_at}
use Rattle.ftd.proofs.signed.power.Goals as goal

pub returns : goal.returns
unfolding powers
returns c = power_at c.args.n c.requires
