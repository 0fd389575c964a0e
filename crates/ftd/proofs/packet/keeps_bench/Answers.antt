use Rattle.ftd.proofs.Bench.{bench-holds}
use Rattle.ftd.proofs.packet.keeps_bench.Goals as goal

pub returns : goal.returns
returns c = bench-holds
