use Rattle.flow.proofs.bench.Bench.{bench-holds}
use Rattle.flow.proofs.keeps_bench.Goals as goal

pub returns : goal.returns
returns c = bench-holds
