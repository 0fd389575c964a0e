-- The bench table, computed. Assumes nothing.
use Rattle.flow.specs.Bench.{Bench}
use Rattle.flow.proofs.bench.Opened.{opened}

pub bench-holds : Bench
unfolding opened
bench-holds = tt
