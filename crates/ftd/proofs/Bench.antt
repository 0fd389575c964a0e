-- The bench table, computed. Assumes nothing.
use Rattle.ftd.specs.Bench.{Bench}
use Rattle.ftd.proofs.Opened.{opened}

pub bench-holds : Bench
unfolding opened
bench-holds = tt
