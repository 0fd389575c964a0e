use Rattle.exports.specs.Numbers.{paired}
use Rattle.exports.specs.Receiving.{kept_numbers}
use Rattle.flow.proofs.common.Filled.{Filled}
use Rattle.exports.proofs.receiving.receiver_numbers.Given as goal

abbrev pub invariant-loop-i : goal.invariant-loop-i
invariant-loop-i l = Filled 8 l.i (paired kept_numbers l.e.kept.series l.e.live.series) l.one-items
