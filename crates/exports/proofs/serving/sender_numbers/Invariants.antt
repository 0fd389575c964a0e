use Rattle.exports.specs.Numbers.{paired}
use Rattle.exports.specs.Serving.{served_numbers}
use Rattle.flow.proofs.common.Filled.{Filled}
use Rattle.exports.proofs.serving.sender_numbers.Given as goal

abbrev pub invariant-loop-i : goal.invariant-loop-i
invariant-loop-i l = Filled 8 l.i (paired served_numbers l.e.day.series l.e.seat.places) l.all
