use Rattle.ftd.proofs.Tests.{tests}
use Rattle.exports.specs.Numbers.{direction_for}
use Rattle.exports.proofs.direction_for.Goals as goal

pub returns-then-d-eq0 : goal.returns-then-d-eq0
unfolding direction_for
returns-then-d-eq0 c = search tests

pub returns : goal.returns
unfolding direction_for
returns c = search tests
