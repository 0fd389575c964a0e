use Rattle.ftd.proofs.Tests.{tests}
use Rattle.exports.specs.Numbers.{date_for}
use Rattle.exports.proofs.tags.date_for.Goals as goal

pub returns-then-dated-eq0 : goal.returns-then-dated-eq0
unfolding date_for
returns-then-dated-eq0 c = search tests

pub returns : goal.returns
unfolding date_for
returns c = search tests
