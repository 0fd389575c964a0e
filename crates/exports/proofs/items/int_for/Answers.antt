use Rattle.ftd.proofs.Tests.{tests}
use Rattle.exports.specs.Items.{int_for}
use Rattle.exports.proofs.items.int_for.Goals as goal

pub returns-then-x-lt4294967296 : goal.returns-then-x-lt4294967296
unfolding int_for
returns-then-x-lt4294967296 c = search tests

pub returns : goal.returns
unfolding int_for
returns c = search tests
