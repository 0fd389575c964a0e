use Rattle.ftd.proofs.Tests.{tests}
use Rattle.exports.specs.Items.{char_for}
use Rattle.exports.proofs.items.char_for.Goals as goal

pub returns-then-x-lt256 : goal.returns-then-x-lt256
unfolding char_for
returns-then-x-lt256 c = search tests

pub returns : goal.returns
unfolding char_for
returns c = search tests
