use Rattle.ftd.proofs.Tests.{tests}
use Rattle.exports.specs.Items.{word_for}
use Rattle.exports.proofs.items.word_for.Goals as goal

pub returns-then-x-lt65536 : goal.returns-then-x-lt65536
unfolding word_for
returns-then-x-lt65536 c = search tests

pub returns : goal.returns
unfolding word_for
returns c = search tests
