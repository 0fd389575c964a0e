use Rattle.ftd.proofs.Tests.{tests}
use Rattle.exports.specs.Items.{item_for}
use Rattle.exports.proofs.items.item_for.Goals as goal

pub returns-then-x-eq0 : goal.returns-then-x-eq0
unfolding item_for
returns-then-x-eq0 c = search tests

pub returns-then-x-eq2 : goal.returns-then-x-eq2
unfolding item_for
returns-then-x-eq2 c = rw c.char_for.ensures (search tests)

pub returns-then-x-eq3 : goal.returns-then-x-eq3
unfolding item_for
returns-then-x-eq3 c = rw c.word_for.ensures (search tests)

pub returns-then-x-eq4 : goal.returns-then-x-eq4
unfolding item_for
returns-then-x-eq4 c = rw c.int_for.ensures (search tests)

pub returns-then-x-eq5 : goal.returns-then-x-eq5
unfolding item_for
returns-then-x-eq5 c = search tests

pub returns-then-x-eq6 : goal.returns-then-x-eq6
unfolding item_for
returns-then-x-eq6 c = search tests

pub returns-then-x-eq7 : goal.returns-then-x-eq7
unfolding item_for
returns-then-x-eq7 c = search tests

pub returns-then-x-eq8 : goal.returns-then-x-eq8
unfolding item_for
returns-then-x-eq8 c = search tests

pub returns-then-x-eq9 : goal.returns-then-x-eq9
unfolding item_for
returns-then-x-eq9 c = search tests

pub returns : goal.returns
unfolding item_for
returns c = search tests
