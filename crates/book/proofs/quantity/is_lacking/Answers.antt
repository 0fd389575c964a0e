use Rattle.ftd.proofs.Tests.{tests}
use Rattle.book.specs.Quantity.{lacks}
use Rattle.book.proofs.quantity.is_lacking.Goals as goal

pub returns-then-old-ne0 : goal.returns-then-old-ne0
unfolding lacks
returns-then-old-ne0 c = search tests

pub returns-else-old-ne0 : goal.returns-else-old-ne0
unfolding lacks
returns-else-old-ne0 c = search tests
