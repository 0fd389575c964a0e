use Rattle.ftd.specs.Composition.{in_range}
use Rattle.ftd.proofs.Tests.{tests}
use Rattle.ftd.proofs.composition.in_range.Goals as goal

pub returns-else-least-n : goal.returns-else-least-n
unfolding in_range
returns-else-least-n c = search tests

pub returns-then-most-eq0 : goal.returns-then-most-eq0
unfolding in_range
returns-then-most-eq0 c = search tests

pub returns-else-most-eq0 : goal.returns-else-most-eq0
unfolding in_range
returns-else-most-eq0 c = search tests
