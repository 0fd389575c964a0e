use Rattle.ftd.specs.Tags.{count_kind}
use Rattle.ftd.proofs.Tests.{tests}
use Rattle.ftd.proofs.tags.count_kind.Goals as goal

pub returns-then-kind-counted : goal.returns-then-kind-counted
unfolding count_kind
returns-then-kind-counted c = search tests

pub returns : goal.returns
unfolding count_kind
returns c = search tests
