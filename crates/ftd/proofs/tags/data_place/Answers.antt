use Rattle.ftd.specs.Tags.Helpers.{data_place}
use Rattle.ftd.proofs.Tests.{tests}
use Rattle.ftd.proofs.tags.data_place.Goals as goal

pub returns-then-kind-counted : goal.returns-then-kind-counted
unfolding data_place
returns-then-kind-counted c = search tests

pub returns : goal.returns
unfolding data_place
returns c = search tests
