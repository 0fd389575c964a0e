use Rattle.ftd.specs.Bytes.{be16_of}
use Rattle.ftd.proofs.Tests.{tests}
use Rattle.ftd.proofs.bytes.be16.Goals as goal

pub returns : goal.returns
unfolding be16_of
returns c = search tests
