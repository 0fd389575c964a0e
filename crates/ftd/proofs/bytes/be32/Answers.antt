use Rattle.ftd.specs.Bytes.{be32_of}
use Rattle.ftd.proofs.Tests.{tests}
use Rattle.ftd.proofs.bytes.be32.Goals as goal

pub returns : goal.returns
unfolding be32_of
returns c = search tests
