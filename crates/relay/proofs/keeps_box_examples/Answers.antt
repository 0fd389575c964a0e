use Rattle.relay.proofs.Examples.{box-examples}
use Rattle.relay.proofs.keeps_box_examples.Goals as goal

pub returns : goal.returns
returns c = box-examples
