use Rattle.fix.proofs.Examples.{frame-examples}
use Rattle.fix.proofs.keeps_frame_examples.Goals as goal

pub returns : goal.returns
returns c = frame-examples
