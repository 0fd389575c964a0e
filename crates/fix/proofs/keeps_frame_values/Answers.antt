use Rattle.fix.proofs.Values.{frame-values}
use Rattle.fix.proofs.keeps_frame_values.Goals as goal

pub returns : goal.returns
returns c = frame-values
