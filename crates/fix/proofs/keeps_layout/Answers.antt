use Rattle.fix.proofs.FrameLayout.{frame-layout}
use Rattle.fix.proofs.keeps_layout.Goals as goal

pub returns : goal.returns
returns c = frame-layout
