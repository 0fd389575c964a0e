use Rattle.fix.proofs.Follow.{frames-return}
use Rattle.fix.proofs.keeps_frame_returns.Goals as goal

pub returns : goal.returns
returns c = frames-return
