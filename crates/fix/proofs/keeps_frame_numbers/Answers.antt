use Rattle.fix.proofs.Follow.{frames-follow}
use Rattle.fix.proofs.keeps_frame_numbers.Goals as goal

pub returns : goal.returns
returns c = frames-follow
