use Rattle.flow.proofs.Follows.{numbers-follow}
use Rattle.flow.proofs.keeps_numbers.Goals as goal

pub returns : goal.returns
returns c = numbers-follow
