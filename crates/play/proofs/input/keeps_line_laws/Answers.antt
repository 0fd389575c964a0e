use Rattle.play.proofs.input.Lines.{line-laws}
use Rattle.play.proofs.input.keeps_line_laws.Goals as goal

pub returns : goal.returns
returns c = line-laws
