use Rattle.book.proofs.sums.MeanLaws.{mean-laws}
use Rattle.book.proofs.sums.keeps_mean_laws.Goals as goal

pub returns : goal.returns
returns c = mean-laws
