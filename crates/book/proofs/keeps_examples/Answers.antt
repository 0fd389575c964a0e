use Rattle.book.proofs.Examples.{examples-hold}
use Rattle.book.proofs.keeps_examples.Goals as goal

pub returns : goal.returns
returns c = examples-hold
