use Rattle.lists.proofs.Examples.{examples}
use Rattle.lists.proofs.keeps_examples.Goals as goal

pub returns : goal.returns
returns c = examples
