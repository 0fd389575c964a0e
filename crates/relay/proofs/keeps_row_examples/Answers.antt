use Rattle.relay.proofs.RowExamples.{row-examples}
use Rattle.relay.proofs.keeps_row_examples.Goals as goal

pub returns : goal.returns
returns c = row-examples
