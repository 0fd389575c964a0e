use Rattle.flow.proofs.Records.{record-layout}
use Rattle.flow.proofs.keeps_records.Goals as goal

pub returns : goal.returns
returns c = record-layout
