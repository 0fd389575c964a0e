use borrow.Author.Rules.{rules}
use Rattle.flow.specs.Several.{publishing}
use Rattle.flow.proofs.several.Published.{some-record, none_here, ten-here, stop-turn, on-turn}
use Rattle.flow.proofs.several.Walks.{start-turn, rest-turn}
use Rattle.flow.proofs.sender.Sender.publish_several.Goals as goal

pub loop-end-init : goal.loop-end-init
loop-end-init c = (search rules, search rules, search (rules, start-turn publishing))

pub records_rest-requires : goal.records_rest-requires
records_rest-requires c = search (rules, none_here)

pub returns-then-n-eq0 : goal.returns-then-n-eq0
returns-then-n-eq0 c = search (rules, rest-turn publishing some-record)

pub publish_record-step-requires : goal.publish_record-step-requires
publish_record-step-requires c = search (rules, ten-here)

pub returns-in-Err : goal.returns-in-Err
returns-in-Err c = search (rules, stop-turn)

pub loop-end-preserved : goal.loop-end-preserved
loop-end-preserved c = (search rules, search rules, search (rules, on-turn))
