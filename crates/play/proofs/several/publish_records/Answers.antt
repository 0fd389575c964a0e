use borrow.Author.Rules.{rules}
use Rattle.flow.specs.Several.{publishing}
use Rattle.flow.proofs.several.Published.{some-record, none_here, ten-here, stop-turn, on-turn}
use Rattle.flow.proofs.several.Walks.{start-turn, rest-turn}
use Rattle.play.specs.Several.{record_line}
use Rattle.play.proofs.several.Lines.{lines_start, lines_rest}
use Rattle.play.proofs.several.Received.{record-room, refused-lines, number-lines}
use Rattle.play.proofs.several.publish_records.Goals as goal

pub loop-end-init : goal.loop-end-init
loop-end-init c = (
  search rules,
  search rules,
  search rules,
  search rules,
  search rules,
  search (rules, start-turn publishing),
  search (rules, lines_start publishing record_line),
)

pub records_rest-requires : goal.records_rest-requires
records_rest-requires c = search (rules, none_here)

pub returns-then-n-eq0 : goal.returns-then-n-eq0
returns-then-n-eq0 c = (
  search (rules, rest-turn publishing some-record),
  search (rules, lines_rest publishing record_line some-record),
  search rules,
  search rules,
)

pub publish_record-step-requires : goal.publish_record-step-requires
publish_record-step-requires c = search (rules, ten-here)

pub returns-in-Err : goal.returns-in-Err
returns-in-Err c = (search (rules, stop-turn), search (rules, refused-lines), search rules, search rules)

pub loop-end-preserved : goal.loop-end-preserved
loop-end-preserved c = (
  search rules,
  search rules,
  search rules,
  search (rules, record-room),
  search rules,
  search (rules, on-turn),
  search (rules, number-lines),
)
