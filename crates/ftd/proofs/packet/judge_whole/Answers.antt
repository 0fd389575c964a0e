use Rattle.ftd.proofs.packet.Verdicts.{body-least}
use Rattle.ftd.proofs.packet.Ways.{judged-skipped, judged-broken, judged-link, judged-message}
use borrow.Author.Rules.{rules}
use Rattle.ftd.proofs.packet.judge_whole.Goals as goal

pub returns-then-is_skipped : goal.returns-then-is_skipped
returns-then-is_skipped c = search (rules, judged-skipped)

pub returns-then-body-eq0 : goal.returns-then-body-eq0
returns-then-body-eq0 c = search (rules, judged-link)

pub judge_message-requires : goal.judge_message-requires
judge_message-requires c = search (rules, body-least)

pub returns-in_default : goal.returns-in_default
returns-in_default c = search (rules, judged-broken)

pub returns : goal.returns
returns c = search (rules, judged-message)
