use borrow.Author.Rules.{rules}
use Rattle.play.proofs.calls.Rows.{names-buffers, names-day, names-publish, names-login, names-send}
use Rattle.play.proofs.calls.Rows.{names-end, names-connect, names-ask, names-answer, names-receive}
use Rattle.play.proofs.calls.Rows.{names-state, names-calendar, names-mark, names-none}
use Rattle.play.proofs.calls.Rows.{names-book, names-take, names-level, names-mean}
use Rattle.play.proofs.calls.Rows.{names-receive-all, names-publish-all, names-packet, names-keep, names-return}
use Rattle.play.proofs.calls.named_call.Goals as goal

pub returns-in-Unknown : goal.returns-in-Unknown
returns-in-Unknown c = search (rules, names-none)

pub returns-in-Buffers : goal.returns-in-Buffers
returns-in-Buffers c = search (rules, names-buffers)

pub returns-in-OpenDay : goal.returns-in-OpenDay
returns-in-OpenDay c = search (rules, names-day)

pub returns-in-Publish : goal.returns-in-Publish
returns-in-Publish c = search (rules, names-publish)

pub returns-in-Login : goal.returns-in-Login
returns-in-Login c = search (rules, names-login)

pub returns-in-Send : goal.returns-in-Send
returns-in-Send c = search (rules, names-send)

pub returns-in-OpenEnd : goal.returns-in-OpenEnd
returns-in-OpenEnd c = search (rules, names-end)

pub returns-in-Connect : goal.returns-in-Connect
returns-in-Connect c = search (rules, names-connect)

pub returns-in-Ask : goal.returns-in-Ask
returns-in-Ask c = search (rules, names-ask)

pub returns-in-Answer : goal.returns-in-Answer
returns-in-Answer c = search (rules, names-answer)

pub returns-in-Receive : goal.returns-in-Receive
returns-in-Receive c = search (rules, names-receive)

pub returns-in-State : goal.returns-in-State
returns-in-State c = search (rules, names-state)

pub returns-in-Calendar : goal.returns-in-Calendar
returns-in-Calendar c = search (rules, names-calendar)

pub returns-in-Mark : goal.returns-in-Mark
returns-in-Mark c = search (rules, names-mark)

pub returns-in-Book : goal.returns-in-Book
returns-in-Book c = search (rules, names-book)

pub returns-in-Take : goal.returns-in-Take
returns-in-Take c = search (rules, names-take)

pub returns-in-Level : goal.returns-in-Level
returns-in-Level c = search (rules, names-level)

pub returns-in-Mean : goal.returns-in-Mean
returns-in-Mean c = search (rules, names-mean)

pub returns-in-ReceiveAll : goal.returns-in-ReceiveAll
returns-in-ReceiveAll c = search (rules, names-receive-all)

pub returns-in-PublishAll : goal.returns-in-PublishAll
returns-in-PublishAll c = search (rules, names-publish-all)

pub returns-in-SendPacket : goal.returns-in-SendPacket
returns-in-SendPacket c = search (rules, names-packet)

pub returns-in-Keep : goal.returns-in-Keep
returns-in-Keep c = search (rules, names-keep)

pub returns-in-Return : goal.returns-in-Return
returns-in-Return c = search (rules, names-return)
