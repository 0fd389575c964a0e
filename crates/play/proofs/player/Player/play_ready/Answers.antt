use borrow.Author.Rules.{rules}
use Rattle.play.proofs.calls.Limits.{day-limit, end-limit, login-limit, send-limit, ask-limit}
use Rattle.play.proofs.calls.Limits.{room-text, room_out, times-limit, dates-limit}
use Rattle.play.proofs.player.Plays.{ready-bad, ready-buffers, ready-day, ready-publish, ready-login}
use Rattle.play.proofs.player.Plays.{ready-send, ready-end, ready-connect, ready-ask, ready-answer}
use Rattle.play.proofs.player.Plays.{ready-receive, ready-state, ready-calendar, ready-time, ready-date}
use Rattle.play.proofs.player.Plays.{ready-book, ready-take, ready-level, ready-mean}
use Rattle.play.proofs.player.Plays.{ready-receive-all, ready-publish-all, ready-keep, ready-return}
use Rattle.play.proofs.player.Player.play_ready.Goals as goal

pub play_open_day-requires : goal.play_open_day-requires
play_open_day-requires c = search (rules, day-limit)

pub play_login-requires : goal.play_login-requires
play_login-requires c = (search (rules, login-limit, room-text), search (rules, login-limit, room_out), search rules)

pub play_send-requires : goal.play_send-requires
play_send-requires c = (search (rules, send-limit, room-text), search (rules, send-limit, room_out), search rules)

pub play_open_end-requires : goal.play_open_end-requires
play_open_end-requires c = search (rules, end-limit)

pub play_ask-requires : goal.play_ask-requires
play_ask-requires c = (search (rules, ask-limit, room-text), search (rules, ask-limit, room_out), search rules)

pub play_calendar-requires : goal.play_calendar-requires
play_calendar-requires c = (search rules, search (rules, times-limit), search (rules, dates-limit))

pub returns-in-Bad : goal.returns-in-Bad
returns-in-Bad c = search (rules, ready-bad)

pub returns-in-Buffers : goal.returns-in-Buffers
returns-in-Buffers c = search (rules, ready-buffers)

pub returns-in-OpenDay : goal.returns-in-OpenDay
returns-in-OpenDay c = search (rules, ready-day)

pub returns-in-Publish : goal.returns-in-Publish
returns-in-Publish c = search (rules, ready-publish)

pub returns-in-Login : goal.returns-in-Login
returns-in-Login c = search (rules, ready-login)

pub returns-in-Send : goal.returns-in-Send
returns-in-Send c = search (rules, ready-send)

pub returns-in-OpenEnd : goal.returns-in-OpenEnd
returns-in-OpenEnd c = search (rules, ready-end)

pub returns-in-Connect : goal.returns-in-Connect
returns-in-Connect c = search (rules, ready-connect)

pub returns-in-Ask : goal.returns-in-Ask
returns-in-Ask c = search (rules, ready-ask)

pub returns-in-Answer : goal.returns-in-Answer
returns-in-Answer c = search (rules, ready-answer)

pub returns-in-Receive : goal.returns-in-Receive
returns-in-Receive c = search (rules, ready-receive)

pub returns-in-State : goal.returns-in-State
returns-in-State c = search (rules, ready-state)

pub returns-in-SetCalendar : goal.returns-in-SetCalendar
returns-in-SetCalendar c = search (rules, ready-calendar)

pub returns-in-AskTime : goal.returns-in-AskTime
returns-in-AskTime c = search (rules, ready-time)

pub returns-in-MarkDate : goal.returns-in-MarkDate
returns-in-MarkDate c = search (rules, ready-date)

pub returns-in-StartBook : goal.returns-in-StartBook
returns-in-StartBook c = search (rules, ready-book)

pub returns-in-TakeMessage : goal.returns-in-TakeMessage
returns-in-TakeMessage c = search (rules, ready-take)

pub returns-in-ShowLevel : goal.returns-in-ShowLevel
returns-in-ShowLevel c = search (rules, ready-level)

pub returns-in-ShowMean : goal.returns-in-ShowMean
returns-in-ShowMean c = search (rules, ready-mean)

pub returns-in-ReceiveAll : goal.returns-in-ReceiveAll
returns-in-ReceiveAll c = search (rules, ready-receive-all)

pub returns-in-PublishAll : goal.returns-in-PublishAll
returns-in-PublishAll c = search (rules, ready-publish-all)

pub returns-in-Keep : goal.returns-in-Keep
returns-in-Keep c = search (rules, ready-keep)

pub returns-in-Return : goal.returns-in-Return
returns-in-Return c = search (rules, ready-return)
