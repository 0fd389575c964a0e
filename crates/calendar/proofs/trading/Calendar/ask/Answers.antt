use borrow.Author.Rules.{rules}
use Rattle.calendar.proofs.trading.Laws.{trades-most, ask-idle, ask_out, ask-own, ask-late}
use Rattle.calendar.proofs.trading.Calendar.ask.Goals as goal
use Rattle.calendar.proofs.trading.Calendar.ask.Goals.{then-not-trades-via-then-not-trades}
use Rattle.calendar.proofs.trading.Calendar.ask.Goals.{then-not-trades-via-else-not-trades+then-not-in_session}

pub returns-then-not-trades : goal.returns-then-not-trades
returns-then-not-trades c =
    elim c.then-not-trades.branch [
      | then-not-trades-via-then-not-trades w ↦ search (rules, ask-idle)
      | then-not-trades-via-else-not-trades+then-not-in_session w ↦ search (rules, ask_out)
    ]

pub next_trading-requires : goal.next_trading-requires
next_trading-requires c = search (rules, trades-most)

pub returns-then-in_session : goal.returns-then-in_session
returns-then-in_session c = search (rules, ask-late)

pub returns-else-in_session : goal.returns-else-in_session
returns-else-in_session c = search (rules, ask-own)
