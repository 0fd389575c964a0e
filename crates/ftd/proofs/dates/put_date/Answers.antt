use borrow.Author.Rules.{rules}
use Rattle.ftd.proofs.dates.Verdicts.{put-nothing, put-unused, put-the-day}
use Rattle.ftd.proofs.dates.put_date.Goals as goal

pub returns-in-NoDate : goal.returns-in-NoDate
returns-in-NoDate c = search (rules, put-nothing, put-unused, put-the-day)

pub returns-in-Unused : goal.returns-in-Unused
returns-in-Unused c = search (rules, put-nothing, put-unused, put-the-day)

pub returns-in-Day : goal.returns-in-Day
returns-in-Day c = search (rules, put-nothing, put-unused, put-the-day)
