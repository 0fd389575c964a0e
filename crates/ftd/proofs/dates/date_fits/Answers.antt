use borrow.Author.Rules.{rules}
use Rattle.ftd.proofs.dates.Verdicts.{no-date, unused-date, day-fits}
use Rattle.ftd.proofs.dates.date_fits.Goals as goal

pub returns-in-Day : goal.returns-in-Day
returns-in-Day c = search (rules, day-fits, no-date, unused-date)

pub returns-in-NoDate : goal.returns-in-NoDate
returns-in-NoDate c = search (rules, day-fits, no-date, unused-date)

pub returns-in-Unused : goal.returns-in-Unused
returns-in-Unused c = search (rules, day-fits, no-date, unused-date)
