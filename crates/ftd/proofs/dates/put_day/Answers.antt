use borrow.Author.Rules.{rules}
use Rattle.ftd.proofs.dates.Verdicts.{put_three}
use Rattle.ftd.proofs.dates.put_day.Goals as goal

pub returns : goal.returns
returns c = search (rules, put_three)
