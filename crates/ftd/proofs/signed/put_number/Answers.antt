use borrow.Author.Rules.{rules}
use Rattle.ftd.proofs.signed.Stores.{put-minus, put-plain}
use Rattle.ftd.proofs.signed.put_number.Goals as goal

pub returns-then-v : goal.returns-then-v
returns-then-v c = search (rules, put-minus)

pub returns : goal.returns
returns c = search (rules, put-plain)
