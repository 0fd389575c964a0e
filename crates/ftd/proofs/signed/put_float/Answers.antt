use borrow.Author.Rules.{rules}
use Rattle.ftd.proofs.signed.Stores.{put-float}
use Rattle.ftd.proofs.signed.put_float.Goals as goal

pub returns : goal.returns
returns c = search (rules, put-float)
