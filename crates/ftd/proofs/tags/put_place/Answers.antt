use Rattle.ftd.proofs.write.Puts.{place-put}
use borrow.Author.Rules.{rules}
use Rattle.ftd.proofs.tags.put_place.Goals as goal

pub returns : goal.returns
returns c = search (rules, place-put)
