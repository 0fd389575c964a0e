use borrow.Author.Rules.{rules}
use Rattle.ftd.proofs.texts.Laws.{text-put}
use Rattle.ftd.proofs.texts.put_text.Goals as goal

pub returns : goal.returns
returns c = search (rules, text-put)
