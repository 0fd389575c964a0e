use borrow.Author.Rules.{rules}
use Rattle.ftd.proofs.texts.Laws.{text-none, text-read}
use Rattle.ftd.proofs.texts.read_text.Goals as goal

pub returns-then-all_in : goal.returns-then-all_in
returns-then-all_in c = search (rules, text-read)

pub returns : goal.returns
returns c = search (rules, text-none)
