use borrow.Author.Rules.{rules}
use Rattle.flow.proofs.checkpoint.Letters.{right-few}
use Rattle.flow.proofs.checkpoint.Places.{name-inside, keep-wrong, keep-unused, keep-used}
use Rattle.flow.proofs.checkpoint.Checkpoints.keep.Goals as goal

pub returns-then-wrong_name : goal.returns-then-wrong_name
returns-then-wrong_name c = search (rules, keep-wrong)

pub name_code-code-requires : goal.name_code-code-requires
name_code-code-requires c = search (rules, right-few)

pub with_at-requires : goal.with_at-requires
with_at-requires c = search (rules, name-inside)

pub returns-in_default : goal.returns-in_default
returns-in_default c = search (rules, keep-unused)

pub returns : goal.returns
returns c = search (rules, keep-used)
