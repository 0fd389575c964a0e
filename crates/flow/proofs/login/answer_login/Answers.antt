use mathlib.Core.Path.{refl}
use borrow.Author.Rules.{rules}
use Rattle.ftd.proofs.chain.Pieces.{shaped-facts}
use Rattle.flow.proofs.login.Answer.{answer-small, answer-outside, answer-written, written_over}
use Rattle.flow.proofs.login.answer_login.Goals as goal

pub answer_size-n-requires : goal.answer_size-n-requires
answer_size-n-requires c = (shaped-facts _ 4080 _ refl c.requires.1).0

pub returns-then-out-n : goal.returns-then-out-n
returns-then-out-n c = search (rules, answer-small)

pub returns-then-wrong_start : goal.returns-then-wrong_start
returns-then-wrong_start c = search (rules, answer-outside)

pub returns : goal.returns
returns c = search (rules, answer-written, written_over)
