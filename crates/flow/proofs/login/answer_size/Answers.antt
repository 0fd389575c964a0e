use mathlib.Core.Path.{sym, ◌∙◌}
use Rattle.flow.proofs.login.Answer.{size-undated, size-dated}
use Rattle.flow.proofs.login.answer_size.Goals as goal

pub returns-then-is_some : goal.returns-then-is_some
returns-then-is_some c = size-dated c.args.date c.args.content.now (sym c.is_some.ensures ∙ c.if-is_some.true)

pub returns-else-is_some : goal.returns-else-is_some
returns-else-is_some c = size-undated c.args.date c.args.content.now (sym c.is_some.ensures ∙ c.if-is_some.false)
