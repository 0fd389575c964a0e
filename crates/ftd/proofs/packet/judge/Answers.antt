use mathlib.Core.Path.{refl, sym, ◌∙◌}
use borrow.Author.Rules.{rules}
use Rattle.ftd.proofs.packet.Ways.{judged-head-missing, judged-long, judged-body, judged-rest-missing}
use Rattle.ftd.proofs.packet.Ways.{judged-there}
use Rattle.ftd.proofs.packet.judge.Goals as goal

pub returns-then-p-lt4 : goal.returns-then-p-lt4
returns-then-p-lt4 c = search (rules, judged-head-missing)

pub returns-then-ext-gt-MOST_EXTENSION : goal.returns-then-ext-gt-MOST_EXTENSION
returns-then-ext-gt-MOST_EXTENSION c = search (rules, judged-long)

pub returns-then-wrong_body : goal.returns-then-wrong_body
returns-then-wrong_body c = search (rules, judged-body)

pub returns-then-p-ext : goal.returns-then-p-ext
returns-then-p-ext c = search (rules, judged-rest-missing)

pub judge_whole-requires : goal.judge_whole-requires
judge_whole-requires c = (
  (c.size8-ext.ensures.0, c.size16-body.ensures.0 ∙ c.be16.ensures),
  refl,
  c.if-p-ext.false,
  sym c.wrong_body.ensures ∙ c.if-wrong_body.false,
)

pub returns : goal.returns
returns c = search (rules, judged-there)
