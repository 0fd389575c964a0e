use borrow.Author.Rules.{rules}
use mathlib.Core.Path.{refl}
use Rattle.ftd.proofs.Tests.{tests}
use Rattle.play.specs.Words.{number_in}
use Rattle.play.proofs.words.Turns.{number-some, no_digit, too-high, digit-more, digits-over}
use Rattle.play.proofs.words.read_number.Goals as goal

pub returns-then-is_empty : goal.returns-then-is_empty
unfolding number_in
returns-then-is_empty c = (search tests, search rules)

pub loop-x-init : goal.loop-x-init
loop-x-init c = (search rules, search (rules, number-some))

pub returns-then-base-d : goal.returns-then-base-d
returns-then-base-d c = (search (rules, no_digit), search rules)

pub returns-then-n-ge-NO_NUMBER : goal.returns-then-n-ge-NO_NUMBER
returns-then-n-ge-NO_NUMBER c = (
  too-high c.args.base c.args.word.now c.loop-x.x-index c.loop-x.n _ c.loop-x.invariant.1 (search rules) c.from-d.result (search rules) (search rules) _ refl (search rules),
  search rules,
)

pub loop-x-preserved : goal.loop-x-preserved
loop-x-preserved c = (
  search rules,
  digit-more c.args.base c.args.word.now c.loop-x.x-index c.loop-x.n _ c.loop-x.invariant.1 (search rules) c.from-d.result (search rules) (search rules) _ refl (search rules),
)

pub returns : goal.returns
returns c = (search (rules, digits-over), search rules)
