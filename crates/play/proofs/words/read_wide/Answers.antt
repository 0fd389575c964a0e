use borrow.Author.Rules.{rules}
use Rattle.std.proofs.Common.{◌≡◌, None}
use Rattle.play.specs.Types.{Wide}
use Rattle.play.proofs.words.Turns.{wide-none, wide-some, wide-no-digit, wide-above, wide-more, wide-over}
use Rattle.play.proofs.words.read_wide.Goals as goal

pub returns-then-is_empty : goal.returns-then-is_empty
returns-then-is_empty c = search (rules, wide-none)

pub loop-x-init : goal.loop-x-init
loop-x-init c = search (rules, wide-some)

pub returns-then-d-ge10 : goal.returns-then-d-ge10
returns-then-d-ge10 c = search (rules, wide-no-digit)

pub returns-in_err-checked_mul : goal.returns-in_err-checked_mul
returns-in_err-checked_mul c =
    let e : ◌≡◌ {A = Wide} c.from_residual.result None = search rules in
    rw e (wide-above c.args.word.now c.loop-x.x-index c.loop-x.n _ c.loop-x.invariant (search rules) c.from-d.result (search rules) (search rules) (search rules))

pub returns-in_err-n : goal.returns-in_err-n
returns-in_err-n c =
    let e : ◌≡◌ {A = Wide} c.from_residual-in_err-n.result None = search rules in
    rw e (wide-above c.args.word.now c.loop-x.x-index c.loop-x.n _ c.loop-x.invariant (search rules) c.from-d.result (search rules) (search rules) (search rules))

pub loop-x-preserved : goal.loop-x-preserved
loop-x-preserved c = wide-more c.args.word.now c.loop-x.x-index c.loop-x.n _ c.loop-x.invariant (search rules) c.from-d.result (search rules) (search rules) (search rules) _ (search rules)

pub returns : goal.returns
returns c = search (rules, wide-over)
