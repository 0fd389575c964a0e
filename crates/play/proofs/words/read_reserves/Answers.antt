use borrow.Author.Rules.{rules}
use native.Mathlib.Omega.{arith}
use Rattle.play.specs.Words.{reserve_at}
use Rattle.play.proofs.words.Arguments.{list-first, list-turn, list-whole}
use Rattle.play.proofs.words.read_reserves.Goals as goal

pub loop-k-init : goal.loop-k-init
loop-k-init c = search (rules, list-first)

pub loop-k-preserved : goal.loop-k-preserved
loop-k-preserved c =
    list-turn (reserve_at c.args.line.now) _ c.args.i c.loop-k.x-items c.loop-k.k c.loop-k.invariant _ c.loop-k.auto.x-items (omega arith) c.reserve_at.ensures

pub returns : goal.returns
returns c = list-whole (reserve_at c.args.line.now) c.args.list.now c.args.i c.loop-k.x-items c.loop-k.k c.args.n c.loop-k.invariant (search rules) (search rules) (search rules)
