use borrow.Author.Rules.{rules}
use native.Mathlib.Omega.{arith}
use Rattle.listing.proofs.Texts.{put-none}
use Rattle.play.specs.Lines.{hex_bytes}
use Rattle.play.proofs.text.Turns.{pairs-turn, pairs-over}
use Rattle.play.proofs.text.put_pairs.Goals as goal

pub loop-x-init : goal.loop-x-init
unfolding hex_bytes
loop-x-init c = (search rules, record { bytes = put-none _ _; place = omega arith })

pub loop-x-preserved : goal.loop-x-preserved
loop-x-preserved c = (
  search rules,
  pairs-turn c.args.bytes.now c.loop-x.x-index _ (omega arith) c.loop-x-test.true c.loop-x.invariant.1 c.wide32.ensures.0
      c.put_hex-to.ensures.0,
)

pub returns : goal.returns
returns c = (search (rules, pairs-over), search rules)
