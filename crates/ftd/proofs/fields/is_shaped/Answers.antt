use borrow.Author.Rules.{rules}
use borrow.Author.Tests.{le-leb, lt-leb}
use Rattle.ftd.specs.Fields.{shaped}
use Rattle.ftd.proofs.fields.Shape.{shape-over, shape-long, shape-turn}
use Rattle.ftd.proofs.fields.is_shaped.Goals as goal

pub returns-then-limit-content : goal.returns-then-limit-content
unfolding shaped
returns-then-limit-content c = rw (lt-leb _ _ c.if-limit-content.true)

pub loop-limit-init : goal.loop-limit-init
unfolding shaped
loop-limit-init c = (search rules, rw (le-leb _ _ c.if-limit-content.false))

pub returns-then-n-eq0 : goal.returns-then-n-eq0
returns-then-n-eq0 c = search (rules, shape-over)

pub returns-then-n-gt-PACKET_CONTENT : goal.returns-then-n-gt-PACKET_CONTENT
returns-then-n-gt-PACKET_CONTENT c = search (rules, shape-long)

pub loop-limit-preserved : goal.loop-limit-preserved
loop-limit-preserved c = (search rules, search (rules, shape-turn))
