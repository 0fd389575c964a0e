use borrow.Author.Rules.{rules}
use mathlib.Core.Path.{refl}
use Rattle.book.specs.Calls.{events_of}
use Rattle.book.proofs.calls.Fields.{walk-over, walk_refused, walk_turn}
use Rattle.book.proofs.calls.walk.Goals as goal

pub loop-code-init : goal.loop-code-init
unfolding events_of
loop-code-init c = (search rules, search rules, refl)

pub returns-then-n-eq0 : goal.returns-then-n-eq0
returns-then-n-eq0 c = walk-over c.args.book.code c.args.tid c.args.content.now c.loop-code.at _ c.field_size-n.ensures.0 c.loop-code.current _ c.loop-code.invariant.2 c.if-n-eq0.true

pub apply-step-requires : goal.apply-step-requires
apply-step-requires c = c.event_of.ensures.1

pub returns-then-is_err : goal.returns-then-is_err
returns-then-is_err c = walk_refused c.args.book.code c.args.tid c.args.content.now c.loop-code.at _ c.field_size-n.ensures.0 c.loop-code.current _ c.loop-code.invariant.2 c.if-n-eq0.false _
    c.event_of.ensures.0 _ c.apply-step.ensures c.if-is_err.ensures.value

pub loop-code-preserved : goal.loop-code-preserved
loop-code-preserved c = (
  search rules,
  search rules,
  walk_turn c.args.book.code c.args.tid c.args.content.now c.loop-code.at _ c.field_size-n.ensures.0 c.loop-code.current _ c.loop-code.invariant.2 c.if-n-eq0.false _
      c.event_of.ensures.0 _ c.apply-step.ensures c.if-is_err.ensures.value,
)
