use Rattle.book.proofs.calls.Steps.{lower-none, lower-fits, lower-some}
use Rattle.book.proofs.calls.lower.Goals as goal

pub returns-then-old-eq0 : goal.returns-then-old-eq0
returns-then-old-eq0 c = lower-none c.args.side c.args.buying c.args.offer _ _ c.place_of-at.ensures.0 c.held_at-old.ensures c.if-old-eq0.true

pub overflow_sub-new : goal.overflow_sub-new
overflow_sub-new c = lower-fits c.args.side c.args.buying c.args.offer _ _ c.place_of-at.ensures.0 c.held_at-old.ensures c.if-old-eq0.false c.requires

pub returns : goal.returns
returns c = lower-some c.args.side c.args.buying c.args.offer _ _ c.place_of-at.ensures.0 c.held_at-old.ensures c.if-old-eq0.false _ c.put_at.ensures
