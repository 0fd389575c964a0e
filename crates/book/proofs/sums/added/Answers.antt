use Rattle.book.proofs.sums.Limits.{sum-beyond, next_fits, next-beyond, next-within}
use Rattle.book.proofs.sums.added.Goals as goal

pub returns-then-is_beyond : goal.returns-then-is_beyond
returns-then-is_beyond c = sum-beyond c.args.sum c.args.x c.ranges.sum c.ranges.x _ c.is_beyond.ensures c.if-is_beyond.true

pub overflow_add-next : goal.overflow_add-next
overflow_add-next c = next_fits c.args.sum c.args.x c.ranges.sum c.ranges.x _ c.is_beyond.ensures c.if-is_beyond.false c.requires

pub returns-then-is_beyond-2 : goal.returns-then-is_beyond-2
returns-then-is_beyond-2 c = next-beyond c.args.sum c.args.x c.ranges.sum c.ranges.x _ c.is_beyond.ensures c.if-is_beyond.false c.requires
    _ c.is_beyond-2.ensures c.if-is_beyond-2.true

pub returns : goal.returns
returns c = next-within c.args.sum c.args.x c.ranges.sum c.ranges.x _ c.is_beyond.ensures c.if-is_beyond.false c.requires
    _ c.is_beyond-2.ensures c.if-is_beyond-2.false
