use lib.IntN.{pos, ◌*ℤ◌}
use Rattle.book.proofs.sums.Limits.{added-plain, product_small}
use Rattle.book.proofs.sums.add_turnover.Goals as goal

pub returns : goal.returns
returns c = added-plain c.args.sum (c.args.offer.price *ℤ pos c.args.offer.quantity) _ _ c.ranges.sum c.product.ensures.0
    (product_small c.args.offer.price c.args.offer.quantity c.requires.0 c.requires.1) c.added.ensures
