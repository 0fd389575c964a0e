use Rattle.book.proofs.calls.Steps.{check-buying, check-selling, check-volume, check_done}
use Rattle.book.proofs.calls.check_match.Goals as goal

pub returns-then-is_lacking : goal.returns-then-is_lacking
returns-then-is_lacking c = (check-buying c.args.book c.args.offer _ _ c.quantity_at.ensures c.is_lacking.ensures c.if-is_lacking.true, tt)

pub returns-then-is_lacking-2 : goal.returns-then-is_lacking-2
returns-then-is_lacking-2 c = (
  check-selling c.args.book c.args.offer _ _ c.quantity_at.ensures c.is_lacking.ensures c.if-is_lacking.false _ _
      c.quantity_at-2.ensures c.is_lacking-2.ensures c.if-is_lacking-2.true,
  tt,
)

pub returns-then-offer-gt1000000 : goal.returns-then-offer-gt1000000
returns-then-offer-gt1000000 c = (
  check-volume c.args.book c.args.offer _ _ c.quantity_at.ensures c.is_lacking.ensures c.if-is_lacking.false _ _
      c.quantity_at-2.ensures c.is_lacking-2.ensures c.if-is_lacking-2.false c.if-offer-gt1000000.true,
  tt,
)

pub returns : goal.returns
returns c = check_done c.args.book c.args.offer _ _ c.quantity_at.ensures c.is_lacking.ensures c.if-is_lacking.false _ _
    c.quantity_at-2.ensures c.is_lacking-2.ensures c.if-is_lacking-2.false c.if-offer-gt1000000.false
