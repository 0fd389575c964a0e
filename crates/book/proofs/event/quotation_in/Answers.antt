use Rattle.book.proofs.event.Reading.{quotation-other, quotation-none, quotation-some}
use Rattle.book.proofs.event.quotation_in.Goals as goal

pub returns-then-not-same_code : goal.returns-then-not-same_code
returns-then-not-same_code c =
    (quotation-other c.args.code.now c.args.field.now _ c.same_code.ensures c.requires.0 c.if-not-same_code.true, tt)

pub returns-in_default : goal.returns-in_default
returns-in_default c = (
  quotation-none c.args.code.now c.args.field.now _ c.same_code.ensures c.requires.0 c.if-not-same_code.false _ c.price_of.ensures.0
      c.in_default.is,
  tt,
)

pub returns : goal.returns
returns c = quotation-some c.args.code.now c.args.field.now _ c.same_code.ensures c.requires.0 c.if-not-same_code.false
    _ c.price_of.ensures.0 _ c.in-Some.is c.price_of.ensures.1 _ c.be32-quantity.ensures _ c.quotation.ensures
