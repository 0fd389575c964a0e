use borrow.Author.Rules.{rules}
use Rattle.book.proofs.event.Reading.{price-none, cast-fits, price-fits, price-below, price-above}
use Rattle.book.proofs.event.price_of.Goals as goal

pub returns-in_err-negative : goal.returns-in_err-negative
returns-in_err-negative c = search (rules, price-none)

pub overflow_cast-price : goal.overflow_cast-price
overflow_cast-price c = cast-fits _ c.requires _ c.read_float.ensures c.in_ok-negative.field-0 c.in_ok-negative.was

pub overflow_sub-result : goal.overflow_sub-result
overflow_sub-result c = price-fits _ c.requires _ c.read_float.ensures c.in_ok-negative.field-0 c.in_ok-negative.was

pub returns-then-negative : goal.returns-then-negative
returns-then-negative c = price-below _ c.requires _ c.read_float.ensures c.in_ok-negative.field-0 c.in_ok-negative.was c.if-negative.true

pub returns-else-negative : goal.returns-else-negative
returns-else-negative c = price-above _ c.requires _ c.read_float.ensures c.in_ok-negative.field-0 c.in_ok-negative.was c.if-negative.false
