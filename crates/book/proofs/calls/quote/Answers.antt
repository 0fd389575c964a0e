use Rattle.book.proofs.calls.Steps.{quote-wrong, quote-full, quote-put}
use Rattle.book.proofs.calls.quote.Goals as goal

pub returns-then-one_more : goal.returns-then-one_more
returns-then-one_more c = quote-full c.args.side c.args.buying c.args.offer _ _ c.place_of-at.ensures.0 c.held_at-old.ensures c.args.absolute _
    c.new_quantity.ensures _ c.in-Some.is _ c.one_more.ensures c.if-one_more.true

pub returns-in_default : goal.returns-in_default
returns-in_default c = quote-wrong c.args.side c.args.buying c.args.offer _ _ c.place_of-at.ensures.0 c.held_at-old.ensures c.args.absolute _
    c.new_quantity.ensures c.in_default.is

pub returns : goal.returns
returns c = quote-put c.args.side c.args.buying c.args.offer _ _ c.place_of-at.ensures.0 c.held_at-old.ensures c.args.absolute _
    c.new_quantity.ensures _ c.in-Some.is _ c.one_more.ensures c.if-one_more.false _
    c.put_at.ensures
