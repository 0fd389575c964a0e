use borrow.Author.Rules.{rules}
use borrow.Author.Tests.{tests}
use Rattle.std.proofs.lemmas.Iterator.{YieldsList-from_slice}
use Rattle.std.proofs.lemmas.Iterator.Search.{position_from_yields_List}
use Rattle.book.proofs.levels.Search.{ends, place-found}
use Rattle.book.proofs.levels.Shifts.{places}
use Rattle.book.proofs.levels.place_of.Goals as goal

pub returns : goal.returns
returns c =
    let levels = c.args.side.levels in
    let found = position_from_yields_List (ends c.args.buying c.args.new.price) _ _ c.position.result c.position.ensures.ran (YieldsList-from_slice levels cc) (λ x b q k. search (rules, tests)) in
    place-found c.args.buying c.args.new.price levels _ (places c.args.side _ c.well_formed.0) found _ c.unwrap_or.ensures
