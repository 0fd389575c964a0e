use borrow.Author.Rules.{rules}
use Rattle.ftd.proofs.signed.Powers.{first-bound, second-bound, parts-units}
use Rattle.ftd.proofs.signed.units.Goals as goal

pub digits-requires : goal.digits-requires
digits-requires c = (search rules, search rules, search (rules, first-bound))

pub digits-requires-2 : goal.digits-requires-2
digits-requires-2 c = (search rules, search rules, search (rules, second-bound))

pub returns : goal.returns
returns c = search (rules, parts-units)
