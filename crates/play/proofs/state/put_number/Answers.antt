use borrow.Author.Rules.{rules}
use Rattle.play.proofs.state.Turns.{decimal-fits, decimal-end}
use Rattle.play.proofs.state.put_number.Goals as goal

pub put_decimal-requires : goal.put_decimal-requires
put_decimal-requires c = search (rules, decimal-fits)

pub returns : goal.returns
returns c = (search rules, search (rules, decimal-end))
