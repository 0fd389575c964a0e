use borrow.Author.Rules.{rules}
use Rattle.fix.proofs.read.Judging.{places-inside, read_none, read_some}
use Rattle.fix.proofs.read.read.Goals as goal

pub read_framed-requires : goal.read_framed-requires
read_framed-requires c =
    places-inside _ _ _ _ c.outline_of.ensures.1 c.in-Some.is

pub returns-in_default : goal.returns-in_default
returns-in_default c = search (rules, read_none)

pub returns : goal.returns
returns c = search (rules, read_some)
