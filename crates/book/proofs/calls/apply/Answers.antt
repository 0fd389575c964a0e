use Rattle.book.proofs.calls.Steps.{applied-nothing, applied-quotation, applied-match}
use Rattle.book.proofs.calls.apply.Goals as goal

pub apply_match-requires : goal.apply_match-requires
apply_match-requires c = rw c.in-Match.is at c.requires

pub returns-in-Nothing : goal.returns-in-Nothing
returns-in-Nothing c = applied-nothing _ _ c.in-Nothing.is

pub returns-in-Quotation : goal.returns-in-Quotation
returns-in-Quotation c = applied-quotation _ _ _ _ _ c.in-Quotation.is _ c.apply_quotation.ensures

pub returns-in-Match : goal.returns-in-Match
returns-in-Match c = applied-match _ _ _ c.in-Match.is _ c.apply_match.ensures
