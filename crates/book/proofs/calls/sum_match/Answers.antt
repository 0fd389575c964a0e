use Rattle.book.proofs.calls.Steps.{match-over, match-both}
use Rattle.book.proofs.calls.sum_match.Goals as goal

pub returns-in_default : goal.returns-in_default
returns-in_default c = match-over c.args.book c.args.offer _ c.add_match.ensures c.in_default.is _ c.refused.ensures

pub returns : goal.returns
returns c = match-both c.args.book c.args.offer _ c.add_match.ensures _ c.in-Some.is _ c.take_match.ensures
