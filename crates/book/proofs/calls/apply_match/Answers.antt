use Rattle.book.proofs.calls.Steps.{takes-done, match-refused, match-taken}
use Rattle.book.proofs.calls.apply_match.Goals as goal

pub sum_match-requires : goal.sum_match-requires
sum_match-requires c = (c.requires, takes-done c.args.book c.args.offer _ c.check_match.ensures.1 c.in_default.is)

pub returns-in-Err : goal.returns-in-Err
returns-in-Err c = match-refused c.args.book c.args.offer _ c.check_match.ensures.0 _ _ c.in-Err.is c.refused.ensures

pub returns : goal.returns
returns c = match-taken c.args.book c.args.offer _ c.check_match.ensures.0 _ c.in_default.is c.sum_match.ensures
