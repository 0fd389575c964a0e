use native.Mathlib.Omega.{arith}
use borrow.Author.Rules.{rules}
use Rattle.fix.proofs.frame.Puts.{body-put}
use Rattle.fix.proofs.frame.put_body.Goals as goal

pub returns : goal.returns
returns c =
    body-put _ _ _ _ _ _ _ _ _ (omega arith) (search rules) c.put_type.ensures c.copy_at.ensures c.put8.ensures
    c.copy_at-2.ensures
