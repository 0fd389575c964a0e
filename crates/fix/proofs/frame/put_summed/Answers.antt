use borrow.Author.Rules.{rules}
use Rattle.fix.specs.Frame.{body_length}
use Rattle.fix.proofs.frame.Puts.{summed-put}
use Rattle.fix.proofs.frame.put_summed.Goals as goal

pub put_body-requires : goal.put_body-requires
unfolding body_length
put_body-requires c = search rules

pub returns : goal.returns
returns c =
    summed-put _ _ _ _ _ _ _ _ (search rules) (search rules) c.copy_at.ensures c.put_length.ensures c.put_body.ensures
