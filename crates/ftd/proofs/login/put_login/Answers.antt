use native.Mathlib.Omega.{arith}
use Rattle.ftd.proofs.login.Writes.{login-put}
use Rattle.ftd.proofs.login.put_login.Goals as goal

pub returns : goal.returns
returns c =
    login-put _ _ _ _ _ c.args.date _ c.args.ending _ _ c.args.fields c.tags_len-n.ensures.0
    c.ending_len.ensures.0
    c.requires.2 c.requires.3 (omega arith)
    c.put_head.ensures c.put_tags.ensures c.copy_at.ensures c.put_ending.ensures
