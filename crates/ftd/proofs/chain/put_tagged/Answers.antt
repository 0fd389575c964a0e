use mathlib.Core.Path.{sym, ◌∙◌}
use native.Mathlib.Omega.{arith}
use Rattle.ftd.proofs.chain.Pieces.{tags-long}
use Rattle.ftd.proofs.write.Puts.{message-put}
use borrow.Author.Rules.{rules}
use Rattle.ftd.proofs.chain.put_tagged.Goals as goal

pub put_head-requires : goal.put_head-requires
put_head-requires c =
    let t = tags-long c.args.m c.args.j in
    (omega (arith, t, c.message_tags-n.ensures.0, c.requires.0), omega (arith, c.message_tags-n.ensures.1), c.requires.1)

pub copy_at-requires : goal.copy_at-requires
copy_at-requires c =
    let t = tags-long c.args.m c.args.j in
    search rules

pub returns : goal.returns
returns c =
    let e = c.message_tags-n.ensures.0 ∙ sym (tags-long c.args.m c.args.j) in
    message-put _ _ _ _ _ _ _ _ (omega (arith, c.requires.0)) (rw e at c.put_head.ensures) c.put_message_tags.ensures
    (rw e at c.copy_at.ensures)
