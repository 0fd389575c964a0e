use Rattle.ftd.proofs.chain.Tagging.{size-counted, size-uncounted}
use Rattle.ftd.proofs.chain.message_tags.Goals as goal

pub returns-then-m : goal.returns-then-m
returns-then-m c =
    size-counted c.args.m _ c.tags_len-n.ensures.0 c.tags_len-n.ensures.1
    c.if-m.true

pub returns : goal.returns
returns c =
    size-uncounted c.args.m _ c.tags_len-n.ensures.0 c.tags_len-n.ensures.1
    c.if-m.false
