use mathlib.Core.Path.{◌∙◌}
use Rattle.ftd.proofs.parts.Across.{size_none, size-short, size-whole}
use Rattle.ftd.proofs.parts.size_across.Goals as goal

pub returns-then-len-lt6 : goal.returns-then-len-lt6
returns-then-len-lt6 c =
    size_none c.args.head.now c.args.tail.now c.args.len c.requires c.if-len-lt6.true

pub returns-then-len-n : goal.returns-then-len-n
returns-then-len-n c =
    size-short c.args.head.now c.args.tail.now c.args.len c.requires c.size8.result c.size8-2.result
    (c.size8.ensures.0 ∙ c.byte_of.ensures) (c.size8-2.ensures.0 ∙ c.byte_of-2.ensures)
    c.if-len-n.true

pub returns : goal.returns
returns c =
    size-whole c.args.head.now c.args.tail.now c.args.len c.requires c.size8.result c.size8-2.result
    (c.size8.ensures.0 ∙ c.byte_of.ensures) (c.size8-2.ensures.0 ∙ c.byte_of-2.ensures)
    c.if-len-n.false
