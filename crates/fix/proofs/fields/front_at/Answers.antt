use Rattle.fix.proofs.fields.Fronts.{front-open, front-other, front-tagged, at-inside}
use borrow.Author.Rules.{rules}
use Rattle.fix.proofs.fields.front_at.Goals as goal

pub returns-then-s-at : goal.returns-then-s-at
returns-then-s-at c = (search (rules, front-open), tt)

pub returns-in_err-tag : goal.returns-in_err-tag
returns-in_err-tag c = search (rules, front-other)

pub returns : goal.returns
returns c =
    let e = front-tagged c.args.last c.args.s.now c.args.at _ c.until-e.ensures.0 c.if-s-at.false _
    c.plain_in.ensures.0 _ c.in_ok-tag.was _ c.text_length.ensures _
    c.closed_at.ensures in
    (e, at-inside c.args.last c.args.s.now c.args.at _ e)
