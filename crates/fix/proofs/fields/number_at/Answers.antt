use borrow.Author.Rules.{rules}
use Rattle.fix.proofs.fields.Turns.{number-chained}
use Rattle.fix.proofs.fields.number_at.Goals as goal

pub returns : goal.returns
returns c =
    number-chained c.args.run.now c.args.tag c.first_field.result c.first_field.ensures.0 _
    (λ q. rw q at c.and_then.ensures)
    (λ found q. let w = rw q at c.and_then.ensures in search rules)
    _ c.unwrap_or.ensures
