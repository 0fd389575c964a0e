use Rattle.fix.proofs.fields.Fronts.{closed_none, closed-here, closed-open, closed-short}
use borrow.Author.Rules.{rules}
use Rattle.fix.proofs.fields.closed_at.Goals as goal
use Rattle.fix.proofs.fields.closed_at.Goals.{then-n-eq0-via-then-n-eq0, then-n-eq0-via-else-n-eq0+then-s-at}
use Rattle.fix.proofs.fields.closed_at.Goals.{then-n-eq0-via-else-n-eq0+else-s-at+then-s-at-ne-SOH}

pub returns-then-n-eq0 : goal.returns-then-n-eq0
returns-then-n-eq0 c =
    elim c.then-n-eq0.branch [
      | then-n-eq0-via-then-n-eq0 w ↦ search (rules, closed_none)
      | then-n-eq0-via-else-n-eq0+then-s-at w ↦ search (rules, closed-short)
      | then-n-eq0-via-else-n-eq0+else-s-at+then-s-at-ne-SOH w ↦ search (rules, closed-open)
    ]

pub returns : goal.returns
returns c = search (rules, closed-here)
