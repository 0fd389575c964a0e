use borrow.Author.Rules.{rules}
use Rattle.ftd.proofs.Tests.{tests}
use Rattle.fix.specs.Frame.{outline_of}
use Rattle.fix.proofs.frame.Puts.{right-begin, other-begin}
use Rattle.fix.proofs.frame.outline_of.Goals as goal
use Rattle.fix.proofs.frame.outline_of.Goals.{then-b-gt-MOST_FRAME-via-then-b-gt-MOST_FRAME}
use Rattle.fix.proofs.frame.outline_of.Goals.{then-b-gt-MOST_FRAME-via-else-b-gt-MOST_FRAME+then-not-begins_frame}

pub returns-then-b-gt-MOST_FRAME : goal.returns-then-b-gt-MOST_FRAME
unfolding outline_of
returns-then-b-gt-MOST_FRAME c =
    elim c.then-b-gt-MOST_FRAME.branch [
      | then-b-gt-MOST_FRAME-via-then-b-gt-MOST_FRAME w ↦ (search tests, tt)
      | then-b-gt-MOST_FRAME-via-else-b-gt-MOST_FRAME+then-not-begins_frame w ↦ (search (rules, other-begin), tt)
    ]

pub returns : goal.returns
returns c = (search (rules, right-begin), search rules)
