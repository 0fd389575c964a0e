use borrow.Author.Rules.{rules}
use Rattle.fix.proofs.read.Judging.{number-wrong, tag-wrong, both_right, no_run}
use Rattle.fix.proofs.read.read_framed.Goals as goal
use Rattle.fix.proofs.read.read_framed.Goals.{then-not-w-via-then-not-w, then-not-w-via-else-not-w+then-numbers_wrong}

pub returns-then-not-w : goal.returns-then-not-w
returns-then-not-w c =
    elim c.then-not-w.branch [
      | then-not-w-via-then-not-w w ↦ search (rules, no_run)
      | then-not-w-via-else-not-w+then-numbers_wrong w ↦ search (rules, number-wrong)
    ]

pub returns-then-tags_wrong : goal.returns-then-tags_wrong
returns-then-tags_wrong c = search (rules, tag-wrong)

pub returns : goal.returns
returns c = search (rules, both_right)
