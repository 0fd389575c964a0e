use borrow.Author.Rules.{rules}
use Rattle.fix.proofs.read.Judging.{judge-fill, judge-reset, judge-other}
use Rattle.fix.proofs.read.judge.Goals as goal
use Rattle.fix.proofs.read.judge.Goals.{else-is_reset-via-then-is_reset+else-not-m, else-is_reset-via-else-is_reset}

pub returns-then-not-m : goal.returns-then-not-m
returns-then-not-m c = search (rules, judge-reset)

pub returns : goal.returns
returns c =
    elim c.else-is_reset.branch [
      | else-is_reset-via-then-is_reset+else-not-m w ↦ search (rules, judge-fill)
      | else-is_reset-via-else-is_reset w ↦ search (rules, judge-other)
    ]
