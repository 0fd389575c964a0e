use borrow.Author.Rules.{rules}
use Rattle.ftd.proofs.mode.Ranges.{in-private, in-broadcast, in-management, is-management, in-low, in-mid}
use Rattle.ftd.proofs.mode.Ranges.{is-dialog, no-tid, gap-low, gap-mid, gap-high, past_all}
use Rattle.ftd.proofs.mode.mode_of.Goals as goal

pub returns-in-24 : goal.returns-in-24
returns-in-24 c = search (rules, is-dialog)

pub returns-in-1-to-14 : goal.returns-in-1-to-14
returns-in-1-to-14 c = search (rules, in-low)

pub returns-in-18-to-21 : goal.returns-in-18-to-21
returns-in-18-to-21 c = search (rules, in-mid)

pub returns-in-4097-to-4099 : goal.returns-in-4097-to-4099
returns-in-4097-to-4099 c = search (rules, in-private)

pub returns-in-8193-to-8199 : goal.returns-in-8193-to-8199
returns-in-8193-to-8199 c = search (rules, in-broadcast)

pub returns-in_default : goal.returns-in_default
returns-in_default c = search (rules, no-tid)

pub returns-in_default-2 : goal.returns-in_default-2
returns-in_default-2 c = search (rules, gap-low)

pub returns-in_default-3 : goal.returns-in_default-3
returns-in_default-3 c = search (rules, gap-mid)

pub returns-in_default-4 : goal.returns-in_default-4
returns-in_default-4 c = search (rules, gap-high)

pub returns-in_default-5 : goal.returns-in_default-5
returns-in_default-5 c = search (rules, past_all)

pub returns-in-22 : goal.returns-in-22
returns-in-22 c = search (rules, is-management)

pub returns-in-22-2 : goal.returns-in-22-2
returns-in-22-2 c = search (rules, in-management)
