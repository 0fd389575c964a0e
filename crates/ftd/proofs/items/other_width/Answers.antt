use borrow.Author.Rules.{rules}
use Rattle.ftd.proofs.items.Walk.{width-unknown, width-empty, width-known}
use Rattle.ftd.proofs.items.other_width.Goals as goal

pub returns-then-fid-gt-LAST_FID : goal.returns-then-fid-gt-LAST_FID
returns-then-fid-gt-LAST_FID c = search (rules, width-unknown)

pub returns-then-count_of-ne0 : goal.returns-then-count_of-ne0
returns-then-count_of-ne0 c = search (rules, width-known)

pub returns-else-count_of-ne0 : goal.returns-else-count_of-ne0
returns-else-count_of-ne0 c = search (rules, width-empty)
