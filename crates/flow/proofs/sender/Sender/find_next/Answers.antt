use Rattle.flow.proofs.sender.Sends.{next-unknown}
use Rattle.flow.proofs.sender.Sender.find_next.Goals as goal

pub next_at-requires : goal.next_at-requires
next_at-requires c = rw c.in-Some.is at c.find.ensures

pub returns-in_default : goal.returns-in_default
returns-in_default c = next-unknown _ _ _ (rw c.in_default.is at c.find.ensures)
