use borrow.Author.Rules.{rules}
use Rattle.flow.proofs.receive.Pieces.{copy-there, copy_done, copy-none}
use Rattle.flow.proofs.receiver.copy_piece.Goals as goal

pub copy_at-requires : goal.copy_at-requires
copy_at-requires c = search (rules, copy-there)

pub returns-then-fits_at : goal.returns-then-fits_at
returns-then-fits_at c = search (rules, copy_done)

pub returns-else-fits_at : goal.returns-else-fits_at
returns-else-fits_at c = search (rules, copy-none)
