use borrow.Author.Rules.{rules}
use Rattle.flow.proofs.receive.Rows.{piece-wrong, piece-single, piece-first, piece-middle, piece-last}
use Rattle.flow.proofs.receive.take_piece.Goals as goal

pub returns-then-wrong_piece : goal.returns-then-wrong_piece
returns-then-wrong_piece c = search (rules, piece-wrong)

pub returns-in-Single : goal.returns-in-Single
returns-in-Single c = search (rules, piece-single)

pub returns-in-First : goal.returns-in-First
returns-in-First c = search (rules, piece-first)

pub returns-in-Middle : goal.returns-in-Middle
returns-in-Middle c = search (rules, piece-middle)

pub returns-in-Last : goal.returns-in-Last
returns-in-Last c = search (rules, piece-last)
