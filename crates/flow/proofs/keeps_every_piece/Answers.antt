use Rattle.flow.proofs.EveryPiece.{every-piece}
use Rattle.flow.proofs.keeps_every_piece.Goals as goal

pub returns : goal.returns
returns c = every-piece
