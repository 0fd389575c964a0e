use mathlib.Core.Path.{refl}
use Rattle.flow.proofs.sender.Sends.{piece-few, piece_sent, piece-none, piece-small}
use Rattle.flow.proofs.sender.Sender.send_piece.Goals as goal

pub after_packet-requires : goal.after_packet-requires
after_packet-requires c = (
  c.requires.1,
  piece-few _ _ _ _ _ c.requires _ c.message_of-m.ensures _ _ _ refl _ c.write_packet.ensures.answer
      c.write_packet.ensures.output _ _ (rw c.in-Ok-Some.field-0-is at c.in-Ok-Some.is),
)

pub returns-in-Ok-Some : goal.returns-in-Ok-Some
returns-in-Ok-Some c =
    piece_sent _ _ _ _ _ c.requires _ c.message_of-m.ensures _ _ _ refl _ c.write_packet.ensures.answer
    c.write_packet.ensures.output _ _ _ (rw c.in-Ok-Some.field-0-is at c.in-Ok-Some.is) c.after_packet.ensures

pub returns-in-Ok-None : goal.returns-in-Ok-None
returns-in-Ok-None c =
    piece-none _ _ _ _ _ c.requires _ c.message_of-m.ensures _ _ _ refl _ c.write_packet.ensures.answer
    c.write_packet.ensures.output (rw c.in-Ok-None.field-0-is at c.in-Ok-None.is)

pub returns-in-Err : goal.returns-in-Err
returns-in-Err c =
    piece-small _ _ _ _ _ c.requires _ c.message_of-m.ensures _ _ _ refl _ c.write_packet.ensures.answer
    c.write_packet.ensures.output _ c.in-Err.is
