-- What a single call comes to, of any end: the fields of `PacketByPacket`, `EveryPiece` and `Shares` that speak of single
-- calls.
pub mod Packets
pub mod Pieces
pub mod Accounts
