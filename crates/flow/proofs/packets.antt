-- Layer "packets read back": what an end makes of the bytes that the other end wrote.
pub mod Logins
pub mod Messages
pub mod Requests
pub mod Answers
pub mod Genuine
use Prim.Native.Nat.{ℕ, ◌<◌}
use mathlib.Core.Path.{◌≡◌}
use mathlib.Core.List.{List}
use mathlib.Core.Bool.{true}
use lib.ListN.{length}
use Rattle.ftd.specs.Chain.{packets_of}
use Rattle.ftd.specs.Fields.{shaped}
use Rattle.ftd.specs.Chain.Laws.{piece_at_place, packet_at_place, place_for}
use Rattle.ftd.specs.Login.{login_bytes}
use Rattle.ftd.specs.Types.{TradeDate}
use Rattle.ftd.specs.declared.chain.Message.{Message as Headed}
use Rattle.flow.specs.declared.sender.Sender.{Sender}
use Rattle.flow.specs.declared.receiver.Receiver.{Receiver}
use Rattle.flow.specs.Serving.{login_of}
use Rattle.flow.specs.Receiving.{confirm_login_of, receive_with, receive_of}
use Rattle.flow.proofs.packets.Requests.{full_of, Asking, login_by_ask, login-by-ask}
use Rattle.flow.proofs.packets.Answers.{Answering, confirm_by_login, confirm-by-login}
use Rattle.flow.proofs.packets.Messages.{header_at, span_at, packet-received}

pub record PacketLaws : Type 0 where
  -- Ask's packet, read by Login at any serving end: of the row of tests those of the answer's content, the series, the
  -- days, the output and the start are left (`login_by_ask`).
  pub request : (s next : ℕ) (date : TradeDate) (c : List ℕ) → Asking s next c
      → (e : Sender) (t : ℕ) (content out : List ℕ)
      → login_of e t (login_bytes date (full_of s next c)) content out ≡ login_by_ask e t s date next content out
  -- Login's answer, read by Answer at any receiving end: 13 and 15 are left (`confirm_by_login`).
  pub answer : (date : TradeDate) (content : List ℕ) → Answering content → (r : Receiver) (s : ℕ)
      → confirm_login_of r s (login_bytes date content) ≡ confirm_by_login r s date
  -- Packet j of a message, read by Receive at any receiving end: series, number and TID of the message, the letter of
  -- its place, the place itself where the packets are counted, its piece.
  pub message : (m : Headed) (c : List ℕ) (j : ℕ) (inside : j < length (packets_of m c)) (limit : ℕ)
      → shaped c limit ≡ true → (e : Receiver) (buffer : List ℕ)
      → receive_of e (packet_at_place m c j) buffer ≡ receive_with e (header_at m c j inside) m.date (place_for m j)
      (span_at m c j inside) (piece_at_place c j).bytes buffer

pub packet-laws : PacketLaws
packet-laws = record { request = login-by-ask; answer = confirm-by-login; message = packet-received }
