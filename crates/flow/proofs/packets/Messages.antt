-- What packet j of a message is to Receive: one packet, read back with header, trade date, place and
-- piece. Assumes nothing.
use Prim.Native.Nat.{ℕ, ◌+◌, ◌<◌}
use mathlib.Core.Path.{◌≡◌, ap, ◌∙◌}
use mathlib.Core.List.{List, [], append-nil}
use mathlib.Core.Bool.{true}
use lib.ListN.{length}
use Rattle.ftd.specs.Bytes.{part}
use Rattle.ftd.specs.Packet.{span, dated_of}
use Rattle.ftd.specs.Chain.{header_for, packets_of, tags_at}
use Rattle.ftd.specs.Tags.{extension_bytes}
use Rattle.ftd.specs.Fields.{shaped}
use Rattle.ftd.specs.Chain.Laws.{piece_at_place, packet_at_place, letter_at, place_for}
use Rattle.ftd.proofs.chain.Laws.{chain_laws}
use Rattle.ftd.specs.declared.chain.Message.{Message}
use Rattle.ftd.specs.declared.packet.Span.{Span}
use Rattle.ftd.specs.declared.packet.Header.{Header}
use Rattle.ftd.specs.declared.packet.Dated.{Dated}
use Rattle.ftd.specs.declared.packet.Packet.TheVariants.{Message as Accepted}
use Rattle.flow.specs.declared.receiver.Receiver.{Receiver}
use Rattle.flow.specs.Receiving.{receive_with, receive_read, receive_of}

module _ (m : Message) (c : List ℕ) (j : ℕ) (inside : j < length (packets_of m c)) where
  abbrev tags : ℕ
  tags = length (extension_bytes (tags_at m j))

  -- Its header, and where its piece lies.
  abbrev pub header_at : Header
  header_at = header_for m (letter_at m c j) (piece_at_place c j).count

  abbrev pub span_at : Span
  span_at = span (4 + tags + 16) (length (piece_at_place c j).bytes)

  pub packet-piece : part (packet_at_place m c j) span_at.start span_at.len ≡ (piece_at_place c j).bytes
  packet-piece = rw append-nil at (chain_laws.piece_back m c j [] inside)

  module _ (limit : ℕ) (good : shaped c limit ≡ true) where
    pub packet-dated : dated_of (packet_at_place m c j) ≡ record
        { packet = Accepted header_at (span 4 tags) span_at; date = m.date; place = place_for m j }
    packet-dated = rw append-nil at (chain_laws.dated-back m c limit j [] good inside)

    -- To Receive it is a message packet of the message's series, number and TID, with the letter of its place and its
    -- piece.
    pub packet-received : (e : Receiver) (buffer : List ℕ)
        → receive_of e (packet_at_place m c j) buffer ≡ receive_with e header_at m.date (place_for m j) span_at
        (piece_at_place c j).bytes buffer
    unfolding receive_of
    packet-received e buffer =
        rw (chain_laws.one-packet m c limit j good inside).0
        (ap (λ (d : Dated). receive_read e (packet_at_place m c j) buffer d.date d.place d.packet) packet-dated
        ∙ ap (λ (l : List ℕ). receive_with e header_at m.date (place_for m j) span_at l buffer) packet-piece)
