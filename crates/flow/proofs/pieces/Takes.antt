-- Receive of packet j of a message: what it comes to, and what it leaves held. Assumes nothing.
use Prim.Native.Nat.{ℕ, suc, ◌+◌, ◌<◌}
use native.Mathlib.Omega.{arith}
use mathlib.Core.Path.{◌≡◌, refl, ap, ◌∙◌}
use mathlib.Core.List.{List, [], ◌∷◌}
use mathlib.Core.Bool.{true}
use mathlib.Core.Option.{some}
use lib.ListN.{length, get_elem?}
use lib.Dec.{eqb}
use Rattle.ftd.specs.Bytes.{part}
use Rattle.ftd.specs.Packet.{dated_of}
use Rattle.ftd.specs.Chain.{pieces_of, chain_at, header_for, packets_of}
use Rattle.ftd.specs.Fields.{shaped, most_content}
use Rattle.ftd.specs.Chain.Laws.{piece_at_place}
use Rattle.ftd.specs.Chain.Laws.{packet_at_place as packet_at}
use Rattle.ftd.proofs.chain.Laws.{chain_laws}
use Rattle.ftd.proofs.chain.Pieces.{shaped-facts}
use Rattle.ftd.specs.declared.chain.Message.{Message as Headed}
use Rattle.ftd.specs.declared.packet.Dated.{Dated}
use Rattle.flow.specs.declared.receiver.Receiver.{Receiver}
use Rattle.flow.specs.Answers.{received_said, message_in, report_in}
use Rattle.flow.specs.Receiving.{receive_of}
use Rattle.flow.specs.World.{series_in}
use Rattle.flow.proofs.ends.ReceiverLookups.{Eight}
use Rattle.flow.proofs.calls.Receive.{Took, receive-with, Next}
use Rattle.flow.proofs.packets.Messages.{header_at, span_at, packet-piece, packet-dated, packet-received}
use Rattle.flow.proofs.pieces.Chained.{Chain-open, Holding, took-holding}
use Rattle.flow.proofs.pieces.Outcomes.{Delivered, took-delivered}
use Rattle.flow.proofs.pieces.Completes.{Wants, took-opens, took-completes}
use Rattle.flow.proofs.packets.Genuine.{headed}
use Rattle.flow.proofs.common.Extends.{place_inside, place-get_d}
use Rattle.flow.proofs.pieces.Others.{Elsewhere, took-elsewhere}
use Rattle.flow.specs.Ends.{kept_of, live_of, most_pieces}
use Rattle.flow.proofs.common.Days.{day-same}
use Rattle.std.specs.Prelude.{Some}

-- p is packet j of the message of series s, TID t, number k and day d with content c.
pub record PacketAt (s t k d : ℕ) (c : List ℕ) (j : ℕ) (p : List ℕ) : Type 0 where
  pub good : shaped c most_content ≡ true
  pub here : get_elem? (packets_of (headed s t k d) c) j ≡ some p

-- Where it is the next piece, by number and by the count of pieces held, a chain holds the pieces before it.
pub record Before (e : Receiver) (buffer : List ℕ) (s t k d : ℕ) (c : List ℕ) (j : ℕ) : Type 0 where
  pub held : 0 < j → (kept_of e s).date ≡ Some d → k ≡ (kept_of e s).last + 1 → (live_of e s).pieces ≡ j
      → Holding e buffer s t k d c j

-- In a run, a chain holds the pieces before it, whatever its count; and there is a chain where the end is ready for the
-- message.
pub record Running (e : Receiver) (buffer : List ℕ) (s t k d : ℕ) (c : List ℕ) (j : ℕ) : Type 0 where
  pub held : 0 < j → Holding e buffer s t k d c j
  pub opens : 0 < j → Wants e buffer s k d → Chain-open e s

pub running-before : {e : Receiver} {buffer : List ℕ} {s t k d : ℕ} {c : List ℕ} {j : ℕ}
    → Running e buffer s t k d c j → Before e buffer s t k d c j
running-before r = record { held = λ l a b q. r.held l }

module _ {s t k d : ℕ} {c : List ℕ} {j : ℕ} {p : List ℕ} (at : PacketAt s t k d c j p) where
  abbrev m : Headed
  m = headed s t k d

  inside : j < length (packets_of m c)
  inside = place_inside (packets_of m c) j p at.here

  pub take_within : j < length (pieces_of c)
  take_within = rw (chain_laws.as_many m c).0 at inside

  is : packet_at m c j ≡ p
  is = place-get_d (packets_of m c) j p [] at.here

  -- Its series, trade date and place are read back.
  pub take-series : series_in (dated_of p).packet ≡ s
  unfolding header_for
  take-series = rw (← is) (ap (λ (x : Dated). series_in x.packet) (packet-dated m c j inside most_content at.good))

  pub take-date : (dated_of p).date ≡ Some d
  take-date = rw (← is) (ap (λ (x : Dated). x.date) (packet-dated m c j inside most_content at.good))

  pub take-place : (dated_of p).place ≡ Some j
  take-place = rw (← is) (ap (λ (x : Dated). x.place) (packet-dated m c j inside most_content at.good))

  took : (e : Receiver) (buffer : List ℕ)
      → Took e (header_at m c j inside) (Some d) (Some j) (span_at m c j inside) (piece_at_place c j).bytes buffer
      (receive_of e p buffer)
  took e buffer =
      rw (← is)
      (rw (packet-received m c j inside most_content at.good e buffer)
      (receive-with e (header_at m c j inside) (Some d) (Some j) (span_at m c j inside) (piece_at_place c j).bytes buffer))

  piece : part p (span_at m c j inside).start (span_at m c j inside).len ≡ (piece_at_place c j).bytes
  piece = rw is at (packet-piece m c j inside)

  letter : (header_at m c j inside).chain ≡ chain_at (eqb j 0) (eqb (j + 1) (length (pieces_of c)))
  unfolding header_for
  letter = ap (λ (n : ℕ). chain_at (eqb j 0) (eqb (j + 1) n)) (chain_laws.as_many m c).0

  -- No message has more pieces than are counted.
  pub take-low : j < most_pieces
  take-low =
      let few = chain_laws.few c (shaped-facts c most_content (shaped c most_content) refl at.good).0 in
      let i = take_within in
      omega arith

  -- Received by an end in any state, with any buffer.
  module _ (e : Receiver) (eight : Eight e) (buffer : List ℕ) where
    -- Another series' part of the buffer, chain, trade date and last stay.
    pub take-elsewhere : (u : ℕ) → (u ≡ s → ⊥)
        → Elsewhere e buffer (receive_of e p buffer).end (receive_of e p buffer).bytes u
    unfolding header_for
    take-elsewhere u n =
        took-elsewhere e eight (header_at m c j inside) (Some d) (Some j) (span_at m c j inside) (piece_at_place c j).bytes buffer
        (receive_of e p buffer) (took e buffer) u n

    module _ (before : Before e buffer s t k d c j) where
      held : 0 < j → Next e (header_at m c j inside) (Some d) → (live_of e s).pieces ≡ j → Holding e buffer s t k d c j
      unfolding header_for
      held l n = before.held l (day-same d (kept_of e s).date n.day) n.number

      -- One more piece is held, if a chain is there at all.
      pub take-holds : Holding (receive_of e p buffer).end (receive_of e p buffer).bytes s t k d c (suc j)
      unfolding header_for
      take-holds =
          took-holding e eight (header_at m c j inside) d (span_at m c j inside) buffer c j letter take_within take-low
          held (receive_of e p buffer) (took e buffer)

      pub take-delivers :
          let r = receive_of e p buffer in
          Delivered e s d k (record { tid = t; content = c }) r.end
          (message_in (received_said p r.bytes r.answer)) (report_in (received_said p r.bytes r.answer))
      unfolding header_for
      take-delivers =
          took-delivered e eight (header_at m c j inside) d (span_at m c j inside) p buffer c most_content j at.good
          letter take_within piece take-low held (receive_of e p buffer) (took e buffer)

    module _ (run : Running e buffer s t k d c j) where
      held-before : 0 < j → Next e (header_at m c j inside) (Some d) → Holding e buffer s t k d c j
      held-before l n = run.held l

      -- Where the end is still ready for the message, before its last packet, there is a chain.
      pub take-opens : suc j < length (pieces_of c)
          → Wants (receive_of e p buffer).end (receive_of e p buffer).bytes s k d
          → Chain-open (receive_of e p buffer).end s
      unfolding header_for
      take-opens l =
          took-opens e eight (header_at m c j inside) d (span_at m c j inside) p buffer c j at.good letter take_within
          take-low piece held-before run.opens (omega arith) (receive_of e p buffer)
          (took e buffer)

      -- The last packet hands it on where the end is ready for it.
      pub take-completes :
          let r = receive_of e p buffer in
          j + 1 ≡ length (packets_of m c) → Wants e buffer s k d
          → message_in (received_said p r.bytes r.answer) ≡ record { tid = t; content = c } ∷ []
      unfolding header_for
      take-completes n y =
          took-completes e eight (header_at m c j inside) d (span_at m c j inside) p buffer c j at.good letter
          take_within take-low piece held-before run.opens
          (n ∙ (chain_laws.as_many m c).0) y (receive_of e p buffer) (took e buffer)
