-- Every piece counted (02, No. 10): what the packets on the line bear, and how far pieces are counted. That the line may
-- lose, repeat and reorder single packets is demand 3 (Agreement): its first half has no condition on what is received.
use Rattle.std.specs.Prelude.{ℕ, ◌+◌, ◌<◌, ◌≤◌, ◌≡◌, ◌↔◌, List, [], ◌∷◌, ◌++◌, Bool, true, false, cond, not, ◌&&◌, length, take, T, ltb, eqb}
use Rattle.std.proofs.Math.Option.{some}
use Rattle.std.proofs.Math.ListN.{get_elem?}
use Rattle.ftd.specs.Tags.{good_tags}
use Rattle.ftd.specs.Bytes.{bytes16, bytes32}
use Rattle.ftd.specs.Packet.{extension_of, not_one_packet, dated_of}
use Rattle.ftd.specs.Chain.{packets_of}
use Rattle.ftd.specs.Bench.{BenchRow, bench_row, all_same}
use Rattle.ftd.specs.declared.refusal.Refusal.TheVariants.{NotOnePacket, BrokenChain}
use Rattle.ftd.specs.declared.packet.Span.{Span}
use Rattle.ftd.specs.declared.packet.Chain.{Chain}
use Rattle.ftd.specs.declared.packet.Chain.TheVariants.{Single, First, Middle, Last}
use Rattle.ftd.specs.declared.packet.Header.{Header}
use Rattle.ftd.specs.declared.packet.Packet.TheVariants.{Message}
use Rattle.flow.specs.declared.receiver.Receiver.{Receiver}
use Rattle.flow.specs.declared.receiver.Received.{Received}
use Rattle.flow.specs.declared.receiver.Received.TheVariants.{Partial, Refused}
use Rattle.flow.specs.Ends.{◌when◌else◌, Wrote, wrote, most_messages, most_pieces, differs, is_open, kept_of, live_of, last_of}
use Rattle.flow.specs.Answers.{Message as Published}
use Rattle.flow.specs.Receiving.{misplaced, one_more, receive_read, receive_of}
use Rattle.flow.specs.World.{Event, open_sender, publish, login, send, send_packet, open_receiver, request_login}
use Rattle.flow.specs.World.{confirm_login, receive, Transmission, World, start, run}
use Rattle.flow.specs.Agreement.{published_on}
use Rattle.flow.specs.PacketByPacket.{headed_at}
use Rattle.flow.specs.Bench.{tid, note, space, req_login, rsp_login}
use Rattle.std.specs.Prelude.{Some, None}

-- ─── An example ───

-- The receiving end's last number, whether a chain is open and how many pieces it has counted; how many messages were
-- handed on, and how many deliveries there were (the login's answer is the first).
abbrev pub held_now : World → List ℕ
held_now w =
    let live = live_of w.receiving.end 1 in
    last_of w.receiving.end 1
    ∷ cond live.chain 1 0
    ∷ live.pieces
    ∷ length w.receiving.handed
    ∷ length w.receiving.delivered
    ∷ []

-- A message of four packets, F, C, C, L, is published; the receiving end logs in; it is sent.
abbrev pub four_packets : List Event
four_packets =
    open_sender 7 (1 ∷ []) (0 ∷ [])
    ∷ open_receiver (1 ∷ [])
    ∷ publish 1 tid (note 1 2100 ++ (note 2 2100 ++ (note 3 2100 ++ note 4 2100)))
    ∷ request_login 1 req_login (space 200)
    ∷ login 1 0 rsp_login (space 200)
    ∷ confirm_login 0
    ∷ []

abbrev pub after : List Event → World
after es = run (start (space 8500) (space 32768)) (four_packets ++ es)

-- An extension passes the check of tags.
abbrev pub passes : List ℕ → List ℕ
passes l = cond (good_tags l) 1 0 ∷ []

abbrev pub example_rows : List BenchRow
example_rows =
    -- all four, in a run
    bench_row 1
    (held_now (after (send 1 (space 8600) ∷ receive 0 0 ∷ receive 0 1 ∷ receive 0 2 ∷ receive 0 3 ∷ [])))
    (1 ∷ 0 ∷ 0 ∷ 1 ∷ 2 ∷ [])
    -- both middle ones lost: L is 17, and the chain is gone
    ∷ bench_row 2 (held_now (after (send 1 (space 8600) ∷ receive 0 0 ∷ receive 0 3 ∷ []))) (0 ∷ 0 ∷ 0 ∷ 0 ∷ 1 ∷ [])
    -- one comes again in between: 17 from there on
    ∷ bench_row 3
    (held_now
    (after (send 1 (space 8600) ∷ receive 0 0 ∷ receive 0 1 ∷ receive 0 1 ∷ receive 0 2 ∷ receive 0 3 ∷ [])))
    (0 ∷ 0 ∷ 0 ∷ 0 ∷ 1 ∷ [])
    -- F again replaces the chain
    ∷ bench_row 4
    (held_now (after (send 1 (space 8600) ∷ receive 0 0 ∷ receive 0 1 ∷ receive 0 0 ∷ []))) (0 ∷ 1 ∷ 1 ∷ 0 ∷ 1 ∷ [])
    -- pieces of two transmissions, one of them broken off: the message is handed on, though no run brought it
    ∷ bench_row 5
    (held_now
    (after
    (send_packet 1 (space 4110)
    ∷ send 1 (space 8600)
    ∷ receive 0 0
    ∷ receive 1 1
    ∷ receive 1 2
    ∷ receive 1 3
    ∷ []))) (1 ∷ 0 ∷ 0 ∷ 1 ∷ 1 ∷ [])
    -- tags: 0x70 of two bytes; of three; twice; beside a trade date, in either order
    ∷ bench_row 6 (passes (112 ∷ 2 ∷ 0 ∷ 7 ∷ [])) (1 ∷ [])
    ∷ bench_row 7 (passes (112 ∷ 3 ∷ 0 ∷ 0 ∷ 7 ∷ [])) (0 ∷ [])
    ∷ bench_row 8 (passes (112 ∷ 2 ∷ 0 ∷ 7 ∷ 112 ∷ 2 ∷ 0 ∷ 7 ∷ [])) (0 ∷ [])
    ∷ bench_row 9 (passes (112 ∷ 2 ∷ 0 ∷ 7 ∷ 5 ∷ 4 ∷ 0 ∷ 0 ∷ 0 ∷ 7 ∷ [])) (1 ∷ [])
    ∷ []

-- ─── What a packet bears ───

-- Packet j of a transmission: the message was published on this day, and the extension is trade date and place, nothing
-- else.
pub record Tagged (w : World) (t : Transmission) (j : ℕ) (p : List ℕ) : Type 0 where
  pub day : ℕ
  pub place : ℕ
  pub message : Published
  pub published : get_elem? (published_on w t.series day) place ≡ some message
  pub first : t.packets
      ≡ take (length t.packets) (packets_of (headed_at t.series day place message) message.content)
  pub extension : extension_of p ≡ 0x05 ∷ 4 ∷ (bytes32 day ++ (0x70 ∷ 2 ∷ bytes16 j))

-- ─── Receive, of any end ───

-- The pieces held before a packet, by its letter: none before S and F; those that the chain has counted before C and L.
abbrev pub held_before : Receiver → Header → Chain → ℕ
held_before e h Single = 0
held_before e h First = 0
held_before e h Middle = (live_of e h.series).pieces
held_before e h Last = (live_of e h.series).pieces

-- C or L.
abbrev pub goes_on : Chain → Bool
goes_on Single = false
goes_on First = false
goes_on Middle = true
goes_on Last = true

-- Bytes p are a message packet with header h that passes 12 to 16, with the number behind the last one.
pub record InLine (e : Receiver) (p : List ℕ) (h : Header) : Type 0 where
  pub one : not_one_packet p ≡ false
  pub extension : Span
  pub content : Span
  pub read : (dated_of p).packet ≡ Message h extension content
  pub open-series : is_open e h.series ≡ true
  pub login : (live_of e h.series).login ≡ true
  pub day : differs (dated_of p).date (kept_of e h.series).date ≡ false
  pub number : h.number ≡ (kept_of e h.series).last + 1
  pub few : h.number ≤ most_messages

-- Of end e, f has no chain in series s, and everything else as it was.
pub record ChainDropped (e f : Receiver) (s : ℕ) : Type 0 where
  pub opens : (t : ℕ) → is_open f t ≡ is_open e t
  pub dates : (t : ℕ) → (kept_of f t).date ≡ (kept_of e t).date
  pub lasts : (t : ℕ) → (kept_of f t).last ≡ (kept_of e t).last
  pub chain : live_of f s ≡ record { login = true; chain = false; tid = 0; held = 0; pieces = 0 }
  pub others : (t : ℕ) → (t ≡ s → ⊥) → live_of f t ≡ live_of e t

-- Receive refuses 17, drops the chain of series s and leaves the buffer.
pub record Broken (e : Receiver) (p buffer : List ℕ) (s : ℕ) : Type 0 where
  pub answer : (receive_of e p buffer).answer ≡ Refused BrokenChain
  pub bytes : (receive_of e p buffer).bytes ≡ buffer
  pub dropped : ChainDropped e (receive_of e p buffer).end s

-- Receive of the same bytes as if they bore no place.
abbrev pub received_unplaced : Receiver → List ℕ → List ℕ → Wrote Receiver Received
received_unplaced e p buffer =
    wrote e (Refused NotOnePacket) buffer when not_one_packet p else
    receive_read e p buffer (dated_of p).date None (dated_of p).packet

-- ─── The statement ───

pub record EveryPiece : Type 0 where
  -- Packet j of a transmission, whichever Send wrote it, bears place j.
  pub placed : (log buffer : List ℕ) (es : List Event) (i j : ℕ) (t : Transmission) (p : List ℕ)
      → get_elem? (run (start log buffer) es).serving.transmissions i ≡ some t → get_elem? t.packets j ≡ some p
      → (dated_of p).place ≡ Some j
  -- And its extension is the trade date and that place.
  pub tagged : (log buffer : List ℕ) (es : List Event) (i j : ℕ) (t : Transmission) (p : List ℕ)
      → get_elem? (run (start log buffer) es).serving.transmissions i ≡ some t → get_elem? t.packets j ≡ some p
      → Tagged (run (start log buffer) es) t j p
  -- A place other than the count of the pieces held, 0 for S and F, is 17, whatever the buffer; the chain is dropped, and
  -- nothing else changed.
  pub compared : (e : Receiver) (p buffer : List ℕ) (h : Header) (j : ℕ) → InLine e p h → (dated_of p).place ≡ Some j
      → (j ≡ held_before e h h.chain → ⊥) → Broken e p buffer h.series
  -- Without a place, with one that agrees, or for the numbers 1 to last, Receive does as if there were no place.
  pub unplaced : (e : Receiver) (p buffer : List ℕ) → (dated_of p).place ≡ None
      → receive_of e p buffer ≡ received_unplaced e p buffer
  pub agreeing : (e : Receiver) (p buffer : List ℕ) (h : Header) (extension c : Span)
      → (dated_of p).packet ≡ Message h extension c → (dated_of p).place ≡ Some (held_before e h h.chain)
      → receive_of e p buffer ≡ received_unplaced e p buffer
  pub repeated : (e : Receiver) (p buffer : List ℕ) (h : Header) (extension c : Span)
      → (dated_of p).packet ≡ Message h extension c → h.number ≤ (kept_of e h.series).last
      → receive_of e p buffer ≡ received_unplaced e p buffer
  -- And then 17 is as it was before No. 10: C or L without an open chain of the same TID.
  pub as_before : (e : Receiver) (p buffer : List ℕ) (h : Header) → InLine e p h → (dated_of p).place ≡ None
      → ((receive_of e p buffer).answer ≡ Refused BrokenChain)
      ↔ ((goes_on h.chain && not ((live_of e h.series).chain && eqb (live_of e h.series).tid h.tid)) ≡ true)
  -- A piece that is held is counted, up to 65,536.
  pub counts : (e : Receiver) (p buffer : List ℕ) (h : Header) (last : ℕ) → InLine e p h
      → (receive_of e p buffer).answer ≡ Partial last
      → (live_of (receive_of e p buffer).end h.series).pieces
      ≡ cond (ltb (held_before e h h.chain) 65536) (held_before e h h.chain + 1) 65536
  -- A chain that has counted so many goes on with no C or L that bears a place (of two bytes).
  pub full : (e : Receiver) (p buffer : List ℕ) (h : Header) (j : ℕ) → InLine e p h → (dated_of p).place ≡ Some j
      → j < 65536 → goes_on h.chain ≡ true → (live_of e h.series).pieces ≡ 65536 → Broken e p buffer h.series
  -- The count stops at 65,536, and from there on no place of two bytes agrees.
  pub stops : one_more most_pieces ≡ most_pieces
  pub none-agrees : (j : ℕ) → j < 65536 → misplaced (Some j) most_pieces ≡ true
  -- It is not empty: the example's numbers are these.
  pub example : T (all_same example_rows)
