-- What Receive comes to, one case each, of any bytes and in any state. Assumes nothing.
use Prim.Native.Nat.{ℕ, ◌+◌, ◌<◌, ◌≤◌}
use native.Mathlib.Omega.{arith}
use mathlib.Core.Path.{◌≡◌, refl}
use mathlib.Core.List.{List}
use mathlib.Core.Logic.{◌⊎◌, inl, inr}
use mathlib.Core.Bool.{true, false, not, ◌&&◌, ◌||◌}
use borrow.Author.Tests.{ltb-false, leb-true, leb-false, eqb-true, not-true, not-false}
use lib.ListN.{length}
use lib.Dec.{ltb, leb, eqb}
use Rattle.ftd.specs.Fields.{most_content}
use Rattle.ftd.specs.Bytes.{part, put}
use Rattle.ftd.specs.Packet.{kind_of, body_length, head_missing, rest_missing, long_extension, wrong_body, is_skipped}
use Rattle.ftd.specs.Packet.{broken_tag, is_link, wrong_version, wrong_letter, wrong_content_length, wrong_fields, span}
use Rattle.ftd.specs.Packet.{accepted_of, message_of, whole_of, read_of, with_tags, dated_of, not_one_packet}
use Rattle.ftd.specs.Refusal.{number_of}
use Rattle.ftd.specs.declared.refusal.Refusal.{Refusal}
use Rattle.ftd.specs.declared.refusal.Refusal.TheVariants.{NotOnePacket, UnknownSeries, NotLoggedIn, OtherDay}
use Rattle.ftd.specs.declared.refusal.Refusal.TheVariants.{OutOfLine, BrokenChain, TooSmall}
use Rattle.ftd.specs.Types.{TradeDate}
use Rattle.ftd.specs.Types.{PacketPlace}
use Rattle.ftd.specs.declared.packet.Span.{Span}
use Rattle.ftd.specs.declared.packet.Chain.{Chain}
use Rattle.ftd.specs.declared.packet.Chain.TheVariants.{Single, First, Middle, Last}
use Rattle.ftd.specs.declared.packet.Header.{Header}
use Rattle.ftd.specs.declared.packet.Packet.{Packet}
use Rattle.ftd.specs.declared.packet.Packet.TheVariants.{Short, Link, Skipped, Message}
use Rattle.ftd.specs.declared.packet.Packet.TheVariants.{Refused as Unread}
use Rattle.flow.specs.declared.receiver.LiveSeries.{LiveSeries}
use Rattle.flow.specs.declared.receiver.Receiver.{Receiver}
use Rattle.flow.specs.declared.receiver.Origin.TheVariants.{Packet as FromPacket, Buffer as FromBuffer}
use Rattle.flow.specs.declared.receiver.Received.{Received}
use Rattle.flow.specs.declared.receiver.Received.TheVariants.{Idle, Duplicate, Partial, Complete}
use Rattle.flow.specs.declared.receiver.Received.TheVariants.{Refused as NotTaken}
use Rattle.flow.specs.Ends.{Wrote, wrote, most_messages, differs, logged_in, holding, is_open, kept_of, live_of}
use Rattle.flow.specs.Ends.{part_start, all_parts}
use Rattle.flow.specs.Receiving.{out_of_line, broken_chain, misplaced, one_more, buffer_short, chain_long, advance}
use Rattle.flow.specs.Receiving.{dropped, next_piece}
use Rattle.flow.specs.Receiving.{receive_with, receive_read, receive_of}
use Rattle.flow.proofs.common.Rows.{by-when}
use Rattle.flow.proofs.common.Bools.{or-neither, and_both}

-- ─── Receive, of a message packet ───

module _ (e : Receiver) (h : Header) (date : TradeDate) where
  -- Rows 13 and 14 are passed: the series is open and logged in.
  pub record Online : Type 0 where
    pub open-series : is_open e h.series ≡ true
    pub login : (live_of e h.series).login ≡ true

  -- Rows 15 and 16 too, and it is no repetition: it bears the kept day, or none, and the next number.
  pub record Next : Type 0 where
    pub reached : Online
    pub day : differs date (kept_of e h.series).date ≡ false
    pub number : h.number ≡ (kept_of e h.series).last + 1
    pub few : h.number ≤ 1000000

-- Row 18 is passed: the buffer has all parts, and the chain its room.
pub record Room (e : Receiver) (buffer : List ℕ) (held : ℕ) (content : List ℕ) : Type 0 where
  pub parts : all_parts e ≤ length buffer
  pub chain : held + length content ≤ 32768

-- Row 17 is passed: there is a chain of the packet's TID, and the packet's place, if it has one, is the count of pieces.
pub record Goes_on (live : LiveSeries) (h : Header) (place : PacketPlace) : Type 0 where
  pub chain : live.chain ≡ true
  pub tid : live.tid ≡ h.tid
  pub counted : misplaced place live.pieces ≡ false

-- S or F; C or L.
abbrev pub Sooner : Header → Type 0
Sooner h = (h.chain ≡ Single) ⊎ (h.chain ≡ First)

abbrev pub Later : Header → Type 0
Later h = (h.chain ≡ Middle) ⊎ (h.chain ≡ Last)

-- Why a packet is refused from 15 on.
pub data Why (e : Receiver) (h : Header) (date : TradeDate) (place : PacketPlace) (content buffer : List ℕ) : Refusal → Type 0 where
  other-day : differs date (kept_of e h.series).date ≡ true → Why e h date place content buffer OtherDay
  out-of-line : out_of_line (kept_of e h.series).last h.number ≡ true → Why e h date place content buffer OutOfLine
  astray : Next e h date → Sooner h → misplaced place 0 ≡ true → Why e h date place content buffer BrokenChain
  broken : Next e h date → Later h
      → (broken_chain (live_of e h.series) h || misplaced place (live_of e h.series).pieces) ≡ true
      → Why e h date place content buffer BrokenChain
  no-room-first : Next e h date → h.chain ≡ First → (buffer_short e buffer || chain_long 0 content) ≡ true
      → Why e h date place content buffer TooSmall
  no-room-later : Next e h date → Later h → Goes_on (live_of e h.series) h place
      → (buffer_short e buffer || chain_long (live_of e h.series).held content) ≡ true
      → Why e h date place content buffer TooSmall

pub data Took (e : Receiver) (h : Header) (date : TradeDate) (place : PacketPlace) (at : Span) (content buffer : List ℕ) : Wrote Receiver
    Received → Type 0 where
  -- Refused below 15: nothing changed.
  unknown : is_open e h.series ≡ false → Took e h date place at content buffer (wrote e (NotTaken UnknownSeries) buffer)
  not_in : (live_of e h.series).login ≡ false → Took e h date place at content buffer (wrote e (NotTaken NotLoggedIn) buffer)
  -- Refused from 15 on, or again: only that series' chain is dropped.
  refuses : (r : Refusal) → Why e h date place content buffer r → Online e h date
      → Took e h date place at content buffer (wrote (dropped e h.series) (NotTaken r) buffer)
  repeats : Online e h date → differs date (kept_of e h.series).date ≡ false → h.number ≤ (kept_of e h.series).last
      → Took e h date place at content buffer (wrote (dropped e h.series) (Duplicate (kept_of e h.series).last) buffer)
  -- S handed on.
  hands-single : Next e h date → h.chain ≡ Single → misplaced place 0 ≡ false
      → Took e h date place at content buffer
      (wrote (advance e h.series h.number logged_in) (Complete h.number h.tid FromPacket at) buffer)
  -- F or C held.
  holds-first : Next e h date → h.chain ≡ First → misplaced place 0 ≡ false → Room e buffer 0 content
      → Took e h date place at content buffer (
      wrote (advance e h.series (kept_of e h.series).last (holding h.tid (0 + length content) (one_more 0)))
      (Partial (kept_of e h.series).last)
      (put buffer (part_start e h.series + 0) content)
      )
  holds-middle : Next e h date → h.chain ≡ Middle → Goes_on (live_of e h.series) h place
      → Room e buffer (live_of e h.series).held content
      → Took e h date place at content buffer (
      wrote (advance e h.series (kept_of e h.series).last
      (holding h.tid ((live_of e h.series).held + length content) (one_more (live_of e h.series).pieces)))
      (Partial (kept_of e h.series).last)
      (put buffer (part_start e h.series + (live_of e h.series).held) content)
      )
  -- L handed on, from the buffer's part.
  hands-last : Next e h date → h.chain ≡ Last → Goes_on (live_of e h.series) h place
      → Room e buffer (live_of e h.series).held content
      → Took e h date place at content buffer (
      wrote (advance e h.series h.number logged_in)
      (Complete h.number h.tid FromBuffer
      (span (part_start e h.series) ((live_of e h.series).held + length content)))
      (put buffer (part_start e h.series + (live_of e h.series).held) content)
      )

module _ (e : Receiver) (h : Header) (date : TradeDate) (place : PacketPlace) (at : Span) (content buffer : List ℕ)
  where
    abbrev S : ℕ
    S = h.series

    abbrev P : Wrote Receiver Received → Type 0
    P = Took e h date place at content buffer

    room : (held : ℕ) → (buffer_short e buffer || chain_long held content) ≡ false → Room e buffer held content
    room held q =
        let b = or-neither (buffer_short e buffer) (chain_long held content) q in
        record {
          parts = ltb-false (length buffer) (all_parts e) b.0;
          chain = ltb-false most_content
              (held + length content) b.1;
        }

    goes_on : (broken_chain (live_of e S) h || misplaced place (live_of e S).pieces) ≡ false
        → Goes_on (live_of e S) h place
    goes_on q =
        let a = or-neither (broken_chain (live_of e S) h) (misplaced place (live_of e S).pieces) q in
        let b =
        and_both (live_of e S).chain (eqb (live_of e S).tid h.tid)
        (not-false ((live_of e S).chain && eqb (live_of e S).tid h.tid) a.0) in
        record { chain = b.0; tid = eqb-true (live_of e S).tid h.tid b.1; counted = a.1 }

    next-taken : Next e h date → (x : Chain) → h.chain ≡ x → P (next_piece e h place at content buffer x)
    next-taken n Single q =
        by-when P (misplaced place 0) (λ b. refuses BrokenChain (astray n (inl q) b) n.reached) λ b. hands-single n q b
    next-taken n First q =
        by-when P (misplaced place 0) (λ b. refuses BrokenChain (astray n (inr q) b) n.reached) λ b.
        by-when P (buffer_short e buffer || chain_long 0 content) (λ c. refuses TooSmall (no-room-first n q c) n.reached)
        λ c.
        holds-first n q b (room 0 c)
    next-taken n Middle q =
        by-when P (broken_chain (live_of e S) h || misplaced place (live_of e S).pieces)
        (λ b. refuses BrokenChain (broken n (inl q) b) n.reached) λ b.
        by-when P (buffer_short e buffer || chain_long (live_of e S).held content)
        (λ c. refuses TooSmall (no-room-later n (inl q) (goes_on b) c) n.reached) λ c.
        holds-middle n q (goes_on b) (room (live_of e S).held c)
    next-taken n Last q =
        by-when P (broken_chain (live_of e S) h || misplaced place (live_of e S).pieces)
        (λ b. refuses BrokenChain (broken n (inr q) b) n.reached) λ b.
        by-when P (buffer_short e buffer || chain_long (live_of e S).held content)
        (λ c. refuses TooSmall (no-room-later n (inr q) (goes_on b) c) n.reached) λ c.
        hands-last n q (goes_on b) (room (live_of e S).held c)

    in-line : (last k : ℕ) → out_of_line last k ≡ false → leb k last ≡ false → (k ≡ last + 1) × (k ≤ 1000000)
    in-line last k q r =
        let x = or-neither (eqb k 0 || ltb (last + 1) k) (ltb most_messages k) q in
        let a = ltb-false (last + 1) k (or-neither (eqb k 0) (ltb (last + 1) k) x.0).1 in
        let b = ltb-false most_messages k x.1 in
        let c = leb-false k last r in
        (omega arith, omega arith)

    pub receive-with : Took e h date place at content buffer (receive_with e h date place at content buffer)
    unfolding receive_with
    receive-with =
        by-when P (not (is_open e S)) (λ q. unknown (not-true (is_open e S) q)) λ q.
        by-when P (not (live_of e S).login) (λ r. not_in (not-true (live_of e S).login r)) λ r.
        let reached : Online e h date =
        record { open-series = not-false (is_open e S) q; login = not-false (live_of e S).login r } in
        by-when P (differs date (kept_of e S).date) (λ a. refuses OtherDay (other-day a) reached) λ a.
        by-when P (out_of_line (kept_of e S).last h.number) (λ b. refuses OutOfLine (out-of-line b) reached) λ b.
        by-when P (leb h.number (kept_of e S).last)
        (λ c. repeats reached a (leb-true h.number (kept_of e S).last c)) λ c.
        let n = in-line (kept_of e S).last h.number b c in
        next-taken (record { reached = reached; day = a; number = n.0; few = n.1 }) h.chain refl

-- ─── Receive, of any bytes ───

pub data Received-as (e : Receiver) (p buffer : List ℕ) : Wrote Receiver Received → Type 0 where
  -- Refused below 13 or idle: nothing changed.
  unread : (r : Refusal) → number_of r < 13 → Received-as e p buffer (wrote e (NotTaken r) buffer)
  idles : Received-as e p buffer (wrote e Idle buffer)
  reads : {w : Wrote Receiver Received} (h : Header) (extension c : Span) → (dated_of p).packet ≡ Message h extension c
      → Took e h (dated_of p).date (dated_of p).place c (part p c.start c.len) buffer w → Received-as e p buffer w

-- What the reader refuses has a number from 1 to 7.
abbrev pub Low : Packet → Type 0
Low (Short n) = Unit
Low (Link kind extension) = Unit
Low (Skipped kind extension body) = Unit
Low (Message h extension c) = Unit
Low (Unread r) = number_of r < 13

pub read_low : (p : List ℕ) → Low (dated_of p).packet
unfolding dated_of with_tags read_of whole_of message_of accepted_of
read_low p =
    by-when Low (head_missing p) (λ q. tt) λ q.
    by-when Low (long_extension p) (λ q. omega arith) λ q.
    by-when Low (wrong_body (kind_of p) (body_length p)) (λ q. omega arith) λ q.
    by-when Low (rest_missing p) (λ q. tt) λ q.
    by-when Low (is_skipped (kind_of p) (body_length p)) (λ q. tt) λ q.
    by-when Low (broken_tag p) (λ q. omega arith) λ q.
    by-when Low (is_link p) (λ q. tt) λ q.
    by-when Low (wrong_version p) (λ q. omega arith) λ q.
    by-when Low (wrong_letter p) (λ q. omega arith) λ q.
    by-when Low (wrong_content_length p) (λ q. omega arith) λ q.
    by-when Low (wrong_fields p) (λ q. omega arith) λ q. tt

read_as : (e : Receiver) (p buffer : List ℕ) (x : Packet) → (dated_of p).packet ≡ x → Low x
    → Received-as e p buffer (receive_read e p buffer (dated_of p).date (dated_of p).place x)
read_as e p buffer (Short n) q l = unread NotOnePacket (omega arith)
read_as e p buffer (Link kind extension) q l = idles
read_as e p buffer (Skipped kind extension body) q l = idles
read_as e p buffer (Message h extension c) q l =
    reads h extension c q (receive-with e h (dated_of p).date (dated_of p).place c (part p c.start c.len) buffer)
read_as e p buffer (Unread r) q l = unread r l

pub receive-as : (e : Receiver) (p buffer : List ℕ) → Received-as e p buffer (receive_of e p buffer)
unfolding receive_of
receive-as e p buffer = by-when (Received-as e p buffer) (not_one_packet p) (λ q. unread NotOnePacket (omega arith)) λ q.
    read_as e p buffer (dated_of p).packet refl (read_low p)
