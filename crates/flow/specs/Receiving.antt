-- The calls of the receiving end (01, "The receiving end", and the refusal table): each one definition, a row of tests
-- in the table's order and then what the call does. It gives the answer, the end, and every byte of the buffer that the
-- call may write.
use Rattle.std.specs.Prelude.{ℕ, ◌+◌, List, ◌++◌, map, Bool, true, false, not, ◌&&◌, ◌||◌, length, replicate, ltb, leb, eqb}
use Rattle.ftd.specs.Login.{login_tid, login_bytes}
use Rattle.ftd.specs.Bytes.{part, put}
use Rattle.ftd.specs.Packet.{span, dated_of, not_one_packet, no_message_packet}
use Rattle.ftd.specs.Items.{wrong_width, wrong_item}
use Rattle.ftd.specs.Composition.{composed}
use Rattle.ftd.specs.Fields.{count_of, most_content}
use Rattle.ftd.specs.Resume.{resume_bytes, resume_fid}
use Rattle.ftd.specs.declared.refusal.Refusal.{Refusal}
use Rattle.ftd.specs.declared.refusal.Refusal.TheVariants.{FieldRun, FieldLength, Item, Composition, Opening}
use Rattle.ftd.specs.declared.refusal.Refusal.TheVariants.{NotOnePacket, UnknownSeries, NotLoggedIn, OtherDay}
use Rattle.ftd.specs.declared.refusal.Refusal.TheVariants.{OutOfLine, BrokenChain, TooSmall}
use Rattle.ftd.specs.declared.composition.Direction.TheVariants.{Up, Down}
use Rattle.ftd.specs.Types.{TradeDate}
use Rattle.ftd.specs.Types.{PacketPlace}
use Rattle.ftd.specs.declared.packet.Span.{Span}
use Rattle.ftd.specs.declared.packet.Chain.{Chain}
use Rattle.ftd.specs.declared.packet.Chain.TheVariants.{Single, First, Middle, Last}
use Rattle.ftd.specs.declared.packet.Header.{Header}
use Rattle.ftd.specs.declared.packet.Packet.{Packet}
use Rattle.ftd.specs.declared.packet.Packet.TheVariants.{Short, Link, Skipped, Message}
use Rattle.ftd.specs.declared.packet.Packet.TheVariants.{Refused as Unread}
use Rattle.flow.specs.Types.{Opened}
use Rattle.flow.specs.declared.receiver.LiveSeries.{LiveSeries}
use Rattle.flow.specs.declared.receiver.Receiver.{Receiver}
use Rattle.flow.specs.Types.{Requested}
use Rattle.flow.specs.Types.{Confirmed}
use Rattle.flow.specs.declared.receiver.Origin.TheVariants.{Packet as FromPacket, Buffer as FromBuffer}
use Rattle.flow.specs.declared.receiver.Received.{Received}
use Rattle.flow.specs.declared.receiver.Received.TheVariants.{Idle, Duplicate, Partial, Complete}
use Rattle.flow.specs.declared.receiver.Received.TheVariants.{Refused as NotTaken}
use Rattle.flow.specs.Ends.{◌when◌else◌, Left, Wrote, left, wrote, over, most_messages, most_series, request_content, most_pieces}
use Rattle.flow.specs.Ends.{wrong_series, filled, before, differs, new_kept, no_live, logged_in, holding, receiver}
use Rattle.flow.specs.Ends.{is_open, kept_of, live_of, with_series, part_start, all_parts}
use Rattle.flow.specs.Serving.{wrong_run, no_login, not_zero}
use Rattle.std.specs.Prelude.{Some, None, Ok, Err}

-- ─── Opening: the series, once ───

-- 11: against the opening's rule.
abbrev pub wrong_end_opening : Receiver → List ℕ → Bool
wrong_end_opening e ss = not (eqb e.kept.count 0) || wrong_series ss

unfoldable pub open_end_of : Receiver → List ℕ → Left Receiver Opened
open_end_of e ss =
    left e (Err Opening) when wrong_end_opening e ss else
    left (receiver (length ss) (filled (new_kept 0) (map new_kept ss)) (replicate most_series no_live)) (Ok tt)

-- ─── Connect: login and chain of all are cleared; never refused ───

unfoldable pub connect_of : Receiver → Receiver
connect_of e = receiver e.kept.count e.kept.series (replicate most_series no_live)

-- ─── Ask: series and the request's content; the output is written, and the end stays ───

-- The next number wanted; no number of four bytes follows the highest, and 0 is never one.
abbrev pub next_wanted : ℕ → ℕ
next_wanted last = last + 1 when ltb last 4294967295 else 0

-- The content, then the start field for last + 1.
unfoldable pub request_of : Receiver → ℕ → List ℕ → List ℕ
request_of e s content = content ++ resume_bytes s (next_wanted (kept_of e s).last)

unfoldable pub request_bytes : Receiver → ℕ → List ℕ → List ℕ
request_bytes e s content = login_bytes (kept_of e s).date (request_of e s content)

-- 7 counts the start field, 12 bytes; 8 to 10 check it too.
unfoldable pub request_login_of : Receiver → ℕ → List ℕ → List ℕ → Wrote Receiver Requested
request_login_of e s content out =
    refused FieldRun when wrong_run content request_content else
    refused FieldLength when wrong_width full else
    refused Item when wrong_item full else
    refused Composition when ltb 0 (count_of resume_fid content) || not (composed login_tid Up full) else
    refused UnknownSeries when not (is_open e s) else
    refused TooSmall when ltb (length out) (length bytes) else
    wrote e (Ok (length bytes)) (over bytes out)
  where
    refused : Refusal → Wrote Receiver Requested
    refused r = wrote e (Err r) out

    full : List ℕ
    full = request_of e s content

    bytes : List ℕ
    bytes = request_bytes e s content

-- ─── Answer: series and a login answer ───

-- 15: lower than the kept one, or absent.
abbrev pub wrong_day : Receiver → ℕ → TradeDate → Bool
wrong_day e s None = true
wrong_day e s (Some d) = before (Some d) (kept_of e s).date

-- A higher trade date, or any where none is kept, starts a new day with last 0; an equal one keeps last.
unfoldable pub last_after : Receiver → ℕ → TradeDate → ℕ
last_after e s date = 0 when differs date (kept_of e s).date else (kept_of e s).last

unfoldable pub confirm_with : Receiver → ℕ → Header → TradeDate → List ℕ → Left Receiver Confirmed
confirm_with e s h date content =
    refused FieldLength when wrong_width content else
    refused Item when wrong_item content else
    refused Composition when no_login h || not (composed login_tid Down content) else
    refused UnknownSeries when not (is_open e s) else
    refused OtherDay when wrong_day e s date else
    refused OutOfLine when not_zero h else
    left (with_series e s date (last_after e s date) logged_in) (Ok (last_after e s date))
  where
    refused : Refusal → Left Receiver Confirmed
    refused r = left e (Err r)

-- What the reader refuses of the packet: 1, 2 and 4 to 7; its other answers are 12 before.
abbrev pub confirm_read : Receiver → ℕ → List ℕ → TradeDate → Packet → Left Receiver Confirmed
confirm_read e s p date (Short n) = left e (Err NotOnePacket)
confirm_read e s p date (Link kind extension) = left e (Err NotOnePacket)
confirm_read e s p date (Skipped kind extension body) = left e (Err NotOnePacket)
confirm_read e s p date (Message h extension c) = confirm_with e s h date (part p c.start c.len)
confirm_read e s p date (Unread r) = left e (Err r)

unfoldable pub confirm_login_of : Receiver → ℕ → List ℕ → Left Receiver Confirmed
confirm_login_of e s p =
    left e (Err NotOnePacket) when not_one_packet p || no_message_packet p else
    confirm_read e s p (dated_of p).date (dated_of p).packet

-- ─── Receive: one packet; the reassembly buffer is written ───

-- 16: number 0, above last + 1 or above 1,000,000.
abbrev pub out_of_line : ℕ → ℕ → Bool
out_of_line last k = eqb k 0 || ltb (last + 1) k || ltb most_messages k

-- 17: C or L without an open chain of the same TID; and, whatever the letter, a place that is not the count of the pieces
-- held, S and F counting as 0 (02, No. 10). A packet without a place is not compared.
abbrev pub broken_chain : LiveSeries → Header → Bool
broken_chain live h = not (live.chain && eqb live.tid h.tid)

abbrev pub misplaced : PacketPlace → ℕ → Bool
misplaced None pieces = false
misplaced (Some j) pieces = not (eqb j pieces)

-- One piece more is held; the count stops at 65,536.
abbrev pub one_more : ℕ → ℕ
one_more pieces = pieces + 1 when ltb pieces most_pieces else most_pieces

-- 18: the buffer is shorter than all its parts, or the chain passes 32,768.
abbrev pub buffer_short : Receiver → List ℕ → Bool
buffer_short e buffer = ltb (length buffer) (all_parts e)

abbrev pub chain_long : ℕ → List ℕ → Bool
chain_long held content = ltb most_content (held + length content)

-- A series keeps its trade date; its last number and what it has on this connection change.
abbrev pub advance : Receiver → ℕ → ℕ → LiveSeries → Receiver
advance e s last live = with_series e s (kept_of e s).date last live

-- From 15 on each way out drops the chain, but for the next piece.
abbrev pub dropped : Receiver → ℕ → Receiver
dropped e s = advance e s (kept_of e s).last logged_in

-- A piece behind `held` bytes of its chain, so many pieces.
abbrev pub holds : Receiver → Header → ℕ → ℕ → List ℕ → List ℕ → Wrote Receiver Received
holds e h held pieces content buffer =
    let s = h.series in
    wrote (dropped e s) (NotTaken TooSmall) buffer when buffer_short e buffer || chain_long held content else
    wrote (advance e s (kept_of e s).last (holding h.tid (held + length content) (one_more pieces)))
    (Partial (kept_of e s).last) (put buffer (part_start e s + held) content)

abbrev pub hands_on : Receiver → Header → ℕ → List ℕ → List ℕ → Wrote Receiver Received
hands_on e h held content buffer =
    let s = h.series in
    wrote (dropped e s) (NotTaken TooSmall) buffer when buffer_short e buffer || chain_long held content else
    wrote (advance e s h.number logged_in)
    (Complete h.number h.tid FromBuffer (span (part_start e s) (held + length content)))
    (put buffer (part_start e s + held) content)

-- The next number's packet, by its chain letter. F starts a chain, replacing any.
abbrev pub next_piece : Receiver → Header → PacketPlace → Span → List ℕ → List ℕ → Chain → Wrote Receiver Received
next_piece e h place at content buffer Single =
    wrote (dropped e h.series) (NotTaken BrokenChain) buffer when misplaced place 0 else
    wrote (advance e h.series h.number logged_in) (Complete h.number h.tid FromPacket at) buffer
next_piece e h place at content buffer First =
    wrote (dropped e h.series) (NotTaken BrokenChain) buffer when misplaced place 0 else
    holds e h 0 0 content buffer
next_piece e h place at content buffer Middle =
    wrote (dropped e h.series) (NotTaken BrokenChain) buffer when broken_chain (live_of e h.series) h || misplaced
    place (live_of e h.series).pieces else
    holds e h (live_of e h.series).held (live_of e h.series).pieces content buffer
next_piece e h place at content buffer Last =
    wrote (dropped e h.series) (NotTaken BrokenChain) buffer when broken_chain (live_of e h.series) h || misplaced
    place (live_of e h.series).pieces else
    hands_on e h (live_of e h.series).held content buffer

-- A message packet, as header, trade date, place in its message, and place and bytes of its content: rows 13 to 18.
unfoldable pub receive_with : Receiver → Header → TradeDate → PacketPlace → Span → List ℕ → List ℕ
    → Wrote Receiver Received
receive_with e h date place at content buffer =
    wrote e (NotTaken UnknownSeries) buffer when not (is_open e h.series) else
    wrote e (NotTaken NotLoggedIn) buffer when not (live_of e h.series).login else
    wrote (dropped e h.series) (NotTaken OtherDay) buffer when differs date (kept_of e h.series).date else
    wrote (dropped e h.series) (NotTaken OutOfLine) buffer when out_of_line (kept_of e h.series).last h.number
    else
    wrote (dropped e h.series) (Duplicate (kept_of e h.series).last) buffer when leb h.number
    (kept_of e h.series).last else
    next_piece e h place at content buffer h.chain

-- What the reader makes of the packet: refusals 1 to 7; link and skipped packets are idle; short is 12 before.
abbrev pub receive_read : Receiver → List ℕ → List ℕ → TradeDate → PacketPlace → Packet → Wrote Receiver Received
receive_read e p buffer date place (Short n) = wrote e (NotTaken NotOnePacket) buffer
receive_read e p buffer date place (Link kind extension) = wrote e Idle buffer
receive_read e p buffer date place (Skipped kind extension body) = wrote e Idle buffer
receive_read e p buffer date place (Message h extension c) =
    receive_with e h date place c (part p c.start c.len) buffer
receive_read e p buffer date place (Unread r) = wrote e (NotTaken r) buffer

unfoldable pub receive_of : Receiver → List ℕ → List ℕ → Wrote Receiver Received
receive_of e p buffer =
    wrote e (NotTaken NotOnePacket) buffer when not_one_packet p else
    receive_read e p buffer (dated_of p).date (dated_of p).place (dated_of p).packet
