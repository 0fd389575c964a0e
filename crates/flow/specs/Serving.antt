-- The calls of the serving end (01, "The serving end", and the refusal table): each one definition, a row of tests in
-- the table's order and then what the call does. It gives the answer, the end, and every byte of the buffer that the
-- call may write.
use Rattle.std.specs.Prelude.{ℕ, suc, ◌+◌, List, [], Bool, true, false, cond, not, ◌||◌, length, replicate, get_or, ltb, leb, eqb}
use Rattle.std.proofs.Math.Option.{Option, none, some}
use Rattle.ftd.specs.Bytes.{part, put, joined}
use Rattle.ftd.specs.Packet.{not_one_packet, no_message_packet, dated_of}
use Rattle.ftd.specs.Chain.{packets_of}
use Rattle.ftd.specs.Fields.{shaped, count_of, most_content, packet_content}
use Rattle.ftd.specs.Items.{wrong_width, wrong_item}
use Rattle.ftd.specs.Composition.{composed}
use Rattle.ftd.specs.Resume.{resume_fid, resume_of}
use Rattle.ftd.specs.Login.{login_tid, login_bytes}
use Rattle.ftd.specs.declared.refusal.Refusal.{Refusal}
use Rattle.ftd.specs.declared.refusal.Refusal.TheVariants.{FieldRun, FieldLength, Item, Composition, Opening}
use Rattle.ftd.specs.declared.refusal.Refusal.TheVariants.{NotOnePacket, UnknownSeries, NotLoggedIn, OtherDay}
use Rattle.ftd.specs.declared.refusal.Refusal.TheVariants.{OutOfLine, TooSmall, WrongStart, DamagedLog, DayFull}
use Rattle.ftd.specs.declared.composition.Direction.TheVariants.{Up, Down}
use Rattle.ftd.specs.Types.{TradeDate}
use Rattle.ftd.specs.declared.packet.Chain.{Chain}
use Rattle.ftd.specs.declared.packet.Chain.TheVariants.{Single, First, Middle, Last}
use Rattle.ftd.specs.declared.packet.Header.{Header}
use Rattle.ftd.specs.declared.packet.Packet.{Packet}
use Rattle.ftd.specs.declared.packet.Packet.TheVariants.{Short, Link, Skipped, Message}
use Rattle.ftd.specs.declared.packet.Packet.TheVariants.{Refused as Unread}
use Rattle.ftd.specs.declared.resume.Resume.{Resume}
use Rattle.ftd.specs.declared.resume.Resume.TheVariants.{Absent, Next, Misshapen, Several}
use Rattle.flow.specs.declared.sender.Sender.{Sender}
use Rattle.flow.specs.Types.{Opened}
use Rattle.flow.specs.Types.{Published}
use Rattle.flow.specs.Types.{LoggedIn}
use Rattle.flow.specs.Ends.{◌when◌else◌, Left, Wrote, left, wrote, over, most_messages, most_series, wrong_series}
use Rattle.flow.specs.Ends.{filled, before, up_to, no_series, opened_series, sum_of, shares_of, no_place, sender, is_served, published_of, place_of}
use Rattle.flow.specs.Ends.{with_entry, with_place}
use Rattle.flow.specs.Log.{entry_bytes, entry_tid, entry_content, log_short, entry_fits, entry_of}
use Rattle.std.specs.Prelude.{Some, None, Ok, Err}
use Rattle.flow.specs.Types.{SendAnswer, message_sent, PacketSent, packet_sent}

-- ─── Opening: a trade date above the present one, if any, the series and their reserves; the log's length ───

-- 11: against the opening's rule; not one reserve for each series, or reserves above the log's length together (02, No.
-- 11). Of the log only the length counts.
abbrev pub wrong_reserves : List ℕ → List ℕ → List ℕ → Bool
wrong_reserves ss rs log = not (eqb (length rs) (length ss)) || ltb (length log) (sum_of rs)

abbrev pub wrong_day_opening : Sender → ℕ → List ℕ → List ℕ → List ℕ → Bool
wrong_day_opening e date ss rs log = wrong_series ss || up_to date e.day.date || wrong_reserves ss rs log

-- It empties log and logins.
unfoldable pub open_day_of : Sender → ℕ → List ℕ → List ℕ → List ℕ → Left Sender Opened
open_day_of e date ss rs log =
    left e (Err Opening) when wrong_day_opening e date ss rs log else
    left (sender (Some date) (length ss) (filled no_series (opened_series ss rs)) 0 (replicate most_series no_place)) (Ok tt)

-- ─── Content that is given to a call, rows 7 to 10 ───

-- 7: not whole fields of at most 4,074 bytes, or above a limit.
abbrev pub wrong_run : List ℕ → ℕ → Bool
wrong_run content limit = not (shaped content limit)

-- ─── Publish: series, TID and content; the log is written ───

-- 18: with the entry the larger of bytes used and reserve, summed over all series, would pass the log's length (02, No. 11).
-- That is never less than the bytes used (`Shares`), so that in an end that calls have made it decides alone; in any other
-- the entry must fit the log too.
abbrev pub over_shares : Sender → ℕ → List ℕ → List ℕ → Bool
over_shares e s log content = ltb (length log) (shares_of (with_entry e s (16 + length content)))

unfoldable pub publish_of : Sender → ℕ → ℕ → List ℕ → List ℕ → Wrote Sender Published
publish_of e s tid content log =
    refused FieldRun when wrong_run content most_content else
    refused FieldLength when wrong_width content else
    refused Item when wrong_item content else
    refused Composition when not (composed tid Down content) else
    refused UnknownSeries when not (is_served e s) else
    refused DamagedLog when log_short e log else
    refused TooSmall when not (entry_fits e log content) || over_shares e s log content else
    refused DayFull when leb most_messages (published_of e s) else
    wrote (with_entry e s (16 + length content)) (Ok number)
    (put log e.day.used (entry_bytes s tid number content))
  where
    refused : Refusal → Wrote Sender Published
    refused r = wrote e (Err r) log

    number : ℕ
    number = published_of e s + 1

-- ─── The header of a login packet and of its answer ───

-- 10, of the header: another TID, or the chain not S.
abbrev pub is_single : Chain → Bool
is_single Single = true
is_single First = false
is_single Middle = false
is_single Last = false

abbrev pub no_login : Header → Bool
no_login h = not (eqb h.tid login_tid) || not (is_single h.chain)

-- 16: header series or number not 0.
abbrev pub not_zero : Header → Bool
not_zero h = not (eqb h.series 0) || not (eqb h.number 0)

-- ─── Login: series, a login packet and the answer's content; the output is written ───

-- 13: the start field is of another series.
abbrev pub start_elsewhere : ℕ → Resume → Bool
start_elsewhere s Absent = false
start_elsewhere s (Next t number) = not (eqb t s)
start_elsewhere s Misshapen = false
start_elsewhere s Several = false

-- The next number wanted: 1 where no start field is there.
abbrev pub wanted : Resume → ℕ
wanted Absent = 1
wanted (Next t number) = number
wanted Misshapen = 1
wanted Several = 1

-- With a trade date below its own the end starts at 1 without looking at the number.
unfoldable pub start_of : Sender → TradeDate → Resume → ℕ
start_of e date start = 1 when before date e.day.date else wanted start

-- 19: next is 0 or above published + 1.
abbrev pub wrong_start : Sender → ℕ → ℕ → Bool
wrong_start e s next = eqb next 0 || ltb (published_of e s + 1) next

-- A message packet, as header, trade date and content, and the answer's content: rows 7 to 19, each of both.
unfoldable pub login_with : Sender → ℕ → Header → TradeDate → List ℕ → List ℕ → List ℕ → Wrote Sender LoggedIn
login_with e s h date asked content out =
    refused FieldRun when wrong_run content packet_content else
    refused FieldLength when wrong_width asked || wrong_width content else
    refused Item when wrong_item asked || wrong_item content else
    refused Composition when no_login h || not (composed login_tid Up asked) || ltb 1 (count_of resume_fid asked) || not
    (composed login_tid Down content) else
    refused UnknownSeries when not (is_served e s) || start_elsewhere s start else
    refused OtherDay when before e.day.date date else
    refused OutOfLine when not_zero h else
    refused TooSmall when ltb (length out) (length answer) else
    refused WrongStart when wrong_start e s next else
    wrote (with_place e s next 0) (Ok (length answer)) (over answer out)
  where
    refused : Refusal → Wrote Sender LoggedIn
    refused r = wrote e (Err r) out

    start : Resume
    start = resume_of asked

    next : ℕ
    next = start_of e date start

    answer : List ℕ
    answer = login_bytes e.day.date content

-- What the reader refuses of the packet: 1, 2 and 4 to 7; its other answers are 12 before.
abbrev pub login_read : Sender → ℕ → List ℕ → List ℕ → List ℕ → TradeDate → Packet → Wrote Sender LoggedIn
login_read e s p content out date (Short n) = wrote e (Err NotOnePacket) out
login_read e s p content out date (Link kind extension) = wrote e (Err NotOnePacket) out
login_read e s p content out date (Skipped kind extension body) = wrote e (Err NotOnePacket) out
login_read e s p content out date (Message h extension c) = login_with e s h date (part p c.start c.len) content out
login_read e s p content out date (Unread r) = wrote e (Err r) out

unfoldable pub login_of : Sender → ℕ → List ℕ → List ℕ → List ℕ → Wrote Sender LoggedIn
login_of e s p content out =
    wrote e (Err NotOnePacket) out when not_one_packet p || no_message_packet p else
    login_read e s p content out (dated_of p).date (dated_of p).packet

-- ─── Send: series; the log is read, the output is written ───

-- All published ones have been stepped over.
unfoldable pub is_none_left : Sender → ℕ → Bool
is_none_left e s = ltb (published_of e s) (place_of e s).next

-- An entry as packets, each with the trade date and its place as only tags; and as bytes.
abbrev pub send_packets : Sender → ℕ → List ℕ → List (List ℕ)
send_packets e s x =
    packets_of
    (record { date = e.day.date; tid = entry_tid x; series = s; number = (place_of e s).next; counted = true })
    (entry_content x)

unfoldable pub send_bytes : Sender → ℕ → List ℕ → List ℕ
send_bytes e s x = joined (send_packets e s x)

abbrev pub send_entry : Sender → ℕ → List ℕ → Option (List ℕ) → Wrote Sender SendAnswer
send_entry e s out none = wrote e (Err DamagedLog) out
send_entry e s out (some x) =
    let bytes = send_bytes e s x in
    wrote e (Err TooSmall) out when ltb (length out) (length bytes) else
    wrote (with_place e s (suc (place_of e s).next) 0) (message_sent (place_of e s).next (length bytes)) (over bytes out)

unfoldable pub send_of : Sender → ℕ → List ℕ → List ℕ → Wrote Sender SendAnswer
send_of e s log out =
    wrote e (Err UnknownSeries) out when not (is_served e s) else
    wrote e (Err NotLoggedIn) out when not (place_of e s).login else
    wrote e (Ok None) out when is_none_left e s else
    send_entry e s out (entry_of e log s (place_of e s).next)

-- ─── Send of one packet (02, No. 4): series; the log is read, the output is written ───

-- The packet that is next of an entry.
unfoldable pub next_packet : Sender → ℕ → List ℕ → List ℕ
next_packet e s x = get_or (send_packets e s x) (place_of e s).piece []

-- 20 also: the entry has no such packet. Only a log that was altered between two calls has such an entry.
unfoldable pub no_packet : Sender → ℕ → List ℕ → Bool
no_packet e s x = leb (length (send_packets e s x)) (place_of e s).piece

-- It is the message's last.
unfoldable pub last_packet : Sender → ℕ → List ℕ → Bool
last_packet e s x = eqb ((place_of e s).piece + 1) (length (send_packets e s x))

-- With its last packet a message is stepped over.
unfoldable pub after_packet : Sender → ℕ → Bool → Sender
after_packet e s last =
    cond last (with_place e s (suc (place_of e s).next) 0) (with_place e s (place_of e s).next ((place_of e s).piece + 1))

abbrev pub send_packet_entry : Sender → ℕ → List ℕ → Option (List ℕ) → Wrote Sender PacketSent
send_packet_entry e s out none = wrote e (Err DamagedLog) out
send_packet_entry e s out (some x) =
    let bytes = next_packet e s x in
    let last = last_packet e s x in
    wrote e (Err DamagedLog) out when no_packet e s x else
    wrote e (Err TooSmall) out when ltb (length out) (length bytes) else
    wrote (after_packet e s last) (packet_sent (place_of e s).next (length bytes) last) (over bytes out)

unfoldable pub send_packet_of : Sender → ℕ → List ℕ → List ℕ → Wrote Sender PacketSent
send_packet_of e s log out =
    wrote e (Err UnknownSeries) out when not (is_served e s) else
    wrote e (Err NotLoggedIn) out when not (place_of e s).login else
    wrote e (Ok None) out when is_none_left e s else
    send_packet_entry e s out (entry_of e log s (place_of e s).next)
