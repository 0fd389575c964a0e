-- The box (02, No. 3; 4, 10 and 11): its state, fresh and looked up, and its calls. Each call is the call of an end of
-- `flow`, and what the box adds: what comes in from above is published below, an answer's trade date opens a day there.
use Rattle.std.specs.Prelude.{ℕ, List, [], ◌∷◌, Bool, true, not, ◌&&◌, length, get_or, set, take, replicate, ltb, eqb}
use Rattle.ftd.specs.Packet.{dated_of}
use Rattle.ftd.specs.declared.refusal.Refusal.{Refusal}
use Rattle.ftd.specs.declared.refusal.Refusal.TheVariants.{Opening, OtherDay, NoSeat}
use Rattle.ftd.specs.Types.{TradeDate}
use Rattle.flow.specs.declared.sender.Day.{Day}
use Rattle.flow.specs.declared.sender.Seat.{Seat}
use Rattle.flow.specs.declared.sender.Sender.{Sender}
use Rattle.flow.specs.Types.{Opened}
use Rattle.flow.specs.Types.{Published}
use Rattle.flow.specs.Types.{LoggedIn}
use Rattle.flow.specs.declared.receiver.Receiver.{Receiver}
use Rattle.flow.specs.Types.{Requested}
use Rattle.flow.specs.Types.{Confirmed}
use Rattle.flow.specs.declared.receiver.Received.{Received}
use Rattle.flow.specs.declared.receiver.Received.TheVariants.{Refused as NotTaken}
use Rattle.flow.specs.Ends.{◌when◌else◌, Left, Wrote, left, wrote, before, up_to, fresh_sender, fresh_receiver, kept_series}
use Rattle.flow.specs.Ends.{kept_of, most_series, filled}
use Rattle.flow.specs.Answers.{Message, received_said, message_in}
use Rattle.flow.specs.Serving.{open_day_of, publish_of, login_of, send_of, send_packet_of}
use Rattle.flow.specs.Receiving.{open_end_of, connect_of, request_login_of, confirm_login_of, receive_of, dropped}
use Rattle.flow.specs.Deciding.{past_day, receive_past}
use Rattle.flow.specs.World.{series_in}
use Rattle.relay.specs.State.{Box, most_seats}
use Rattle.std.specs.Prelude.{Some, None, Ok, Err}
use Rattle.flow.specs.Types.{SendAnswer, PacketSent}

-- ─── The state ───

-- A seat that has nothing.
abbrev pub no_seat : Seat
no_seat = fresh_sender.seat

-- A day with one seat is a serving end of `flow`.
abbrev pub server_of : Day → Seat → Sender
server_of day seat = record { day = day; seat = seat }

abbrev pub box : Receiver → List ℕ → Day → List Seat → Box
box receiver reserves day seats = record { receiver = receiver; reserves = reserves; day = day; seats = seats }

-- Reserves that none has set.
abbrev pub no_reserves : List ℕ
no_reserves = replicate most_series 0

unfoldable pub fresh_box : Box
fresh_box = box fresh_receiver no_reserves fresh_sender.day (replicate most_seats no_seat)

-- The reserves of the open series, in the opening's order (02, No. 11).
abbrev pub reserves_of : Receiver → List ℕ → List ℕ
reserves_of e reserves = take (length (kept_series e)) reserves

abbrev pub seat_of : Box → ℕ → Seat
seat_of b i = get_or b.seats i no_seat

-- Seat i with the day.
abbrev pub server_at : Box → ℕ → Sender
server_at b i = server_of b.day (seat_of b i)

-- Publishing and opening look at no seat.
abbrev pub serving : Box → Sender
serving b = server_of b.day no_seat

abbrev pub with_receiver : Box → Receiver → Box
with_receiver b e = box e b.reserves b.day b.seats

abbrev pub with_seat : Box → ℕ → Seat → Box
with_seat b i x = box b.receiver b.reserves b.day (set b.seats i x)

-- ─── Towards above: Opening, Connect, Ask are the receiving end's ───

-- Series and reserves; an opening that was taken sets them.
abbrev pub reserves_by : List ℕ → List ℕ → Opened → List ℕ
reserves_by rs old (Ok tt) = filled 0 rs
reserves_by rs old (Err x) = old

abbrev pub open_by : Box → List ℕ → Left Receiver Opened → Left Box Opened
open_by b rs r = left (box r.end (reserves_by rs b.reserves r.answer) b.day b.seats) r.answer

-- 11 also: not one reserve for each series. The day below stays, and no log is looked at.
unfoldable pub open_box_of : Box → List ℕ → List ℕ → Left Box Opened
open_box_of b ss rs =
    left b (Err Opening) when not (eqb (length rs) (length ss)) else
    open_by b rs (open_end_of b.receiver ss)

-- Day, log and seats stay: the seats go on.
unfoldable pub connect_box_of : Box → Box
connect_box_of b = with_receiver b (connect_of b.receiver)

-- With the kept trade date of the series, never the open day's.
unfoldable pub ask_of : Box → ℕ → List ℕ → List ℕ → Wrote Box Requested
ask_of b s content out =
    let r = request_login_of b.receiver s content out in wrote (with_receiver b r.end) r.answer r.bytes

-- ─── 15 for the day below ───

-- The receiving end came past its row 15: it took the packet, or refused it with a number above 15.
abbrev pub confirm_past : Confirmed → Bool
confirm_past (Ok n) = true
confirm_past (Err x) = past_day x

-- ─── Answer: of the log only the length counts (02, No. 11) ───

-- What the box makes of an answer: turned away as of a day before the open one, or as its opening is refused; what the
-- receiving end makes of it; that, and a day is opened below.
pub data AnswerWay : Type 0 where
  late : AnswerWay
  refuses : Refusal → AnswerWay
  through : AnswerWay
  opens : Left Sender Opened → AnswerWay

-- Opening below was tried: "an answer whose opening they forbid is refused" too (02, No. 11).
abbrev pub opening_way : Left Sender Opened → Opened → AnswerWay
opening_way q (Ok tt) = AnswerWay.opens q
opening_way q (Err x) = refuses x

-- Taken: it opens with a trade date above the day open below, or where none is.
abbrev pub taken_way : Receiver → List ℕ → Day → List ℕ → TradeDate → AnswerWay
taken_way e reserves day log None = through
taken_way e reserves day log (Some d) =
    through when up_to d day.date else
    (let q = open_day_of (server_of day no_seat) d (kept_series e) (reserves_of e reserves) log in opening_way q q.answer)

abbrev pub confirmed_way : Receiver → List ℕ → Day → List ℕ → TradeDate → Confirmed → AnswerWay
confirmed_way e reserves day log date (Ok n) = taken_way e reserves day log date
confirmed_way e reserves day log date (Err x) = through

-- 15 for a trade date below the open day stands at row 15: before 16 and before the opening's 11.
unfoldable pub answer_way : Box → ℕ → List ℕ → List ℕ → AnswerWay
answer_way b s p log =
    let r = confirm_login_of b.receiver s p in
    late when confirm_past r.answer && before (dated_of p).date b.day.date else
    confirmed_way b.receiver b.reserves b.day log (dated_of p).date r.answer

-- A refusal changes nothing. An opening empties the places of all seats; the log's bytes stay.
abbrev pub answer_by : Box → Left Receiver Confirmed → AnswerWay → Left Box Confirmed
answer_by b r late = left b (Err OtherDay)
answer_by b r (refuses x) = left b (Err x)
answer_by b r through = left (with_receiver b r.end) r.answer
answer_by b r (opens q) = left (box r.end b.reserves q.end.day (replicate most_seats q.end.seat)) r.answer

unfoldable pub answer_of : Box → ℕ → List ℕ → List ℕ → Left Box Confirmed
answer_of b s p log = answer_by b (confirm_login_of b.receiver s p) (answer_way b s p log)

-- ─── Receive: log and chain buffer are lent ───

-- Turned away, as its series is of a day before the open one, or as its publication is refused; what the receiving end
-- makes of it, which hands nothing on; or a message is handed on and published.
pub data ReceiveWay : Type 0 where
  late : ReceiveWay
  refuses : Refusal → ReceiveWay
  through : ReceiveWay
  publishes : Message → Wrote Sender Published → ReceiveWay

abbrev pub published_way : Message → Wrote Sender Published → Published → ReceiveWay
published_way m q (Ok k) = publishes m q
published_way m q (Err x) = refuses x

abbrev pub handed_way : Day → ℕ → List ℕ → List Message → ReceiveWay
handed_way day s log [] = through
handed_way day s log (m ∷ ms) =
    let q = publish_of (server_of day no_seat) s m.tid m.content log in published_way m q q.answer

-- 15 for a series whose trade date is below the open day stands at row 15: before 16, again, 17 and 18.
unfoldable pub receive_way : Box → List ℕ → List ℕ → List ℕ → ReceiveWay
receive_way b p log buffer =
    let r = receive_of b.receiver p buffer in
    let s = series_in (dated_of p).packet in
    late when receive_past r.answer && before (kept_of b.receiver s).date b.day.date else
    handed_way b.day s log (message_in (received_said p r.bytes r.answer))

-- What Receive leaves: the answer, the box, and every byte of both buffers.
pub record Relayed : Type 0 where
  pub end : Box
  pub answer : Received
  pub log : List ℕ
  pub buffer : List ℕ

abbrev pub relayed : Box → Received → List ℕ → List ℕ → Relayed
relayed b a log buffer = record { end = b; answer = a; log = log; buffer = buffer }

-- Turned away, only the chain is dropped: both buffers stay.
abbrev pub receive_by : Box → ℕ → List ℕ → List ℕ → Wrote Receiver Received → ReceiveWay → Relayed
receive_by b s log buffer r late = relayed (with_receiver b (dropped b.receiver s)) (NotTaken OtherDay) log buffer
receive_by b s log buffer r (refuses x) = relayed (with_receiver b (dropped b.receiver s)) (NotTaken x) log buffer
receive_by b s log buffer r through = relayed (with_receiver b r.end) r.answer log r.bytes
receive_by b s log buffer r (publishes m q) = relayed (box r.end b.reserves q.end.day b.seats) r.answer q.bytes
    r.bytes

unfoldable pub receive_box_of : Box → List ℕ → List ℕ → List ℕ → Relayed
receive_box_of b p log buffer =
    receive_by b (series_in (dated_of p).packet) log buffer (receive_of b.receiver p buffer) (receive_way b p log buffer)

-- ─── Towards the seats: 25 before everything, then the serving end's call of that seat ───

abbrev pub no_such_seat : ℕ → Bool
no_such_seat i = not (ltb i most_seats)

unfoldable pub login_seat_of : Box → ℕ → ℕ → List ℕ → List ℕ → List ℕ → Wrote Box LoggedIn
login_seat_of b i s p content out =
    wrote b (Err NoSeat) out when no_such_seat i else
    (let r = login_of (server_at b i) s p content out in wrote (with_seat b i r.end.seat) r.answer r.bytes)

unfoldable pub send_seat_of : Box → ℕ → ℕ → List ℕ → List ℕ → Wrote Box SendAnswer
send_seat_of b i s log out =
    wrote b (Err NoSeat) out when no_such_seat i else
    (let r = send_of (server_at b i) s log out in wrote (with_seat b i r.end.seat) r.answer r.bytes)

-- One packet (02, No. 4).
unfoldable pub send_packet_seat_of : Box → ℕ → ℕ → List ℕ → List ℕ → Wrote Box PacketSent
send_packet_seat_of b i s log out =
    wrote b (Err NoSeat) out when no_such_seat i else
    (let r = send_packet_of (server_at b i) s log out in wrote (with_seat b i r.end.seat) r.answer r.bytes)
