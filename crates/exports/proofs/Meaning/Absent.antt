-- `AbsentLaws` holds. Assumes nothing.
use Prim.Native.Nat.{ℕ}
use mathlib.Core.Path.{◌≡◌, refl}
use mathlib.Core.Bool.{cond}
use lib.Dec.{eqb}
use Rattle.ftd.specs.declared.packet.Packet.{Packet}
use Rattle.ftd.specs.declared.packet.Packet.TheVariants.{Short as TooShort, Link, Skipped, Message}
use Rattle.ftd.specs.declared.packet.Packet.TheVariants.{Refused as WrongPacket}
use Rattle.ftd.specs.declared.item.FieldItem.TheVariants.{Number as ItemNumber, NoItem, NoValue, Char, Word, Int}
use Rattle.ftd.specs.declared.item.FieldItem.TheVariants.{Text, Float, Date}
use Rattle.ftd.specs.Types.{TradeDate}
use Rattle.ftd.specs.Types.{PacketPlace}
use Rattle.ftd.specs.Types.{ChainSize}
use Rattle.ftd.specs.Types.{Written}
use Rattle.ftd.specs.declared.resume.Resume.{Resume}
use Rattle.ftd.specs.declared.resume.Resume.TheVariants.{Absent, Next, Misshapen, Several}
use Rattle.ftd.specs.declared.item.FieldItem.{FieldItem}
use Rattle.ftd.specs.declared.dates.Date.TheVariants.{NoDate, Unused, Day}
use Rattle.flow.specs.Types.{Published}
use Rattle.flow.specs.Types.{LoggedIn}
use Rattle.flow.specs.Types.{Requested}
use Rattle.flow.specs.Types.{Confirmed}
use Rattle.flow.specs.declared.receiver.Received.{Received}
use Rattle.flow.specs.declared.receiver.Received.TheVariants.{Idle, Duplicate, Partial, Complete}
use Rattle.flow.specs.declared.receiver.Received.TheVariants.{Refused as NotTaken}
use Rattle.flow.specs.declared.several.ReceivedSeveral.{ReceivedSeveral}
use Rattle.flow.specs.declared.several.ReceivedSeveral.TheVariants.{End, Short, Complete as StopComplete}
use Rattle.flow.specs.declared.several.ReceivedSeveral.TheVariants.{Refused as StopRefused}
use Rattle.flow.specs.declared.several.PublishedSeveral.{PublishedSeveral}
use Rattle.flow.specs.declared.several.PublishedSeveral.TheVariants.{End as AllIn, Short as Cut}
use Rattle.flow.specs.declared.several.PublishedSeveral.TheVariants.{Refused as RecordRefused}
use Rattle.flow.specs.declared.order.Order.{Order}
use Rattle.flow.specs.declared.order.Order.TheVariants.{Same, FirstStarts, SecondStarts, Differ}
use Rattle.flow.specs.declared.order.Order.TheVariants.{Refused as OrderRefused}
use Rattle.calendar.specs.Types.{TradeTime}
use Rattle.book.specs.Types.{Mean}
use Rattle.fix.specs.Types.{Number as TextNumber}
use Rattle.fix.specs.declared.read.Judged.{Judged}
use Rattle.fix.specs.declared.read.Judged.TheVariants.{Refused as WrongFrame, Next as NextFrame, Again as AgainFrame}
use Rattle.fix.specs.declared.read.Judged.TheVariants.{Gap, Reset}
use Rattle.exports.specs.Receiving.{requested_numbers, receiver_numbers, confirmed_with, received_with}
use Rattle.exports.specs.Boxes.{seat_login_numbers, seat_sent_numbers, seat_packet_numbers, box_numbers}
use Rattle.exports.specs.Boxes.{box_confirmed_with, box_received_with, box_received_several_with}
use Rattle.exports.specs.Numbers.{trade_date_numbers, field_numbers, size_numbers, written_numbers, resume_numbers}
use Rattle.exports.specs.Numbers.{dated_flag, date_of, placed_flag, place_number, packet_numbers, plain_numbers}
use Rattle.exports.specs.Numbers.{link_numbers, skipped_numbers, message_numbers}
use Rattle.exports.specs.Items.{item_numbers}
use Rattle.exports.specs.Trading.{trade_time_numbers}
use Rattle.exports.specs.Quotes.{level_numbers, mean_numbers}
use Rattle.exports.specs.Frames.{front_numbers, text_numbers, judged_numbers}
use Rattle.exports.specs.Orders.{order_numbers}
use Rattle.exports.specs.Serving.{sender_numbers, published_with, logged_in_with, sent_with, sent_packet_with}
use Rattle.exports.specs.Several.{received_several_with, published_several_with}
use Rattle.exports.specs.declared.serving.FtdSender.{FtdSender}
use Rattle.exports.specs.declared.receiving.FtdReceiver.{FtdReceiver}
use Rattle.exports.specs.declared.boxes.FtdBox.{FtdBox}
use Rattle.exports.specs.Meaning.Absent.{published_only, logged_in_only, sent_only, sent_packet_only}
use Rattle.exports.specs.Meaning.Absent.{published_several_only, written_only, confirmed_only, received_only}
use Rattle.exports.specs.Meaning.Absent.{received_several_only, box_confirmed_only, box_received_only}
use Rattle.exports.specs.Meaning.Absent.{box_received_several_only, seat_sent_only, seat_packet_only, order_only}
use Rattle.exports.specs.Meaning.Absent.{packet_only, date_only, field_only, size_only, resume_only, item_only}
use Rattle.exports.specs.Meaning.Absent.{trade_time_only, level_only, mean_only, front_only, text_number_only}
use Rattle.exports.specs.Meaning.Absent.{reading_only, AbsentLaws}
use Rattle.exports.proofs.Meaning.{row_zero}
use Rattle.std.specs.Prelude.{Some, None, Ok, Err}
use Rattle.ftd.specs.Types.{MaybeField}
use Rattle.flow.specs.Types.{SendAnswer, PacketSent}
use Rattle.book.specs.Types.{MaybeLevel}
use Rattle.fix.specs.Types.{MaybeFront}
use Rattle.ftd.specs.declared.write.WriteError.TheVariants.{Refused, NotPlain}
use Rattle.ftd.specs.declared.write.WriteError.TheVariants.{NotPlain}

-- ─── The ends ───

published : (e : FtdSender) (a : Published) → published_only (published_with e a) ≡ published_with e a
published e (Ok k) = refl
published e (Err r) = rw (row_zero r) refl

logged-in : (e : FtdSender) (a : LoggedIn) → logged_in_only (logged_in_with e a) ≡ logged_in_with e a
logged-in e (Ok n) = refl
logged-in e (Err r) = rw (row_zero r) refl

sent : (e : FtdSender) (a : SendAnswer) → sent_only (sent_with e a) ≡ sent_with e a
sent e (Ok None) = refl
sent e (Ok (Some found)) = refl
sent e (Err r) = refl

sent-packet : (e : FtdSender) (a : PacketSent) → sent_packet_only (sent_packet_with e a) ≡ sent_packet_with e a
sent-packet e (Ok None) = refl
sent-packet e (Ok (Some found)) = refl
sent-packet e (Err r) = refl

published-several : (e : FtdSender) (taken : ℕ) (a : PublishedSeveral)
    → published_several_only (published_several_with e taken a) ≡ published_several_with e taken a
published-several e taken AllIn = refl
published-several e taken (Cut n) = refl
published-several e taken (RecordRefused r) = refl

requested : (a : Requested) → written_only (requested_numbers a) ≡ requested_numbers a
requested (Ok n) = refl
requested (Err r) = rw (row_zero r) refl

confirmed : (e : FtdReceiver) (a : Confirmed) → confirmed_only (confirmed_with e a) ≡ confirmed_with e a
confirmed e (Ok n) = refl
confirmed e (Err r) = rw (row_zero r) refl

received : (e : FtdReceiver) (a : Received) → received_only (received_with e a) ≡ received_with e a
received e Idle = refl
received e (Duplicate n) = refl
received e (Partial n) = refl
received e (Complete last tid origin content) = refl
received e (NotTaken r) = refl

received-several : (e : FtdReceiver) (taken : ℕ) (a : ReceivedSeveral)
    → received_several_only (received_several_with e taken a) ≡ received_several_with e taken a
received-several e taken End = refl
received-several e taken (Short n) = refl
received-several e taken (StopComplete last tid origin content) = refl
received-several e taken (StopRefused r) = refl

-- ─── The box, and the order of two ends ───

box-confirmed : (b : FtdBox) (a : Confirmed) → box_confirmed_only (box_confirmed_with b a) ≡ box_confirmed_with b a
box-confirmed b (Ok n) = refl
box-confirmed b (Err r) = rw (row_zero r) refl

box-received : (b : FtdBox) (a : Received) → box_received_only (box_received_with b a) ≡ box_received_with b a
box-received b Idle = refl
box-received b (Duplicate n) = refl
box-received b (Partial n) = refl
box-received b (Complete last tid origin content) = refl
box-received b (NotTaken r) = refl

box-received-several : (b : FtdBox) (taken : ℕ) (a : ReceivedSeveral)
    → box_received_several_only (box_received_several_with b taken a) ≡ box_received_several_with b taken a
box-received-several b taken End = refl
box-received-several b taken (Short n) = refl
box-received-several b taken (StopComplete last tid origin content) = refl
box-received-several b taken (StopRefused r) = refl

seat-login : (a : LoggedIn) → written_only (seat_login_numbers a) ≡ seat_login_numbers a
seat-login (Ok n) = refl
seat-login (Err r) = rw (row_zero r) refl

seat-sent : (a : SendAnswer) → seat_sent_only (seat_sent_numbers a) ≡ seat_sent_numbers a
seat-sent (Ok None) = refl
seat-sent (Ok (Some found)) = refl
seat-sent (Err r) = refl

seat-packet : (a : PacketSent) → seat_packet_only (seat_packet_numbers a) ≡ seat_packet_numbers a
seat-packet (Ok None) = refl
seat-packet (Ok (Some found)) = refl
seat-packet (Err r) = refl

order : (o : Order) → order_only (order_numbers o) ≡ order_numbers o
order Same = refl
order FirstStarts = refl
order SecondStarts = refl
order (Differ k) = refl
order (OrderRefused r) = refl

-- ─── Packets, fields, writers, items ───

date-back : (d : TradeDate) → cond (eqb (dated_flag d) 1) (date_of d) 0 ≡ date_of d
date-back None = refl
date-back (Some d) = refl

place-back : (j : PacketPlace) → cond (eqb (placed_flag j) 1) (place_number j) 0 ≡ place_number j
place-back None = refl
place-back (Some j) = refl

read : (k : ℕ) (x : Packet) (d : TradeDate) (j : PacketPlace)
    → packet_only (packet_numbers k x d j) ≡ packet_numbers k x d j
unfolding plain_numbers link_numbers skipped_numbers message_numbers
read k (TooShort n) d j = refl
read k (Link kind e) d j = rw (date-back d, place-back j) refl
read k (Skipped kind e body) d j = refl
read k (Message h e content) d j = rw (date-back d, place-back j) refl
read k (WrongPacket r) d j = refl

trade-date : (d : TradeDate) → date_only (trade_date_numbers d) ≡ trade_date_numbers d
trade-date None = refl
trade-date (Some d) = refl

field : (x : MaybeField) → field_only (field_numbers x) ≡ field_numbers x
field None = refl
field (Some found) = refl

sizes : (x : ChainSize) → size_only (size_numbers x) ≡ size_numbers x
sizes (Ok s) = refl
sizes (Err r) = rw (row_zero r) refl

written : (x : Written) → written_only (written_numbers x) ≡ written_numbers x
written (Ok n) = refl
written (Err (Refused r)) = rw (row_zero r) refl
written (Err NotPlain) = refl

start : (x : Resume) → resume_only (resume_numbers x) ≡ resume_numbers x
start Absent = refl
start (Next series number) = refl
start Misshapen = refl
start Several = refl

item : (x : FieldItem) → item_only (item_numbers x) ≡ item_numbers x
item NoItem = refl
item NoValue = refl
item (Char x) = refl
item (Word x) = refl
item (Int x) = refl
item (Text start len) = refl
item (ItemNumber minus units) = refl
item (Float minus units) = refl
item (Date NoDate) = refl
item (Date Unused) = refl
item (Date (Day y m d)) = refl

-- ─── Calendar, book, frames ───

time : (x : TradeTime) → trade_time_only (trade_time_numbers x) ≡ trade_time_numbers x
time None = refl
time (Some d) = refl

level : (x : MaybeLevel) → level_only (level_numbers x) ≡ level_numbers x
level None = refl
level (Some found) = refl

mean : (x : Mean) → mean_only (mean_numbers x) ≡ mean_numbers x
mean None = refl
mean (Some p) = refl

front : (x : MaybeFront) → front_only (front_numbers x) ≡ front_numbers x
front None = refl
front (Some found) = refl

text : (x : TextNumber) → text_number_only (text_numbers x) ≡ text_numbers x
text None = refl
text (Some n) = refl

reading : (e : ℕ) (a : Judged) → reading_only (judged_numbers e a) ≡ judged_numbers e a
reading e (WrongFrame r) = refl
reading e (NextFrame m) = refl
reading e (AgainFrame m) = refl
reading e (Gap m) = refl
reading e (Reset m) = refl

pub absent-laws : AbsentLaws
absent-laws =
    record {
      published = λ x. published (sender_numbers x.end) x.answer;
      logged-in = λ x. logged-in (sender_numbers x.end) x.answer;
      sent = λ x. sent (sender_numbers x.end) x.answer;
      sent-packet = λ x. sent-packet (sender_numbers x.end) x.answer;
      published-several = λ x. published-several (sender_numbers x.end) x.taken x.answer;
      requested = requested;
      confirmed = λ x. confirmed (receiver_numbers x.end) x.answer;
      received = λ x. received (receiver_numbers x.end) x.answer;
      received-several = λ x. received-several (receiver_numbers x.end) x.taken x.answer;
      box-confirmed = λ x. box-confirmed (box_numbers x.end) x.answer;
      box-received = λ x. box-received (box_numbers x.end) x.answer;
      box-received-several = λ x. box-received-several (box_numbers x.end.box) x.taken x.answer;
      seat-login = seat-login;
      seat-sent = seat-sent;
      seat-packet = seat-packet;
      order = order;
      read = λ k x. read k x.packet x.date x.place;
      trade-date = trade-date;
      field = field;
      sizes = sizes;
      written = written;
      start = start;
      item = item;
      time = time;
      level = level;
      mean = mean;
      front = front;
      text = text;
      reading = λ x. reading x.expected x.answer;
    }
