-- What an answer does not have is 0 (include/ftd.h, "Rules of all calls", and at each struct): the numbers of an answer
-- with every member that the answer does not have set to 0, as it is said there, are the same numbers.
use Rattle.std.specs.Prelude.{ℕ, ◌≡◌, Bool, cond, not, ◌||◌, eqb, pos}
use Rattle.ftd.specs.Types.{TradeDate}
use Rattle.ftd.specs.declared.packet.Dated.{Dated}
use Rattle.ftd.specs.Types.{ChainSize}
use Rattle.ftd.specs.Types.{Written}
use Rattle.ftd.specs.declared.resume.Resume.{Resume}
use Rattle.ftd.specs.declared.item.FieldItem.{FieldItem}
use Rattle.flow.specs.declared.sender.Sender.{Sender}
use Rattle.flow.specs.Types.{Published}
use Rattle.flow.specs.Types.{LoggedIn}
use Rattle.flow.specs.declared.receiver.Receiver.{Receiver}
use Rattle.flow.specs.Types.{Requested}
use Rattle.flow.specs.Types.{Confirmed}
use Rattle.flow.specs.declared.receiver.Received.{Received}
use Rattle.flow.specs.declared.several.ReceivedSeveral.{ReceivedSeveral}
use Rattle.flow.specs.declared.several.PublishedSeveral.{PublishedSeveral}
use Rattle.flow.specs.Ends.{Left, Wrote}
use Rattle.flow.specs.Several.{Took}
use Rattle.flow.specs.declared.order.Order.{Order}
use Rattle.relay.specs.State.{Box}
use Rattle.relay.specs.Box.{Relayed}
use Rattle.relay.specs.Bufferful.{Logged}
use Rattle.calendar.specs.Types.{TradeTime}
use Rattle.book.specs.Types.{Mean}
use Rattle.fix.specs.Types.{Number as TextNumber}
use Rattle.fix.specs.declared.read.Reading.{Reading}
use Rattle.exports.specs.declared.written.FtdWritten.{FtdWritten}
use Rattle.exports.specs.declared.serving.FtdPublished.{FtdPublished}
use Rattle.exports.specs.declared.serving.FtdLoggedIn.{FtdLoggedIn}
use Rattle.exports.specs.declared.serving.FtdSent.{FtdSent}
use Rattle.exports.specs.declared.serving.FtdSentPacket.{FtdSentPacket}
use Rattle.exports.specs.declared.receiving.FtdConfirmed.{FtdConfirmed}
use Rattle.exports.specs.declared.receiving.FtdReceived.{FtdReceived}
use Rattle.exports.specs.declared.several.FtdReceivedSeveral.{FtdReceivedSeveral}
use Rattle.exports.specs.declared.several.FtdPublishedSeveral.{FtdPublishedSeveral}
use Rattle.exports.specs.declared.boxes.FtdBoxReceived.{FtdBoxReceived}
use Rattle.exports.specs.declared.boxes.FtdBoxReceivedSeveral.{FtdBoxReceivedSeveral}
use Rattle.exports.specs.declared.boxes.FtdBoxSent.{FtdBoxSent}
use Rattle.exports.specs.declared.boxes.FtdBoxSentPacket.{FtdBoxSentPacket}
use Rattle.exports.specs.Serving.{published_numbers, logged_in_numbers, sent_numbers, sent_packet_numbers}
use Rattle.exports.specs.Receiving.{requested_numbers, confirmed_numbers, received_numbers}
use Rattle.exports.specs.Several.{received_several_numbers, published_several_numbers}
use Rattle.exports.specs.Boxes.{box_confirmed_numbers, box_received_numbers, box_received_several_numbers}
use Rattle.exports.specs.Boxes.{seat_login_numbers, seat_sent_numbers, seat_packet_numbers}
use Rattle.exports.specs.declared.FtdPacket.{FtdPacket}
use Rattle.exports.specs.declared.FtdField.{FtdField}
use Rattle.exports.specs.declared.FtdSize.{FtdSize}
use Rattle.exports.specs.declared.tags.FtdDate.{FtdDate}
use Rattle.exports.specs.declared.resume.FtdResume.{FtdResume}
use Rattle.exports.specs.declared.items.FtdItem.{FtdItem}
use Rattle.exports.specs.declared.trading.FtdTradeTime.{FtdTradeTime}
use Rattle.exports.specs.declared.quotes.FtdListed.{FtdListed}
use Rattle.exports.specs.declared.quotes.FtdMean.{FtdMean}
use Rattle.exports.specs.declared.frames.FtdTagged.{FtdTagged}
use Rattle.exports.specs.declared.frames.FtdNumber.{FtdNumber}
use Rattle.exports.specs.Numbers.{trade_date_numbers, dated_numbers, field_numbers, size_numbers, written_numbers}
use Rattle.exports.specs.Numbers.{resume_numbers, no_span}
use Rattle.exports.specs.Items.{item_numbers}
use Rattle.exports.specs.Trading.{trade_time_numbers}
use Rattle.exports.specs.Quotes.{level_numbers, mean_numbers}
use Rattle.exports.specs.Frames.{front_numbers, text_numbers, reading_numbers}
use Rattle.exports.specs.declared.frames.FtdReading.{FtdReading}
use Rattle.exports.specs.declared.orders.FtdOrder.{FtdOrder}
use Rattle.exports.specs.Orders.{order_numbers}
use Rattle.exports.specs.declared.boxes.FtdBoxConfirmed.{FtdBoxConfirmed}
use Rattle.ftd.specs.Types.{MaybeField}
use Rattle.flow.specs.Types.{SendAnswer, PacketSent}
use Rattle.book.specs.Types.{MaybeLevel}
use Rattle.fix.specs.Types.{MaybeFront}

-- ─── The ends ───

abbrev pub published_only : FtdPublished → FtdPublished
published_only n =
    record {
      end = n.end;
      number = cond (eqb n.refusal 0) n.number 0;
      refusal = n.refusal;
    }

abbrev pub logged_in_only : FtdLoggedIn → FtdLoggedIn
logged_in_only n =
    record {
      end = n.end;
      bytes = cond (eqb n.refusal 0) n.bytes 0;
      refusal = n.refusal;
    }

abbrev pub sent_only : FtdSent → FtdSent
sent_only n =
    record {
      end = n.end;
      bytes = cond (eqb n.answer 1) n.bytes 0;
      number = cond (eqb n.answer 1) n.number 0;
      answer = n.answer;
      refusal = cond (eqb n.answer 2) n.refusal 0;
    }

abbrev pub sent_packet_only : FtdSentPacket → FtdSentPacket
sent_packet_only n =
    record {
      end = n.end;
      bytes = cond (eqb n.answer 1) n.bytes 0;
      number = cond (eqb n.answer 1) n.number 0;
      answer = n.answer;
      refusal = cond (eqb n.answer 2) n.refusal 0;
      last = cond (eqb n.answer 1) n.last 0;
    }

abbrev pub published_several_only : FtdPublishedSeveral → FtdPublishedSeveral
published_several_only n =
    record {
      end = n.end;
      taken = n.taken;
      missing = cond (eqb n.answer 1) n.missing 0;
      answer = n.answer;
      refusal = cond (eqb n.answer 4) n.refusal 0;
    }

abbrev pub written_only : FtdWritten → FtdWritten
written_only n =
    record {
      bytes = cond (eqb n.refusal 0) n.bytes 0;
      refusal = n.refusal;
    }

abbrev pub confirmed_only : FtdConfirmed → FtdConfirmed
confirmed_only n =
    record {
      end = n.end;
      last = cond (eqb n.refusal 0) n.last 0;
      refusal = n.refusal;
    }

abbrev pub received_only : FtdReceived → FtdReceived
received_only n =
    record {
      end = n.end;
      content = cond (eqb n.answer 3) n.content no_span;
      last = cond (eqb n.answer 1 || (eqb n.answer 2 || eqb n.answer 3)) n.last 0;
      tid = cond (eqb n.answer 3) n.tid 0;
      answer = n.answer;
      origin = cond (eqb n.answer 3) n.origin 0;
      refusal = cond (eqb n.answer 4) n.refusal 0;
    }

abbrev pub received_several_only : FtdReceivedSeveral → FtdReceivedSeveral
received_several_only n =
    record {
      end = n.end;
      content = cond (eqb n.answer 3) n.content no_span;
      taken = n.taken;
      missing = cond (eqb n.answer 1) n.missing 0;
      last = cond (eqb n.answer 3) n.last 0;
      tid = cond (eqb n.answer 3) n.tid 0;
      answer = n.answer;
      origin = cond (eqb n.answer 3) n.origin 0;
      refusal = cond (eqb n.answer 4) n.refusal 0;
    }

-- ─── The box and the order ───

abbrev pub box_confirmed_only : FtdBoxConfirmed → FtdBoxConfirmed
box_confirmed_only n =
    record {
      state = n.state;
      last = cond (eqb n.refusal 0) n.last 0;
      refusal = n.refusal;
    }

abbrev pub box_received_only : FtdBoxReceived → FtdBoxReceived
box_received_only n =
    record {
      state = n.state;
      content = cond (eqb n.answer 3) n.content no_span;
      last = cond (eqb n.answer 1 || (eqb n.answer 2 || eqb n.answer 3)) n.last 0;
      tid = cond (eqb n.answer 3) n.tid 0;
      answer = n.answer;
      origin = cond (eqb n.answer 3) n.origin 0;
      refusal = cond (eqb n.answer 4) n.refusal 0;
    }

abbrev pub box_received_several_only : FtdBoxReceivedSeveral → FtdBoxReceivedSeveral
box_received_several_only n =
    record {
      state = n.state;
      content = cond (eqb n.answer 3) n.content no_span;
      taken = n.taken;
      missing = cond (eqb n.answer 1) n.missing 0;
      last = cond (eqb n.answer 3) n.last 0;
      tid = cond (eqb n.answer 3) n.tid 0;
      answer = n.answer;
      origin = cond (eqb n.answer 3) n.origin 0;
      refusal = cond (eqb n.answer 4) n.refusal 0;
    }

abbrev pub seat_sent_only : FtdBoxSent → FtdBoxSent
seat_sent_only n =
    record {
      bytes = cond (eqb n.answer 1) n.bytes 0;
      number = cond (eqb n.answer 1) n.number 0;
      answer = n.answer;
      refusal = cond (eqb n.answer 2) n.refusal 0;
    }

abbrev pub seat_packet_only : FtdBoxSentPacket → FtdBoxSentPacket
seat_packet_only n =
    record {
      bytes = cond (eqb n.answer 1) n.bytes 0;
      number = cond (eqb n.answer 1) n.number 0;
      answer = n.answer;
      refusal = cond (eqb n.answer 2) n.refusal 0;
      last = cond (eqb n.answer 1) n.last 0;
    }

abbrev pub order_only : FtdOrder → FtdOrder
order_only n =
    record {
      number = cond (eqb n.answer 3) n.number 0;
      answer = n.answer;
      refusal = cond (eqb n.answer 4) n.refusal 0;
    }

-- ─── Packets, fields, writers, items ───

abbrev pub packet_only : FtdPacket → FtdPacket
packet_only n =
    record {
      size = cond (eqb n.answer 1 || (eqb n.answer 2 || eqb n.answer 3)) n.size 0;
      missing = cond (eqb n.answer 0) n.missing 0;
      extension = cond (eqb n.answer 1 || (eqb n.answer 2 || eqb n.answer 3)) n.extension no_span;
      content = cond (eqb n.answer 2 || eqb n.answer 3) n.content no_span;
      tid = cond (eqb n.answer 3) n.tid 0;
      number = cond (eqb n.answer 3) n.number 0;
      date = cond (eqb n.dated 1) n.date 0;
      series = cond (eqb n.answer 3) n.series 0;
      fields = cond (eqb n.answer 3) n.fields 0;
      place = cond (eqb n.placed 1) n.place 0;
      answer = n.answer;
      refusal = cond (eqb n.answer 4) n.refusal 0;
      kind = cond (eqb n.answer 1 || (eqb n.answer 2 || eqb n.answer 3)) n.kind 0;
      chain = cond (eqb n.answer 3) n.chain 0;
      dated = cond (eqb n.answer 1 || eqb n.answer 3) n.dated 0;
      placed = cond (eqb n.answer 1 || eqb n.answer 3) n.placed 0;
    }

abbrev pub date_only : FtdDate → FtdDate
date_only n =
    record {
      date = cond (eqb n.dated 1) n.date 0;
      dated = n.dated;
    }

abbrev pub field_only : FtdField → FtdField
field_only n =
    record {
      start = cond (eqb n.found 1) n.start 0;
      len = cond (eqb n.found 1) n.len 0;
      fid = cond (eqb n.found 1) n.fid 0;
      found = n.found;
    }

abbrev pub size_only : FtdSize → FtdSize
size_only n =
    record {
      packets = cond (eqb n.refusal 0) n.packets 0;
      bytes = cond (eqb n.refusal 0) n.bytes 0;
      refusal = n.refusal;
    }

abbrev pub resume_only : FtdResume → FtdResume
resume_only n =
    record {
      number = cond (eqb n.answer 1) n.number 0;
      series = cond (eqb n.answer 1) n.series 0;
      answer = n.answer;
    }

-- Char, Word, Int, Number and Float.
abbrev pub has_value : ℕ → Bool
has_value kind = eqb kind 2 || (eqb kind 3 || (eqb kind 4 || (eqb kind 6 || eqb kind 7)))

abbrev pub item_only : FtdItem → FtdItem
item_only n =
    record {
      start = cond (eqb n.kind 5) n.start 0;
      len = cond (eqb n.kind 5) n.len 0;
      value = cond (has_value n.kind) n.value 0;
      year = cond (eqb n.kind 8) n.year 0;
      month = cond (eqb n.kind 8) n.month 0;
      day = cond (eqb n.kind 8) n.day 0;
      kind = n.kind;
      negative = cond (eqb n.kind 6 || eqb n.kind 7) n.negative 0;
    }

-- ─── Calendar, book, frames ───

abbrev pub trade_time_only : FtdTradeTime → FtdTradeTime
trade_time_only n =
    record {
      date = cond (eqb n.inside 1) n.date 0;
      inside = n.inside;
    }

abbrev pub level_only : FtdListed → FtdListed
level_only n =
    record {
      price = cond (eqb n.found 1) n.price (pos 0);
      quantity = cond (eqb n.found 1) n.quantity 0;
      found = n.found;
    }

abbrev pub mean_only : FtdMean → FtdMean
mean_only n =
    record {
      price = cond (eqb n.found 1) n.price (pos 0);
      found = n.found;
    }

abbrev pub front_only : FtdTagged → FtdTagged
front_only n =
    record {
      start = cond (eqb n.found 1) n.start 0;
      len = cond (eqb n.found 1) n.len 0;
      tag = cond (eqb n.found 1) n.tag 0;
      found = n.found;
    }

abbrev pub text_number_only : FtdNumber → FtdNumber
text_number_only n =
    record {
      number = cond (eqb n.found 1) n.number 0;
      found = n.found;
    }

abbrev pub reading_only : FtdReading → FtdReading
reading_only n =
    record {
      name = cond (not (eqb n.answer 0)) n.name no_span;
      fields = cond (not (eqb n.answer 0)) n.fields no_span;
      text = cond (not (eqb n.answer 0)) n.text no_span;
      expected = n.expected;
      number = cond (not (eqb n.answer 0)) n.number 0;
      first = cond (not (eqb n.answer 0)) n.first 0;
      second = cond (not (eqb n.answer 0)) n.second 0;
      answer = n.answer;
      refusal = cond (eqb n.answer 0) n.refusal 0;
      kind = cond (not (eqb n.answer 0)) n.kind 0;
      fill = cond (not (eqb n.answer 0)) n.fill 0;
    }

-- ─── The statement ───

pub record AbsentLaws : Type 0 where
  -- The ends.
  pub published : (x : Wrote Sender Published) → published_only (published_numbers x) ≡ published_numbers x
  pub logged-in : (x : Wrote Sender LoggedIn) → logged_in_only (logged_in_numbers x) ≡ logged_in_numbers x
  pub sent : (x : Wrote Sender SendAnswer) → sent_only (sent_numbers x) ≡ sent_numbers x
  pub sent-packet : (x : Wrote Sender PacketSent) → sent_packet_only (sent_packet_numbers x) ≡ sent_packet_numbers x
  pub published-several : (x : Took Sender PublishedSeveral)
      → published_several_only (published_several_numbers x) ≡ published_several_numbers x
  pub requested : (a : Requested) → written_only (requested_numbers a) ≡ requested_numbers a
  pub confirmed : (x : Left Receiver Confirmed) → confirmed_only (confirmed_numbers x) ≡ confirmed_numbers x
  pub received : (x : Wrote Receiver Received) → received_only (received_numbers x) ≡ received_numbers x
  pub received-several : (x : Took Receiver ReceivedSeveral)
      → received_several_only (received_several_numbers x) ≡ received_several_numbers x
  -- The box, and the order of two ends.
  pub box-confirmed : (x : Left Box Confirmed) → box_confirmed_only (box_confirmed_numbers x) ≡ box_confirmed_numbers x
  pub box-received : (x : Relayed) → box_received_only (box_received_numbers x) ≡ box_received_numbers x
  pub box-received-several : (x : Took Logged ReceivedSeveral)
      → box_received_several_only (box_received_several_numbers x) ≡ box_received_several_numbers x
  pub seat-login : (a : LoggedIn) → written_only (seat_login_numbers a) ≡ seat_login_numbers a
  pub seat-sent : (a : SendAnswer) → seat_sent_only (seat_sent_numbers a) ≡ seat_sent_numbers a
  pub seat-packet : (a : PacketSent) → seat_packet_only (seat_packet_numbers a) ≡ seat_packet_numbers a
  pub order : (o : Order) → order_only (order_numbers o) ≡ order_numbers o
  -- Packets, fields, writers, items.
  pub read : (k : ℕ) (x : Dated) → packet_only (dated_numbers k x) ≡ dated_numbers k x
  pub trade-date : (d : TradeDate) → date_only (trade_date_numbers d) ≡ trade_date_numbers d
  pub field : (x : MaybeField) → field_only (field_numbers x) ≡ field_numbers x
  pub sizes : (x : ChainSize) → size_only (size_numbers x) ≡ size_numbers x
  pub written : (x : Written) → written_only (written_numbers x) ≡ written_numbers x
  pub start : (x : Resume) → resume_only (resume_numbers x) ≡ resume_numbers x
  pub item : (x : FieldItem) → item_only (item_numbers x) ≡ item_numbers x
  -- Calendar, book, frames.
  pub time : (x : TradeTime) → trade_time_only (trade_time_numbers x) ≡ trade_time_numbers x
  pub level : (x : MaybeLevel) → level_only (level_numbers x) ≡ level_numbers x
  pub mean : (x : Mean) → mean_only (mean_numbers x) ≡ mean_numbers x
  pub front : (x : MaybeFront) → front_only (front_numbers x) ≡ front_numbers x
  pub text : (x : TextNumber) → text_number_only (text_numbers x) ≡ text_numbers x
  pub reading : (x : Reading) → reading_only (reading_numbers x) ≡ reading_numbers x
