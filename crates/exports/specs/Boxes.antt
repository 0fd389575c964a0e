-- The box (02, No. 3) as the numbers that C and Rust get and give (include/ftd.h): its state, and what each call
-- answers. What the seats have is lent, as the box has it in code (`box_for`), and is not in the numbers of a box.
use Rattle.std.specs.Prelude.{ℕ, map}
use Rattle.ftd.specs.Refusal.{number_of}
use Rattle.ftd.specs.declared.packet.Span.{Span}
use Rattle.flow.specs.declared.sender.DaySeries.{DaySeries}
use Rattle.flow.specs.declared.sender.Day.{Day}
use Rattle.flow.specs.Types.{Opened}
use Rattle.flow.specs.Types.{LoggedIn}
use Rattle.flow.specs.Types.{Confirmed}
use Rattle.flow.specs.declared.receiver.Origin.{Origin}
use Rattle.flow.specs.declared.receiver.Received.{Received}
use Rattle.flow.specs.declared.receiver.Received.TheVariants.{Idle, Duplicate, Partial, Complete}
use Rattle.flow.specs.declared.receiver.Received.TheVariants.{Refused as NotTaken}
use Rattle.flow.specs.declared.several.ReceivedSeveral.{ReceivedSeveral}
use Rattle.flow.specs.declared.several.ReceivedSeveral.TheVariants.{End, Short}
use Rattle.flow.specs.declared.several.ReceivedSeveral.TheVariants.{Complete as StopComplete}
use Rattle.flow.specs.declared.several.ReceivedSeveral.TheVariants.{Refused as StopRefused}
use Rattle.flow.specs.Ends.{Left}
use Rattle.flow.specs.Several.{Took}
use Rattle.relay.specs.declared.relay.Relay.{Relay}
use Rattle.relay.specs.State.{Box}
use Rattle.relay.specs.Box.{Relayed}
use Rattle.relay.specs.Bufferful.{Logged}
use Rattle.exports.specs.Numbers.{bytes_of, flag, dated_flag, date_of, date_for, span_numbers, no_span}
use Rattle.exports.specs.Serving.{opened_number}
use Rattle.exports.specs.Receiving.{receiver_for, receiver_numbers, origin_number}
use Rattle.exports.specs.declared.written.FtdWritten.{FtdWritten}
use Rattle.exports.specs.declared.boxes.FtdDaySeries.{FtdDaySeries}
use Rattle.exports.specs.declared.boxes.FtdDay.{FtdDay}
use Rattle.exports.specs.declared.boxes.FtdBox.{FtdBox}
use Rattle.exports.specs.declared.boxes.FtdBoxOpened.{FtdBoxOpened}
use Rattle.exports.specs.declared.boxes.FtdBoxConfirmed.{FtdBoxConfirmed}
use Rattle.exports.specs.declared.boxes.FtdBoxReceived.{FtdBoxReceived}
use Rattle.exports.specs.declared.boxes.FtdBoxReceivedSeveral.{FtdBoxReceivedSeveral}
use Rattle.exports.specs.declared.boxes.FtdBoxSent.{FtdBoxSent}
use Rattle.exports.specs.declared.boxes.FtdBoxSentPacket.{FtdBoxSentPacket}
use Rattle.std.specs.Prelude.{Some, None, Ok, Err}
use Rattle.flow.specs.Types.{SendAnswer, PacketSent}

-- ─── The box that numbers say: a trade date unless dated is 0 ───

abbrev pub day_series_for : FtdDaySeries → DaySeries
day_series_for x =
    record { series = x.series; published = x.published; reserve = x.reserve; used = x.used }

unfoldable pub day_for : FtdDay → Day
day_for d =
    record {
      date = date_for d.dated d.date;
      count = d.count;
      series = map day_series_for d.series;
      used = d.used;
    }

-- The reserves are as they are.
abbrev pub relay_for : FtdBox → Relay
relay_for b = record { receiver = receiver_for b.receiver; reserves = b.reserves; day = day_for b.day }

-- ─── The numbers of a box ───

abbrev pub day_series_numbers : DaySeries → FtdDaySeries
day_series_numbers x =
    record { reserve = x.reserve; used = x.used; published = x.published; series = x.series }

unfoldable pub day_numbers : Day → FtdDay
day_numbers d =
    record {
      used = d.used;
      series = map day_series_numbers d.series;
      count = d.count;
      date = date_of d.date;
      dated = dated_flag d.date;
    }

-- The seats are not in them.
abbrev pub box_numbers : Box → FtdBox
box_numbers b =
    record { receiver = receiver_numbers b.receiver; reserves = b.reserves; day = day_numbers b.day }

-- ─── An answer: 0 or the number of the refusal; what an answer does not have is 0 ───

-- Beside the box: the series' last number.
abbrev pub box_confirmed_with : FtdBox → Confirmed → FtdBoxConfirmed
box_confirmed_with b (Ok n) = record { state = b; last = n; refusal = 0 }
box_confirmed_with b (Err r) = record { state = b; last = 0; refusal = number_of r }

-- Beside the box: 0 idle, 1 again, 2 a piece held, 3 a message handed on, 4 refused.
abbrev pub box_plain_with : FtdBox → ℕ → ℕ → ℕ → FtdBoxReceived
box_plain_with b answer last refusal =
    record {
      state = b;
      content = no_span;
      last = last;
      tid = 0;
      answer = answer;
      origin = 0;
      refusal = refusal;
    }

abbrev pub box_complete_with : FtdBox → ℕ → ℕ → Origin → Span → FtdBoxReceived
box_complete_with b last tid origin content =
    record {
      state = b;
      content = span_numbers content;
      last = last;
      tid = tid;
      answer = 3;
      origin = origin_number origin;
      refusal = 0;
    }

abbrev pub box_received_with : FtdBox → Received → FtdBoxReceived
box_received_with b Idle = box_plain_with b 0 0 0
box_received_with b (Duplicate n) = box_plain_with b 1 n 0
box_received_with b (Partial n) = box_plain_with b 2 n 0
box_received_with b (Complete last tid origin content) = box_complete_with b last tid origin content
box_received_with b (NotTaken r) = box_plain_with b 4 0 (number_of r)

-- Of a bufferful (02, No. 8): 0 end, 1 short with the bytes that are missing; as of Receive, 3 a message handed on, 4
-- refused.
abbrev pub box_stopped_with : FtdBox → ℕ → ℕ → ℕ → ℕ → FtdBoxReceivedSeveral
box_stopped_with b taken answer missing refusal =
    record {
      state = b;
      content = no_span;
      taken = taken;
      missing = missing;
      last = 0;
      tid = 0;
      answer = answer;
      origin = 0;
      refusal = refusal;
    }

abbrev pub box_handed_with : FtdBox → ℕ → ℕ → ℕ → Origin → Span → FtdBoxReceivedSeveral
box_handed_with b taken last tid origin content =
    record {
      state = b;
      content = span_numbers content;
      taken = taken;
      missing = 0;
      last = last;
      tid = tid;
      answer = 3;
      origin = origin_number origin;
      refusal = 0;
    }

abbrev pub box_received_several_with : FtdBox → ℕ → ReceivedSeveral → FtdBoxReceivedSeveral
box_received_several_with b taken End = box_stopped_with b taken 0 0 0
box_received_several_with b taken (Short n) = box_stopped_with b taken 1 n 0
box_received_several_with b taken (StopComplete last tid origin content) = box_handed_with b taken last tid origin content
box_received_several_with b taken (StopRefused r) = box_stopped_with b taken 4 0 (number_of r)

-- Of a seat: how many bytes were written;
abbrev pub seat_login_numbers : LoggedIn → FtdWritten
seat_login_numbers x = bytes_of x

-- 0 none left, 1 a message's number and bytes, 2 refused;
abbrev pub seat_sent_numbers : SendAnswer → FtdBoxSent
seat_sent_numbers (Ok None) = record { bytes = 0; number = 0; answer = 0; refusal = 0 }
seat_sent_numbers (Ok (Some found)) = record { bytes = found.len; number = found.number; answer = 1; refusal = 0 }
seat_sent_numbers (Err r) = record { bytes = 0; number = 0; answer = 2; refusal = number_of r }

-- the same, and 1 where it is the message's last packet.
abbrev pub seat_packet_numbers : PacketSent → FtdBoxSentPacket
seat_packet_numbers (Ok None) = record { bytes = 0; number = 0; answer = 0; refusal = 0; last = 0 }
seat_packet_numbers (Ok (Some found)) =
    record { bytes = found.len; number = found.number; answer = 1; refusal = 0; last = flag found.last }
seat_packet_numbers (Err r) = record { bytes = 0; number = 0; answer = 2; refusal = number_of r; last = 0 }

-- ─── What each call leaves ───

abbrev pub box_opened_numbers : Left Box Opened → FtdBoxOpened
box_opened_numbers x = record { state = box_numbers x.end; refusal = opened_number x.answer }

abbrev pub box_confirmed_numbers : Left Box Confirmed → FtdBoxConfirmed
box_confirmed_numbers x = box_confirmed_with (box_numbers x.end) x.answer

abbrev pub box_received_numbers : Relayed → FtdBoxReceived
box_received_numbers x = box_received_with (box_numbers x.end) x.answer

abbrev pub box_received_several_numbers : Took Logged ReceivedSeveral → FtdBoxReceivedSeveral
box_received_several_numbers x = box_received_several_with (box_numbers x.end.box) x.taken x.answer
