-- The receiving end as the numbers that C and Rust get and give (include/ftd.h): its state, and what each call
-- answers.
use Rattle.std.specs.Prelude.{ℕ, map, not, eqb}
use Rattle.ftd.specs.Refusal.{number_of}
use Rattle.ftd.specs.declared.packet.Span.{Span}
use Rattle.flow.specs.Types.{Opened}
use Rattle.flow.specs.declared.receiver.KeptSeries.{KeptSeries}
use Rattle.flow.specs.declared.receiver.LiveSeries.{LiveSeries}
use Rattle.flow.specs.declared.receiver.Receiver.{Receiver}
use Rattle.flow.specs.Types.{Requested}
use Rattle.flow.specs.Types.{Confirmed}
use Rattle.flow.specs.declared.receiver.Origin.{Origin}
use Rattle.flow.specs.declared.receiver.Origin.TheVariants.{Packet, Buffer}
use Rattle.flow.specs.declared.receiver.Received.{Received}
use Rattle.flow.specs.declared.receiver.Received.TheVariants.{Idle, Duplicate, Partial, Complete}
use Rattle.flow.specs.declared.receiver.Received.TheVariants.{Refused as NotTaken}
use Rattle.flow.specs.Ends.{Left, Wrote, receiver}
use Rattle.exports.specs.Numbers.{bytes_of, flag, dated_flag, date_of, date_for, paired, span_numbers}
use Rattle.exports.specs.Serving.{opened_number}
use Rattle.exports.specs.declared.written.FtdWritten.{FtdWritten}
use Rattle.exports.specs.declared.receiving.FtdKept.{FtdKept}
use Rattle.exports.specs.declared.receiving.FtdReceiver.{FtdReceiver}
use Rattle.exports.specs.declared.receiving.FtdReceiverOpened.{FtdReceiverOpened}
use Rattle.exports.specs.declared.receiving.FtdConfirmed.{FtdConfirmed}
use Rattle.exports.specs.declared.receiving.FtdReceived.{FtdReceived}
use Rattle.std.specs.Prelude.{Ok, Err}

-- ─── The end that numbers say: any number but 0 is true, and a trade date unless dated is 0 ───

abbrev pub kept_for : FtdKept → KeptSeries
kept_for x = record { series = x.series; date = date_for x.dated x.date; last = x.last }

abbrev pub live_for : FtdKept → LiveSeries
live_for x =
    record {
      login = not (eqb x.login 0);
      chain = not (eqb x.chain 0);
      tid = x.tid;
      held = x.held;
      pieces = x.pieces;
    }

unfoldable pub receiver_for : FtdReceiver → Receiver
receiver_for s = receiver s.count (map kept_for s.series) (map live_for s.series)

-- ─── The numbers of an end ───

abbrev pub kept_numbers : KeptSeries → LiveSeries → FtdKept
kept_numbers k l =
    record {
      held = l.held;
      date = date_of k.date;
      last = k.last;
      tid = l.tid;
      pieces = l.pieces;
      series = k.series;
      dated = dated_flag k.date;
      login = flag l.login;
      chain = flag l.chain;
    }

unfoldable pub receiver_numbers : Receiver → FtdReceiver
receiver_numbers e =
    record { series = paired kept_numbers e.kept.series e.live.series; count = e.kept.count }

-- ─── An answer beside the end: 0 or the number of the refusal; what an answer does not have is 0 ───

-- How many bytes Ask wrote; the end stays.
abbrev pub requested_numbers : Requested → FtdWritten
requested_numbers x = bytes_of x

-- The series' last number.
abbrev pub confirmed_with : FtdReceiver → Confirmed → FtdConfirmed
confirmed_with e (Ok n) = record { end = e; last = n; refusal = 0 }
confirmed_with e (Err r) = record { end = e; last = 0; refusal = number_of r }

-- Where the content lies: 0 in the packet, 1 in the reassembly buffer.
abbrev pub origin_number : Origin → ℕ
origin_number Packet = 0
origin_number Buffer = 1

-- 0 idle, 1 again, 2 a piece held, 3 a message handed on, 4 refused.
abbrev pub plain_with : FtdReceiver → ℕ → ℕ → ℕ → FtdReceived
plain_with e answer last refusal =
    record {
      end = e;
      content = record { start = 0; len = 0 };
      last = last;
      tid = 0;
      answer = answer;
      origin = 0;
      refusal = refusal;
    }

abbrev pub complete_with : FtdReceiver → ℕ → ℕ → Origin → Span → FtdReceived
complete_with e last tid origin content =
    record {
      end = e;
      content = span_numbers content;
      last = last;
      tid = tid;
      answer = 3;
      origin = origin_number origin;
      refusal = 0;
    }

abbrev pub received_with : FtdReceiver → Received → FtdReceived
received_with e Idle = plain_with e 0 0 0
received_with e (Duplicate n) = plain_with e 1 n 0
received_with e (Partial n) = plain_with e 2 n 0
received_with e (Complete last tid origin content) = complete_with e last tid origin content
received_with e (NotTaken r) = plain_with e 4 0 (number_of r)

-- ─── What each call leaves ───

abbrev pub end_opened_numbers : Left Receiver Opened → FtdReceiverOpened
end_opened_numbers x = record { end = receiver_numbers x.end; refusal = opened_number x.answer }

abbrev pub confirmed_numbers : Left Receiver Confirmed → FtdConfirmed
confirmed_numbers x = confirmed_with (receiver_numbers x.end) x.answer

abbrev pub received_numbers : Wrote Receiver Received → FtdReceived
received_numbers x = received_with (receiver_numbers x.end) x.answer
