-- A bufferful (02, No. 8) as the numbers that C and Rust get (include/ftd.h): the end, how many bytes were taken, and
-- the answer. What an answer does not have is 0.
use Rattle.std.specs.Prelude.{ℕ}
use Rattle.ftd.specs.Refusal.{number_of}
use Rattle.ftd.specs.declared.packet.Span.{Span}
use Rattle.flow.specs.declared.sender.Sender.{Sender}
use Rattle.flow.specs.declared.receiver.Receiver.{Receiver}
use Rattle.flow.specs.declared.receiver.Origin.{Origin}
use Rattle.flow.specs.declared.several.ReceivedSeveral.{ReceivedSeveral}
use Rattle.flow.specs.declared.several.ReceivedSeveral.TheVariants.{End, Short, Complete}
use Rattle.flow.specs.declared.several.ReceivedSeveral.TheVariants.{Refused as NotTaken}
use Rattle.flow.specs.declared.several.PublishedSeveral.{PublishedSeveral}
use Rattle.flow.specs.declared.several.PublishedSeveral.TheVariants.{End as AllIn, Short as Cut}
use Rattle.flow.specs.declared.several.PublishedSeveral.TheVariants.{Refused as NotPublished}
use Rattle.flow.specs.Several.{Took}
use Rattle.exports.specs.Numbers.{span_numbers}
use Rattle.exports.specs.Serving.{sender_numbers}
use Rattle.exports.specs.Receiving.{origin_number, receiver_numbers}
use Rattle.exports.specs.declared.serving.FtdSender.{FtdSender}
use Rattle.exports.specs.declared.receiving.FtdReceiver.{FtdReceiver}
use Rattle.exports.specs.declared.several.FtdReceivedSeveral.{FtdReceivedSeveral}
use Rattle.exports.specs.declared.several.FtdPublishedSeveral.{FtdPublishedSeveral}

-- ─── Packets: 0 end, 1 short with the bytes that are missing; as of Receive, 3 a message handed on, 4 refused ───

abbrev pub stopped_with : FtdReceiver → ℕ → ℕ → ℕ → ℕ → FtdReceivedSeveral
stopped_with e taken answer missing refusal =
    record {
      end = e;
      content = record { start = 0; len = 0 };
      taken = taken;
      missing = missing;
      last = 0;
      tid = 0;
      answer = answer;
      origin = 0;
      refusal = refusal;
    }

abbrev pub handed_with : FtdReceiver → ℕ → ℕ → ℕ → Origin → Span → FtdReceivedSeveral
handed_with e taken last tid origin content =
    record {
      end = e;
      content = span_numbers content;
      taken = taken;
      missing = 0;
      last = last;
      tid = tid;
      answer = 3;
      origin = origin_number origin;
      refusal = 0;
    }

abbrev pub received_several_with : FtdReceiver → ℕ → ReceivedSeveral → FtdReceivedSeveral
received_several_with e taken End = stopped_with e taken 0 0 0
received_several_with e taken (Short n) = stopped_with e taken 1 n 0
received_several_with e taken (Complete last tid origin content) = handed_with e taken last tid origin content
received_several_with e taken (NotTaken r) = stopped_with e taken 4 0 (number_of r)

abbrev pub received_several_numbers : Took Receiver ReceivedSeveral → FtdReceivedSeveral
received_several_numbers x = received_several_with (receiver_numbers x.end) x.taken x.answer

-- ─── Records: the same numbers, and no message ───

abbrev pub published_several_with : FtdSender → ℕ → PublishedSeveral → FtdPublishedSeveral
published_several_with e taken AllIn = record { end = e; taken = taken; missing = 0; answer = 0; refusal = 0 }
published_several_with e taken (Cut n) = record { end = e; taken = taken; missing = n; answer = 1; refusal = 0 }
published_several_with e taken (NotPublished r) =
    record { end = e; taken = taken; missing = 0; answer = 4; refusal = number_of r }

abbrev pub published_several_numbers : Took Sender PublishedSeveral → FtdPublishedSeveral
published_several_numbers x = published_several_with (sender_numbers x.end) x.taken x.answer
