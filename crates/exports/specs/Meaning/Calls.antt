-- The answers of the two ends, of named places and of the box: what their numbers mean (include/ftd.h), and that each
-- call's numbers mean its answer. With `EndLaws` and `BoxLaws`, which speak of the state beside it, a driver is told
-- all that the call answers. Answers of the box have the members of those of the ends and mean the same.
use Rattle.std.specs.Prelude.{ℕ, ◌≡◌, false, cond, eqb}
use Rattle.ftd.specs.Refusal.{number_of}
use Rattle.ftd.specs.declared.refusal.Refusal.{Refusal}
use Rattle.flow.specs.declared.sender.Sender.{Sender}
use Rattle.flow.specs.Types.{Opened}
use Rattle.flow.specs.Types.{Published}
use Rattle.flow.specs.Types.{LoggedIn}
use Rattle.flow.specs.declared.receiver.Receiver.{Receiver}
use Rattle.flow.specs.Types.{Requested}
use Rattle.flow.specs.Types.{Confirmed}
use Rattle.flow.specs.declared.receiver.Origin.{Origin}
use Rattle.flow.specs.declared.receiver.Origin.TheVariants.{Packet, Buffer}
use Rattle.flow.specs.declared.receiver.Received.{Received}
use Rattle.flow.specs.declared.receiver.Received.TheVariants.{Idle, Duplicate, Partial, Complete}
use Rattle.flow.specs.declared.receiver.Received.TheVariants.{Refused as NotTaken}
use Rattle.flow.specs.declared.several.ReceivedSeveral.{ReceivedSeveral}
use Rattle.flow.specs.declared.several.ReceivedSeveral.TheVariants.{End, Short}
use Rattle.flow.specs.declared.several.ReceivedSeveral.TheVariants.{Complete as StopComplete}
use Rattle.flow.specs.declared.several.ReceivedSeveral.TheVariants.{Refused as StopRefused}
use Rattle.flow.specs.declared.several.PublishedSeveral.{PublishedSeveral}
use Rattle.flow.specs.declared.several.PublishedSeveral.TheVariants.{End as AllIn, Short as Cut}
use Rattle.flow.specs.declared.several.PublishedSeveral.TheVariants.{Refused as RecordRefused}
use Rattle.flow.specs.declared.checkpoint.Checkpoints.{Checkpoints}
use Rattle.flow.specs.Types.{Saved}
use Rattle.flow.specs.Types.{Restored}
use Rattle.flow.specs.Ends.{Left, Wrote}
use Rattle.flow.specs.Several.{Took}
use Rattle.relay.specs.State.{Box}
use Rattle.relay.specs.Box.{Relayed}
use Rattle.relay.specs.Bufferful.{Logged}
use Rattle.exports.specs.declared.FtdSpan.{FtdSpan}
use Rattle.exports.specs.declared.written.FtdWritten.{FtdWritten}
use Rattle.exports.specs.declared.serving.FtdPublished.{FtdPublished}
use Rattle.exports.specs.declared.serving.FtdLoggedIn.{FtdLoggedIn}
use Rattle.exports.specs.declared.serving.FtdSent.{FtdSent}
use Rattle.exports.specs.declared.serving.FtdSentPacket.{FtdSentPacket}
use Rattle.exports.specs.declared.receiving.FtdConfirmed.{FtdConfirmed}
use Rattle.exports.specs.declared.receiving.FtdReceived.{FtdReceived}
use Rattle.exports.specs.declared.several.FtdReceivedSeveral.{FtdReceivedSeveral}
use Rattle.exports.specs.declared.several.FtdPublishedSeveral.{FtdPublishedSeveral}
use Rattle.exports.specs.declared.boxes.FtdBoxReceived.{FtdBoxReceived}
use Rattle.exports.specs.declared.boxes.FtdBoxReceivedSeveral.{FtdBoxReceivedSeveral}
use Rattle.exports.specs.declared.boxes.FtdBoxSent.{FtdBoxSent}
use Rattle.exports.specs.declared.boxes.FtdBoxSentPacket.{FtdBoxSentPacket}
use Rattle.exports.specs.Serving.{day_opened_numbers, published_numbers, logged_in_numbers, sent_numbers}
use Rattle.exports.specs.Serving.{sent_packet_numbers}
use Rattle.exports.specs.Receiving.{end_opened_numbers, requested_numbers, confirmed_numbers, received_numbers}
use Rattle.exports.specs.Several.{received_several_numbers, published_several_numbers}
use Rattle.exports.specs.Keeping.{kept_step_numbers, returned_numbers}
use Rattle.exports.specs.Boxes.{box_opened_numbers, box_confirmed_numbers, box_received_numbers}
use Rattle.exports.specs.Boxes.{box_received_several_numbers, seat_login_numbers, seat_sent_numbers, seat_packet_numbers}
use Rattle.exports.specs.Meaning.{row_for, or_refused, bool_for, span_for}
use Rattle.std.specs.Prelude.{None, Ok, Err}
use Rattle.flow.specs.Types.{SendAnswer, message_sent, PacketSent, packet_sent}

-- ─── By the members ───

-- Opening: refusal.
abbrev pub opened_for : ℕ → Opened
opened_for refusal = or_refused refusal Err (Ok tt)

-- Login: bytes, refusal.
abbrev pub logged_in_for : ℕ → ℕ → LoggedIn
logged_in_for bytes refusal = or_refused refusal Err (Ok bytes)

-- Answer: last, refusal.
abbrev pub confirmed_for : ℕ → ℕ → Confirmed
confirmed_for last refusal = or_refused refusal Err (Ok last)

-- Keep and return: refusal.
abbrev pub saved_for : ℕ → Saved
saved_for refusal = or_refused refusal Err (Ok tt)

abbrev pub restored_for : ℕ → Restored
restored_for refusal = or_refused refusal Err (Ok tt)

-- enum ftd_send_answer: answer, number, bytes, refusal.
unfoldable pub sent_for : ℕ → ℕ → ℕ → ℕ → SendAnswer
sent_for answer number bytes refusal =
    cond (eqb answer 0) (Ok None)
    (cond (eqb answer 1) (message_sent number bytes)
    (Err (row_for refusal)))

-- The same of one packet, with last.
unfoldable pub sent_packet_for : ℕ → ℕ → ℕ → ℕ → ℕ → PacketSent
sent_packet_for answer number bytes last refusal =
    cond (eqb answer 0) (Ok None)
    (cond (eqb answer 1) (packet_sent number bytes (bool_for last))
    (Err (row_for refusal)))

-- enum ftd_origin.
abbrev pub origin_for : ℕ → Origin
origin_for n = cond (eqb n 0) Packet Buffer

-- enum ftd_receive_answer: answer, last, tid, origin, content, refusal.
unfoldable pub received_for : ℕ → ℕ → ℕ → ℕ → FtdSpan → ℕ → Received
received_for answer last tid origin content refusal =
    cond (eqb answer 0) Idle
    (cond (eqb answer 1) (Duplicate last)
    (cond (eqb answer 2) (Partial last)
    (cond (eqb answer 3) (Complete last tid (origin_for origin) (span_for content))
    (NotTaken (row_for refusal)))))

-- enum ftd_several_answer, of packets: answer, missing, last, tid, origin, content, refusal.
unfoldable pub received_several_for : ℕ → ℕ → ℕ → ℕ → ℕ → FtdSpan → ℕ → ReceivedSeveral
received_several_for answer missing last tid origin content refusal =
    cond (eqb answer 0) End
    (cond (eqb answer 1) (Short missing)
    (cond (eqb answer 3) (StopComplete last tid (origin_for origin) (span_for content))
    (StopRefused (row_for refusal))))

-- Of records: answer, missing, refusal.
unfoldable pub published_several_for : ℕ → ℕ → ℕ → PublishedSeveral
published_several_for answer missing refusal =
    cond (eqb answer 0) AllIn
    (cond (eqb answer 1) (Cut missing)
    (RecordRefused (row_for refusal)))

-- ─── By the struct ───

abbrev pub published_by : FtdPublished → Published
published_by n = or_refused n.refusal Err (Ok n.number)

abbrev pub logged_in_by : FtdLoggedIn → LoggedIn
logged_in_by n = logged_in_for n.bytes n.refusal

abbrev pub sent_by : FtdSent → SendAnswer
sent_by n = sent_for n.answer n.number n.bytes n.refusal

abbrev pub sent_packet_by : FtdSentPacket → PacketSent
sent_packet_by n = sent_packet_for n.answer n.number n.bytes n.last n.refusal

abbrev pub requested_by : FtdWritten → Requested
requested_by n = or_refused n.refusal Err (Ok n.bytes)

abbrev pub confirmed_by : FtdConfirmed → Confirmed
confirmed_by n = confirmed_for n.last n.refusal

abbrev pub received_by : FtdReceived → Received
received_by n = received_for n.answer n.last n.tid n.origin n.content n.refusal

abbrev pub received_several_by : FtdReceivedSeveral → ReceivedSeveral
received_several_by n =
    received_several_for n.answer n.missing n.last n.tid n.origin n.content n.refusal

abbrev pub published_several_by : FtdPublishedSeveral → PublishedSeveral
published_several_by n = published_several_for n.answer n.missing n.refusal

-- Of the box.
abbrev pub box_received_by : FtdBoxReceived → Received
box_received_by n = received_for n.answer n.last n.tid n.origin n.content n.refusal

abbrev pub box_received_several_by : FtdBoxReceivedSeveral → ReceivedSeveral
box_received_several_by n =
    received_several_for n.answer n.missing n.last n.tid n.origin n.content n.refusal

abbrev pub seat_login_by : FtdWritten → LoggedIn
seat_login_by n = logged_in_for n.bytes n.refusal

abbrev pub seat_sent_by : FtdBoxSent → SendAnswer
seat_sent_by n = sent_for n.answer n.number n.bytes n.refusal

abbrev pub seat_packet_by : FtdBoxSentPacket → PacketSent
seat_packet_by n = sent_packet_for n.answer n.number n.bytes n.last n.refusal

-- ─── The statement ───

pub record AnswerLaws : Type 0 where
  -- The number of a refusal is that of its row, and never 0: what is not refused has 0.
  pub row : (r : Refusal) → row_for (number_of r) ≡ r
  pub never-zero : (r : Refusal) → eqb (number_of r) 0 ≡ false
  -- The serving end.
  pub day-opened : (x : Left Sender Opened) → opened_for (day_opened_numbers x).refusal ≡ x.answer
  pub published : (x : Wrote Sender Published) → published_by (published_numbers x) ≡ x.answer
  pub logged-in : (x : Wrote Sender LoggedIn) → logged_in_by (logged_in_numbers x) ≡ x.answer
  pub sent : (x : Wrote Sender SendAnswer) → sent_by (sent_numbers x) ≡ x.answer
  pub sent-packet : (x : Wrote Sender PacketSent) → sent_packet_by (sent_packet_numbers x) ≡ x.answer
  pub published-several : (x : Took Sender PublishedSeveral)
      → published_several_by (published_several_numbers x) ≡ x.answer
  pub records-taken : (x : Took Sender PublishedSeveral) → (published_several_numbers x).taken ≡ x.taken
  -- The receiving end.
  pub end-opened : (x : Left Receiver Opened) → opened_for (end_opened_numbers x).refusal ≡ x.answer
  pub requested : (a : Requested) → requested_by (requested_numbers a) ≡ a
  pub confirmed : (x : Left Receiver Confirmed) → confirmed_by (confirmed_numbers x) ≡ x.answer
  pub received : (x : Wrote Receiver Received) → received_by (received_numbers x) ≡ x.answer
  pub received-several : (x : Took Receiver ReceivedSeveral) → received_several_by (received_several_numbers x) ≡ x.answer
  pub packets-taken : (x : Took Receiver ReceivedSeveral) → (received_several_numbers x).taken ≡ x.taken
  -- Named places.
  pub kept : (x : Left Checkpoints Saved) → saved_for (kept_step_numbers x).refusal ≡ x.answer
  pub returned : (x : Left Receiver Restored) → restored_for (returned_numbers x).refusal ≡ x.answer
  -- The box. What it asks with is `requested_numbers`.
  pub box-opened : (x : Left Box Opened) → opened_for (box_opened_numbers x).refusal ≡ x.answer
  pub box-confirmed : (x : Left Box Confirmed) →
      let n = box_confirmed_numbers x in confirmed_for n.last n.refusal ≡ x.answer
  pub box-received : (x : Relayed) → box_received_by (box_received_numbers x) ≡ x.answer
  pub box-received-several : (x : Took Logged ReceivedSeveral)
      → box_received_several_by (box_received_several_numbers x) ≡ x.answer
  pub box-taken : (x : Took Logged ReceivedSeveral) → (box_received_several_numbers x).taken ≡ x.taken
  pub seat-login : (a : LoggedIn) → seat_login_by (seat_login_numbers a) ≡ a
  pub seat-sent : (a : SendAnswer) → seat_sent_by (seat_sent_numbers a) ≡ a
  pub seat-packet : (a : PacketSent) → seat_packet_by (seat_packet_numbers a) ≡ a
  -- Whoever looks at `refusal` before `answer` is told the same.
  pub sent-first : (x : Wrote Sender SendAnswer) →
      let n = sent_numbers x in or_refused n.refusal Err (sent_by n) ≡ x.answer
  pub packet-first : (x : Wrote Sender PacketSent) →
      let n = sent_packet_numbers x in or_refused n.refusal Err (sent_packet_by n) ≡ x.answer
  pub records-first : (x : Took Sender PublishedSeveral) →
      let n = published_several_numbers x in or_refused n.refusal RecordRefused (published_several_by n) ≡ x.answer
  pub received-first : (x : Wrote Receiver Received) →
      let n = received_numbers x in or_refused n.refusal NotTaken (received_by n) ≡ x.answer
  pub several-first : (x : Took Receiver ReceivedSeveral) →
      let n = received_several_numbers x in or_refused n.refusal StopRefused (received_several_by n) ≡ x.answer
  pub box-received-first : (x : Relayed) →
      let n = box_received_numbers x in or_refused n.refusal NotTaken (box_received_by n) ≡ x.answer
  pub box-several-first : (x : Took Logged ReceivedSeveral) →
      let n = box_received_several_numbers x in or_refused n.refusal StopRefused (box_received_several_by n) ≡ x.answer
  pub seat-sent-first : (a : SendAnswer) →
      let n = seat_sent_numbers a in or_refused n.refusal Err (seat_sent_by n) ≡ a
  pub seat-packet-first : (a : PacketSent) →
      let n = seat_packet_numbers a in or_refused n.refusal Err (seat_packet_by n) ≡ a
