-- `AnswerLaws` holds. Assumes nothing.
use Prim.Native.Nat.{ℕ}
use mathlib.Core.Path.{◌≡◌, refl}
use Rattle.flow.specs.Types.{Opened}
use Rattle.flow.specs.Types.{Published}
use Rattle.flow.specs.Types.{LoggedIn}
use Rattle.flow.specs.Types.{Requested}
use Rattle.flow.specs.Types.{Confirmed}
use Rattle.flow.specs.declared.receiver.Origin.{Origin}
use Rattle.flow.specs.declared.receiver.Origin.TheVariants.{Packet, Buffer}
use Rattle.flow.specs.declared.receiver.Received.{Received}
use Rattle.flow.specs.declared.receiver.Received.TheVariants.{Idle, Duplicate, Partial, Complete}
use Rattle.flow.specs.declared.receiver.Received.TheVariants.{Refused as NotTaken}
use Rattle.flow.specs.declared.several.ReceivedSeveral.{ReceivedSeveral}
use Rattle.flow.specs.declared.several.ReceivedSeveral.TheVariants.{End, Short}
use Rattle.flow.specs.declared.several.ReceivedSeveral.TheVariants.{Complete as StopComplete}
use Rattle.flow.specs.declared.several.ReceivedSeveral.TheVariants.{Refused as StopRefused}
use Rattle.flow.specs.declared.several.PublishedSeveral.{PublishedSeveral}
use Rattle.flow.specs.declared.several.PublishedSeveral.TheVariants.{End as AllIn, Short as Cut}
use Rattle.flow.specs.declared.several.PublishedSeveral.TheVariants.{Refused as RecordRefused}
use Rattle.flow.specs.Types.{Saved}
use Rattle.flow.specs.Types.{Restored}
use Rattle.exports.specs.Receiving.{requested_numbers}
use Rattle.exports.specs.Boxes.{seat_login_numbers, seat_sent_numbers, seat_packet_numbers}
use Rattle.exports.specs.declared.serving.FtdSender.{FtdSender}
use Rattle.exports.specs.declared.receiving.FtdReceiver.{FtdReceiver}
use Rattle.exports.specs.declared.boxes.FtdBox.{FtdBox}
use Rattle.exports.specs.Serving.{sender_numbers, opened_number, published_with, logged_in_with, sent_with}
use Rattle.exports.specs.Serving.{sent_packet_with}
use Rattle.exports.specs.Receiving.{receiver_numbers, origin_number, confirmed_with, received_with}
use Rattle.exports.specs.Several.{received_several_with, published_several_with}
use Rattle.exports.specs.Keeping.{saved_number, restored_number}
use Rattle.exports.specs.Boxes.{box_numbers, box_confirmed_with, box_received_with, box_received_several_with}
use Rattle.exports.specs.Meaning.{or_refused}
use Rattle.exports.specs.Meaning.Calls.{opened_for, confirmed_for, saved_for, restored_for, sent_for, sent_packet_for}
use Rattle.exports.specs.Meaning.Calls.{origin_for, received_for, received_several_for, published_several_for}
use Rattle.exports.specs.Meaning.Calls.{published_by, logged_in_by, sent_by, sent_packet_by, requested_by, confirmed_by}
use Rattle.exports.specs.Meaning.Calls.{received_by, received_several_by, published_several_by, box_received_by}
use Rattle.exports.specs.Meaning.Calls.{box_received_several_by, seat_login_by, seat_sent_by, seat_packet_by, AnswerLaws}
use Rattle.exports.proofs.Meaning.{row_back, row_zero, refused-back, flag-back}
use Rattle.std.specs.Prelude.{Some, None, Ok, Err}
use Rattle.flow.specs.Types.{SendAnswer, PacketSent}

-- ─── The serving end ───

opened : (a : Opened) → opened_for (opened_number a) ≡ a
opened (Ok tt) = refl
opened (Err r) = refused-back Err (Ok tt) r

published : (e : FtdSender) (a : Published) → published_by (published_with e a) ≡ a
published e (Ok k) = refl
published e (Err r) = refused-back Err (Ok 0) r

logged-in : (e : FtdSender) (a : LoggedIn) → logged_in_by (logged_in_with e a) ≡ a
logged-in e (Ok n) = refl
logged-in e (Err r) = refused-back Err (Ok 0) r

sent : (e : FtdSender) (a : SendAnswer) → sent_by (sent_with e a) ≡ a
unfolding sent_for
sent e (Ok None) = refl
sent e (Ok (Some found)) = refl
sent e (Err r) = rw (row_back r) refl

sent-first : (e : FtdSender) (a : SendAnswer) →
    let n = sent_with e a in or_refused n.refusal Err (sent_by n) ≡ a
unfolding sent_for
sent-first e (Ok None) = refl
sent-first e (Ok (Some found)) = refl
sent-first e (Err r) = refused-back Err _ r

sent-packet : (e : FtdSender) (a : PacketSent) → sent_packet_by (sent_packet_with e a) ≡ a
unfolding sent_packet_for
sent-packet e (Ok None) = refl
sent-packet e (Ok (Some found)) = rw (flag-back found.last) refl
sent-packet e (Err r) = rw (row_back r) refl

packet-first : (e : FtdSender) (a : PacketSent) →
    let n = sent_packet_with e a in or_refused n.refusal Err (sent_packet_by n) ≡ a
unfolding sent_packet_for
packet-first e (Ok None) = refl
packet-first e (Ok (Some found)) = rw (flag-back found.last) refl
packet-first e (Err r) = refused-back Err _ r

published-several : (e : FtdSender) (taken : ℕ) (a : PublishedSeveral)
    → published_several_by (published_several_with e taken a) ≡ a
unfolding published_several_for
published-several e taken AllIn = refl
published-several e taken (Cut n) = refl
published-several e taken (RecordRefused r) = rw (row_back r) refl

records-first : (e : FtdSender) (taken : ℕ) (a : PublishedSeveral) →
    let n = published_several_with e taken a in or_refused n.refusal RecordRefused (published_several_by n) ≡ a
unfolding published_several_for
records-first e taken AllIn = refl
records-first e taken (Cut n) = refl
records-first e taken (RecordRefused r) = refused-back RecordRefused _ r

records-taken : (e : FtdSender) (taken : ℕ) (a : PublishedSeveral) → (published_several_with e taken a).taken ≡ taken
records-taken e taken AllIn = refl
records-taken e taken (Cut n) = refl
records-taken e taken (RecordRefused r) = refl

-- ─── The receiving end ───

requested : (a : Requested) → requested_by (requested_numbers a) ≡ a
requested (Ok n) = refl
requested (Err r) = refused-back Err (Ok 0) r

confirmed : (e : FtdReceiver) (a : Confirmed) → confirmed_by (confirmed_with e a) ≡ a
confirmed e (Ok n) = refl
confirmed e (Err r) = refused-back Err (Ok 0) r

origin-back : (o : Origin) → origin_for (origin_number o) ≡ o
origin-back Packet = refl
origin-back Buffer = refl

received : (e : FtdReceiver) (a : Received) → received_by (received_with e a) ≡ a
unfolding received_for
received e Idle = refl
received e (Duplicate n) = refl
received e (Partial n) = refl
received e (Complete last tid origin content) = rw (origin-back origin) refl
received e (NotTaken r) = rw (row_back r) refl

received-first : (e : FtdReceiver) (a : Received) →
    let n = received_with e a in or_refused n.refusal NotTaken (received_by n) ≡ a
unfolding received_for
received-first e Idle = refl
received-first e (Duplicate n) = refl
received-first e (Partial n) = refl
received-first e (Complete last tid origin content) = rw (origin-back origin) refl
received-first e (NotTaken r) = refused-back NotTaken _ r

received-several : (e : FtdReceiver) (taken : ℕ) (a : ReceivedSeveral)
    → received_several_by (received_several_with e taken a) ≡ a
unfolding received_several_for
received-several e taken End = refl
received-several e taken (Short n) = refl
received-several e taken (StopComplete last tid origin content) = rw (origin-back origin) refl
received-several e taken (StopRefused r) = rw (row_back r) refl

several-first : (e : FtdReceiver) (taken : ℕ) (a : ReceivedSeveral) →
    let n = received_several_with e taken a in or_refused n.refusal StopRefused (received_several_by n) ≡ a
unfolding received_several_for
several-first e taken End = refl
several-first e taken (Short n) = refl
several-first e taken (StopComplete last tid origin content) = rw (origin-back origin) refl
several-first e taken (StopRefused r) = refused-back StopRefused _ r

packets-taken : (e : FtdReceiver) (taken : ℕ) (a : ReceivedSeveral) → (received_several_with e taken a).taken ≡ taken
packets-taken e taken End = refl
packets-taken e taken (Short n) = refl
packets-taken e taken (StopComplete last tid origin content) = refl
packets-taken e taken (StopRefused r) = refl

kept : (a : Saved) → saved_for (saved_number a) ≡ a
kept (Ok tt) = refl
kept (Err r) = refused-back Err (Ok tt) r

returned : (a : Restored) → restored_for (restored_number a) ≡ a
returned (Ok tt) = refl
returned (Err r) = refused-back Err (Ok tt) r

-- ─── The box: the members of its answers are those of the ends' ───

box-confirmed : (b : FtdBox) (a : Confirmed) →
    let n = box_confirmed_with b a in confirmed_for n.last n.refusal ≡ a
box-confirmed b (Ok n) = refl
box-confirmed b (Err r) = refused-back Err (Ok 0) r

box-received : (b : FtdBox) (a : Received) → box_received_by (box_received_with b a) ≡ a
unfolding received_for
box-received b Idle = refl
box-received b (Duplicate n) = refl
box-received b (Partial n) = refl
box-received b (Complete last tid origin content) = rw (origin-back origin) refl
box-received b (NotTaken r) = rw (row_back r) refl

box-received-first : (b : FtdBox) (a : Received) →
    let n = box_received_with b a in or_refused n.refusal NotTaken (box_received_by n) ≡ a
unfolding received_for
box-received-first b Idle = refl
box-received-first b (Duplicate n) = refl
box-received-first b (Partial n) = refl
box-received-first b (Complete last tid origin content) = rw (origin-back origin) refl
box-received-first b (NotTaken r) = refused-back NotTaken _ r

box-several : (b : FtdBox) (taken : ℕ) (a : ReceivedSeveral)
    → box_received_several_by (box_received_several_with b taken a) ≡ a
unfolding received_several_for
box-several b taken End = refl
box-several b taken (Short n) = refl
box-several b taken (StopComplete last tid origin content) = rw (origin-back origin) refl
box-several b taken (StopRefused r) = rw (row_back r) refl

box-several-first : (b : FtdBox) (taken : ℕ) (a : ReceivedSeveral) →
    let n = box_received_several_with b taken a in or_refused n.refusal StopRefused (box_received_several_by n) ≡ a
unfolding received_several_for
box-several-first b taken End = refl
box-several-first b taken (Short n) = refl
box-several-first b taken (StopComplete last tid origin content) = rw (origin-back origin) refl
box-several-first b taken (StopRefused r) = refused-back StopRefused _ r

box-taken : (b : FtdBox) (taken : ℕ) (a : ReceivedSeveral) → (box_received_several_with b taken a).taken ≡ taken
box-taken b taken End = refl
box-taken b taken (Short n) = refl
box-taken b taken (StopComplete last tid origin content) = refl
box-taken b taken (StopRefused r) = refl

seat-login : (a : LoggedIn) → seat_login_by (seat_login_numbers a) ≡ a
seat-login (Ok n) = refl
seat-login (Err r) = refused-back Err (Ok 0) r

seat-sent : (a : SendAnswer) → seat_sent_by (seat_sent_numbers a) ≡ a
unfolding sent_for
seat-sent (Ok None) = refl
seat-sent (Ok (Some found)) = refl
seat-sent (Err r) = rw (row_back r) refl

seat-sent-first : (a : SendAnswer) → let n = seat_sent_numbers a in or_refused n.refusal Err (seat_sent_by n) ≡ a
unfolding sent_for
seat-sent-first (Ok None) = refl
seat-sent-first (Ok (Some found)) = refl
seat-sent-first (Err r) = refused-back Err _ r

seat-packet : (a : PacketSent) → seat_packet_by (seat_packet_numbers a) ≡ a
unfolding sent_packet_for
seat-packet (Ok None) = refl
seat-packet (Ok (Some found)) = rw (flag-back found.last) refl
seat-packet (Err r) = rw (row_back r) refl

seat-packet-first : (a : PacketSent) →
    let n = seat_packet_numbers a in or_refused n.refusal Err (seat_packet_by n) ≡ a
unfolding sent_packet_for
seat-packet-first (Ok None) = refl
seat-packet-first (Ok (Some found)) = rw (flag-back found.last) refl
seat-packet-first (Err r) = refused-back Err _ r

pub answer-laws : AnswerLaws
answer-laws =
    record {
      row = row_back;
      never-zero = row_zero;
      day-opened = λ x. opened x.answer;
      published = λ x. published (sender_numbers x.end) x.answer;
      logged-in = λ x. logged-in (sender_numbers x.end) x.answer;
      sent = λ x. sent (sender_numbers x.end) x.answer;
      sent-packet = λ x. sent-packet (sender_numbers x.end) x.answer;
      published-several = λ x. published-several (sender_numbers x.end) x.taken x.answer;
      records-taken = λ x. records-taken (sender_numbers x.end) x.taken x.answer;
      end-opened = λ x. opened x.answer;
      requested = requested;
      confirmed = λ x. confirmed (receiver_numbers x.end) x.answer;
      received = λ x. received (receiver_numbers x.end) x.answer;
      received-several = λ x. received-several (receiver_numbers x.end) x.taken x.answer;
      packets-taken = λ x. packets-taken (receiver_numbers x.end) x.taken x.answer;
      kept = λ x. kept x.answer;
      returned = λ x. returned x.answer;
      box-opened = λ x. opened x.answer;
      box-confirmed = λ x. box-confirmed (box_numbers x.end) x.answer;
      box-received = λ x. box-received (box_numbers x.end) x.answer;
      box-received-several = λ x. box-several (box_numbers x.end.box) x.taken x.answer;
      box-taken = λ x. box-taken (box_numbers x.end.box) x.taken x.answer;
      seat-login = seat-login;
      seat-sent = seat-sent;
      seat-packet = seat-packet;
      sent-first = λ x. sent-first (sender_numbers x.end) x.answer;
      packet-first = λ x. packet-first (sender_numbers x.end) x.answer;
      records-first = λ x. records-first (sender_numbers x.end) x.taken x.answer;
      received-first = λ x. received-first (receiver_numbers x.end) x.answer;
      several-first = λ x. several-first (receiver_numbers x.end) x.taken x.answer;
      box-received-first = λ x. box-received-first (box_numbers x.end) x.answer;
      box-several-first = λ x. box-several-first (box_numbers x.end.box) x.taken x.answer;
      seat-sent-first = seat-sent-first;
      seat-packet-first = seat-packet-first;
    }
