-- What holds of the ends and of the box as numbers: nothing of them is lost between two calls.
use Rattle.std.specs.Prelude.{ℕ, ◌≡◌, List, length}
use Rattle.flow.specs.declared.sender.Sender.{Sender}
use Rattle.flow.specs.declared.receiver.Receiver.{Receiver}
use Rattle.flow.specs.Ends.{fresh_sender, fresh_receiver}
use Rattle.flow.specs.Serving.{open_day_of, publish_of, login_of, send_of, send_packet_of}
use Rattle.flow.specs.Receiving.{open_end_of, connect_of, confirm_login_of, receive_of}
use Rattle.flow.specs.Several.{receive_several_of, publish_several_of}
use Rattle.relay.specs.State.{Box, seats_for, box_for, no_numbers}
use Rattle.relay.specs.Box.{fresh_box, open_box_of, connect_box_of, answer_way, answer_of, receive_box_of, login_seat_of}
use Rattle.relay.specs.Box.{send_seat_of, send_packet_seat_of}
use Rattle.relay.specs.Bufferful.{receive_several_box_of}
use Rattle.relay.specs.Promises.{Whole, answered_numbers, login_numbers, packet_numbers}
use Rattle.relay.specs.Promises.{sent_numbers as seat_numbers}
use Rattle.exports.specs.declared.serving.FtdSender.{FtdSender}
use Rattle.exports.specs.declared.receiving.FtdReceiver.{FtdReceiver}
use Rattle.exports.specs.declared.boxes.FtdBox.{FtdBox}
use Rattle.exports.specs.Serving.{sender_for, sender_numbers, day_opened_numbers, published_numbers, logged_in_numbers}
use Rattle.exports.specs.Serving.{sent_numbers, sent_packet_numbers}
use Rattle.exports.specs.Receiving.{receiver_for, receiver_numbers, end_opened_numbers, confirmed_numbers}
use Rattle.exports.specs.Receiving.{received_numbers}
use Rattle.exports.specs.Several.{received_several_numbers, published_several_numbers}
use Rattle.exports.specs.Boxes.{relay_for, box_numbers, box_opened_numbers, box_confirmed_numbers, box_received_numbers}
use Rattle.exports.specs.Boxes.{box_received_several_numbers}

-- Numbers that are an end: they say it. As in every value of the types, they have 8 places.
abbrev pub SenderIs : FtdSender → Sender → Type 0
SenderIs n e = (sender_for n ≡ e) × (length n.series ≡ 8)

abbrev pub ReceiverIs : FtdReceiver → Receiver → Type 0
ReceiverIs n e = (receiver_for n ≡ e) × (length n.series ≡ 8)

pub record EndLaws : Type 0 where
  -- The numbers of an end say that end.
  pub sender-back : (e : Sender) → length e.day.series ≡ 8 → length e.seat.places ≡ 8
      → sender_for (sender_numbers e) ≡ e
  pub receiver-back : (e : Receiver) → length e.kept.series ≡ 8 → length e.live.series ≡ 8
      → receiver_for (receiver_numbers e) ≡ e
  -- So calls one behind the other, each given the numbers that the last one left, are the calls of `flow` one behind
  -- the other: a fresh end is one, and where the numbers given are an end, those left are the end that the call leaves.
  pub fresh-sender : SenderIs (sender_numbers fresh_sender) fresh_sender
  pub open-day : (n : FtdSender) (e : Sender) → SenderIs n e → (date : ℕ) (ss rs log : List ℕ)
      → SenderIs (day_opened_numbers (open_day_of (sender_for n) date ss rs log)).end (open_day_of e date ss rs log).end
  pub publish : (n : FtdSender) (e : Sender) → SenderIs n e → (s tid : ℕ) (content log : List ℕ)
      → SenderIs (published_numbers (publish_of (sender_for n) s tid content log)).end
      (publish_of e s tid content log).end
  pub publish-several : (n : FtdSender) (e : Sender) → SenderIs n e → (records log : List ℕ)
      → SenderIs (published_several_numbers (publish_several_of (sender_for n) records log)).end
      (publish_several_of e records log).end
  pub login : (n : FtdSender) (e : Sender) → SenderIs n e → (s : ℕ) (p content out : List ℕ)
      → SenderIs (logged_in_numbers (login_of (sender_for n) s p content out)).end (login_of e s p content out).end
  pub send : (n : FtdSender) (e : Sender) → SenderIs n e → (s : ℕ) (log out : List ℕ)
      → SenderIs (sent_numbers (send_of (sender_for n) s log out)).end (send_of e s log out).end
  pub send-packet : (n : FtdSender) (e : Sender) → SenderIs n e → (s : ℕ) (log out : List ℕ)
      → SenderIs (sent_packet_numbers (send_packet_of (sender_for n) s log out)).end (send_packet_of e s log out).end
  pub fresh-receiver : ReceiverIs (receiver_numbers fresh_receiver) fresh_receiver
  pub open-end : (n : FtdReceiver) (e : Receiver) → ReceiverIs n e → (ss : List ℕ)
      → ReceiverIs (end_opened_numbers (open_end_of (receiver_for n) ss)).end (open_end_of e ss).end
  pub connect : (n : FtdReceiver) (e : Receiver) → ReceiverIs n e
      → ReceiverIs (receiver_numbers (connect_of (receiver_for n))) (connect_of e)
  pub confirm : (n : FtdReceiver) (e : Receiver) → ReceiverIs n e → (s : ℕ) (p : List ℕ)
      → ReceiverIs (confirmed_numbers (confirm_login_of (receiver_for n) s p)).end (confirm_login_of e s p).end
  pub receive : (n : FtdReceiver) (e : Receiver) → ReceiverIs n e → (p buffer : List ℕ)
      → ReceiverIs (received_numbers (receive_of (receiver_for n) p buffer)).end (receive_of e p buffer).end
  pub receive-several : (n : FtdReceiver) (e : Receiver) → ReceiverIs n e → (packets buffer : List ℕ)
      → ReceiverIs (received_several_numbers (receive_several_of (receiver_for n) packets buffer)).end
      (receive_several_of e packets buffer).end

-- Numbers, and those of the seats, that are a box: they say it. As in every value of the types, there are 8 places, and
-- 384 numbers of the seats.
abbrev pub BoxIs : FtdBox → List ℕ → Box → Type 0
BoxIs n seats b =
    (box_for (relay_for n) seats ≡ b)
    × (length n.receiver.series ≡ 8)
    × (length n.day.series ≡ 8)
    × Whole seats

pub record BoxLaws : Type 0 where
  -- The numbers of a box, with those of its seats, say that box.
  pub box-back : (b : Box) (seats : List ℕ) → length b.receiver.kept.series ≡ 8
      → length b.receiver.live.series ≡ 8 → b.seats ≡ seats_for seats → box_for (relay_for (box_numbers b)) seats ≡ b
  -- So calls one behind the other, each given the numbers that the last one left, are the calls of the box one behind
  -- the other: a fresh box is one, and where the numbers given are a box, those left are the box that the call leaves.
  -- Ask leaves all numbers; the calls of a seat leave the box's, and change the seats'.
  pub fresh : BoxIs (box_numbers fresh_box) no_numbers fresh_box
  pub opens : (n : FtdBox) (seats : List ℕ) (b : Box) → BoxIs n seats b → (ss rs : List ℕ)
      → BoxIs (box_opened_numbers (open_box_of (box_for (relay_for n) seats) ss rs)).state seats (open_box_of b ss rs).end
  pub connects : (n : FtdBox) (seats : List ℕ) (b : Box) → BoxIs n seats b
      → BoxIs (box_numbers (connect_box_of (box_for (relay_for n) seats))) seats (connect_box_of b)
  pub confirms : (n : FtdBox) (seats : List ℕ) (b : Box) → BoxIs n seats b → (s : ℕ) (p log : List ℕ)
      → BoxIs (box_confirmed_numbers (answer_of (box_for (relay_for n) seats) s p log)).state
      (answered_numbers seats (answer_way (box_for (relay_for n) seats) s p log)) (answer_of b s p log).end
  pub receives : (n : FtdBox) (seats : List ℕ) (b : Box) → BoxIs n seats b → (p log buffer : List ℕ)
      → BoxIs (box_received_numbers (receive_box_of (box_for (relay_for n) seats) p log buffer)).state seats
      (receive_box_of b p log buffer).end
  pub receives-several : (n : FtdBox) (seats : List ℕ) (b : Box) → BoxIs n seats b → (ps log buffer : List ℕ)
      → BoxIs (box_received_several_numbers (receive_several_box_of (box_for (relay_for n) seats) ps log buffer)).state seats
      (receive_several_box_of b ps log buffer).end.box
  pub logs-in : (n : FtdBox) (seats : List ℕ) (b : Box) → BoxIs n seats b → (i s : ℕ) (p content out : List ℕ) →
      let m = login_seat_of (box_for (relay_for n) seats) i s p content out in
      BoxIs n (login_numbers seats i s m.end m.answer) (login_seat_of b i s p content out).end
  pub sends : (n : FtdBox) (seats : List ℕ) (b : Box) → BoxIs n seats b → (i s : ℕ) (log out : List ℕ) →
      let m = send_seat_of (box_for (relay_for n) seats) i s log out in
      BoxIs n (seat_numbers seats i s m.end m.answer) (send_seat_of b i s log out).end
  pub sends-packet : (n : FtdBox) (seats : List ℕ) (b : Box) → BoxIs n seats b → (i s : ℕ) (log out : List ℕ) →
      let m = send_packet_seat_of (box_for (relay_for n) seats) i s log out in
      BoxIs n (packet_numbers seats i s m.end m.answer) (send_packet_seat_of b i s log out).end
