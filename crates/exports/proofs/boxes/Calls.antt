-- The box's calls as numbers: what a call of `relay` promises, of the box that numbers say and in numbers. Assumes
-- nothing.
use Prim.Native.Nat.{ℕ}
use mathlib.Core.Path.{◌≡◌, ap, ◌∙◌}
use mathlib.Core.List.{List, []}
use Rattle.flow.specs.Types.{LoggedIn}
use Rattle.flow.specs.Types.{Requested}
use Rattle.flow.specs.Ends.{left}
use Rattle.relay.specs.declared.relay.Relay.{Relay}
use Rattle.relay.specs.declared.relay.OpenStep.{OpenStep}
use Rattle.relay.specs.declared.relay.ConfirmStep.{ConfirmStep}
use Rattle.relay.specs.declared.relay.ReceiveStep.{ReceiveStep}
use Rattle.relay.specs.declared.several.ReceiveSeveralStep.{ReceiveSeveralStep}
use Rattle.relay.specs.State.{Box, box_for}
use Rattle.relay.specs.Box.{fresh_box, open_box_of, connect_box_of, ask_of, answer_of, answer_way, receive_box_of, login_seat_of}
use Rattle.relay.specs.Box.{send_seat_of, send_packet_seat_of}
use Rattle.relay.specs.Bufferful.{receive_several_box_of, ReceivesSeveralBox}
use Rattle.relay.specs.Promises.{IsFresh, OpensBox, ConnectsBox, AsksBox, answered_numbers, ConfirmsBox, ReceivesBox}
use Rattle.relay.specs.Promises.{login_numbers, sent_numbers, packet_numbers, LogsInSeat, SendsSeat, SendsPacketSeat}
use Rattle.exports.specs.declared.written.FtdWritten.{FtdWritten}
use Rattle.exports.specs.declared.boxes.FtdBox.{FtdBox}
use Rattle.exports.specs.declared.boxes.FtdBoxConfirmed.{FtdBoxConfirmed}
use Rattle.exports.specs.declared.boxes.FtdBoxReceived.{FtdBoxReceived}
use Rattle.exports.specs.declared.boxes.FtdBoxReceivedSeveral.{FtdBoxReceivedSeveral}
use Rattle.exports.specs.declared.boxes.FtdBoxSent.{FtdBoxSent}
use Rattle.exports.specs.declared.boxes.FtdBoxSentPacket.{FtdBoxSentPacket}
use Rattle.exports.specs.Serving.{opened_number}
use Rattle.exports.specs.Receiving.{requested_numbers}
use Rattle.exports.specs.Boxes.{relay_for, box_numbers, box_confirmed_with, box_received_with, box_received_several_with}
use Rattle.exports.specs.Boxes.{seat_login_numbers, seat_sent_numbers, seat_packet_numbers, box_opened_numbers}
use Rattle.exports.specs.Boxes.{box_confirmed_numbers, box_received_numbers, box_received_several_numbers}
use Rattle.flow.specs.Types.{SendAnswer, PacketSent}

-- The numbers of the box that a call left.
abbrev NumbersOf : Relay → FtdBox → Type 0
NumbersOf b n = n ≡ box_numbers (box_for b [])

pub fresh-numbers : (b : Relay) (n : FtdBox) → IsFresh b → NumbersOf b n → n ≡ box_numbers fresh_box
fresh-numbers b n h q = q ∙ ap box_numbers h

module _ (n : FtdBox) (b : Relay) (h : b ≡ relay_for n) where
  pub open-numbers : (ss rs : List ℕ) (step : OpenStep) (m : FtdBox) (x : ℕ) → OpensBox b ss rs step
      → NumbersOf step.end m → x ≡ opened_number step.answer → (seats : List ℕ)
      → record { state = m; refusal = x } ≡ box_opened_numbers (open_box_of (box_for (relay_for n) seats) ss rs)
  open-numbers ss rs step m x g p q seats =
      let k = rw h at (g seats) in
      rw (p, q)
      (ap (λ (y : Box). box_opened_numbers (left y step.answer)) k.0
      ∙ ap (λ a. box_opened_numbers (left (open_box_of (box_for (relay_for n) seats) ss rs).end a)) k.1.1)

  pub connect-numbers : (r : Relay) (m : FtdBox) → ConnectsBox b r → NumbersOf r m → (seats : List ℕ)
      → m ≡ box_numbers (connect_box_of (box_for (relay_for n) seats))
  connect-numbers r m g p seats =
      let k = rw h at (g seats) in
      p ∙ ap box_numbers k

  pub ask-numbers : (s : ℕ) (content out : List ℕ) (a : Requested) (after : List ℕ) (x : FtdWritten)
      → AsksBox b s content out a after → x ≡ requested_numbers a
      → ((seats : List ℕ) → x ≡ requested_numbers (ask_of (box_for (relay_for n) seats) s content out).answer)
      × ((seats : List ℕ) → after ≡ (ask_of (box_for (relay_for n) seats) s content out).bytes)
  ask-numbers s content out a after x g q =
      let k = rw h at g in
      (λ seats. q ∙ ap requested_numbers (k seats).0.1, λ seats. (k seats).1)

  pub receive-numbers : (p log buffer : List ℕ) (step : ReceiveStep) (later after : List ℕ) (m : FtdBox)
      (x : FtdBoxReceived) → ReceivesBox b p log buffer step later after → NumbersOf step.end m
      → x ≡ box_received_with m step.answer
      → ((seats : List ℕ) → x ≡ box_received_numbers (receive_box_of (box_for (relay_for n) seats) p log buffer))
      × ((seats : List ℕ) → later ≡ (receive_box_of (box_for (relay_for n) seats) p log buffer).log)
      × ((seats : List ℕ) → after ≡ (receive_box_of (box_for (relay_for n) seats) p log buffer).buffer)
  receive-numbers p log buffer step later after m x g u q =
      let k = rw h at g in (
        λ seats.
            let meant = receive_box_of (box_for (relay_for n) seats) p log buffer in
            rw (q, u)
            (ap (λ (y : Box). box_received_with (box_numbers y) step.answer) (k seats).0
            ∙ ap (box_received_with (box_numbers meant.end)) (k seats).2),
        λ seats. (k seats).3,
        λ seats. (k seats).4,
      )

  pub several-numbers : (ps log buffer : List ℕ) (step : ReceiveSeveralStep) (later after : List ℕ) (m : FtdBox)
      (x : FtdBoxReceivedSeveral) → ReceivesSeveralBox b ps log buffer step later after → NumbersOf step.end m
      → x ≡ box_received_several_with m step.taken step.answer
      → ((seats : List ℕ)
      → x ≡ box_received_several_numbers (receive_several_box_of (box_for (relay_for n) seats) ps log buffer))
      × ((seats : List ℕ) → later ≡ (receive_several_box_of (box_for (relay_for n) seats) ps log buffer).end.log)
      × ((seats : List ℕ) → after ≡ (receive_several_box_of (box_for (relay_for n) seats) ps log buffer).bytes)
  several-numbers ps log buffer step later after m x g u q =
      let k = rw h at g in (
        λ seats.
            let meant = receive_several_box_of (box_for (relay_for n) seats) ps log buffer in
            rw (q, u)
            (ap (λ (y : Box). box_received_several_with (box_numbers y) step.taken step.answer) (k seats).0
            ∙ ap (λ (t : ℕ). box_received_several_with (box_numbers meant.end.box) t step.answer) (k seats).3
            ∙ ap (box_received_several_with (box_numbers meant.end.box) meant.taken) (k seats).2),
        λ seats. (k seats).4,
        λ seats. (k seats).5,
      )

  module _ (ns after : List ℕ) where
    pub confirm-numbers : (s : ℕ) (p log : List ℕ) (step : ConfirmStep) (m : FtdBox) (x : FtdBoxConfirmed)
        → ConfirmsBox b ns s p log step after → NumbersOf step.end m → x ≡ box_confirmed_with m step.answer
        → (x ≡ box_confirmed_numbers (answer_of (box_for (relay_for n) ns) s p log))
        × (after ≡ answered_numbers ns (answer_way (box_for (relay_for n) ns) s p log))
    confirm-numbers s p log step m x g u q =
        let k = rw h at g in
        let meant = answer_of (box_for (relay_for n) ns) s p log in (
          rw (q, u)
              (ap (λ (y : Box). box_confirmed_with (box_numbers y) step.answer) k.0
              ∙ ap (box_confirmed_with (box_numbers meant.end)) k.1.1),
          k.2,
        )

    module _ (i s : ℕ) where
      pub login-numbers : (p content out : List ℕ) (a : LoggedIn) (later : List ℕ) (x : FtdWritten)
          → LogsInSeat b ns i s p content out a after later → x ≡ seat_login_numbers a →
          let m = login_seat_of (box_for (relay_for n) ns) i s p content out in
          (x ≡ seat_login_numbers m.answer) × (after ≡ login_numbers ns i s m.end m.answer) × (later ≡ m.bytes)
      login-numbers p content out a later x g q =
          let k = rw h at g in
          let m = login_seat_of (box_for (relay_for n) ns) i s p content out in
          (q ∙ ap seat_login_numbers k.1.1, k.2 ∙ ap (login_numbers ns i s m.end) k.1.1, k.3)

      pub send-numbers : (log out : List ℕ) (a : SendAnswer) (later : List ℕ) (x : FtdBoxSent)
          → SendsSeat b ns i s log out a after later → x ≡ seat_sent_numbers a →
          let m = send_seat_of (box_for (relay_for n) ns) i s log out in
          (x ≡ seat_sent_numbers m.answer) × (after ≡ sent_numbers ns i s m.end m.answer) × (later ≡ m.bytes)
      send-numbers log out a later x g q =
          let k = rw h at g in
          let m = send_seat_of (box_for (relay_for n) ns) i s log out in
          (q ∙ ap seat_sent_numbers k.1.1, k.2 ∙ ap (sent_numbers ns i s m.end) k.1.1, k.3)

      pub packet-numbers : (log out : List ℕ) (a : PacketSent) (later : List ℕ) (x : FtdBoxSentPacket)
          → SendsPacketSeat b ns i s log out a after later → x ≡ seat_packet_numbers a →
          let m = send_packet_seat_of (box_for (relay_for n) ns) i s log out in
          (x ≡ seat_packet_numbers m.answer) × (after ≡ packet_numbers ns i s m.end m.answer) × (later ≡ m.bytes)
      packet-numbers log out a later x g q =
          let k = rw h at g in
          let m = send_packet_seat_of (box_for (relay_for n) ns) i s log out in
          (q ∙ ap seat_packet_numbers k.1.1, k.2 ∙ ap (packet_numbers ns i s m.end) k.1.1, k.3)
