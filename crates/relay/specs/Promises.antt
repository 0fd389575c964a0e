-- The form of the box's promises, as `flow`'s for its ends: the box afterwards, the answer, by the paper's word, number
-- and values and as the enum, and every byte and number of what is lent are those of the call's definition. The box is
-- what the code's state and the numbers of the seats are (`box_for`); where a call isn't lent the seats' numbers, it says
-- this of any numbers. `Whole`: there are 384 of them, as the array's type says.
use Rattle.std.specs.Prelude.{ℕ, ◌≡◌, List, length}
use Rattle.flow.specs.Types.{LoggedIn}
use Rattle.flow.specs.Types.{Requested}
use Rattle.flow.specs.Ends.{index_of, day_series, place_of}
use Rattle.flow.specs.Answers.{opened_said, login_said, sent_said, sent_packet_said, requested_said, confirmed_said}
use Rattle.flow.specs.Answers.{received_said}
use Rattle.flow.specs.Promises.{Answers}
use Rattle.relay.specs.declared.relay.Relay.{Relay}
use Rattle.relay.specs.declared.relay.OpenStep.{OpenStep}
use Rattle.relay.specs.declared.relay.ConfirmStep.{ConfirmStep}
use Rattle.relay.specs.declared.relay.ReceiveStep.{ReceiveStep}
use Rattle.relay.specs.State.{Box, box_for, place_written, no_numbers, all_numbers}
use Rattle.relay.specs.Box.{open_box_of, connect_box_of, ask_of, AnswerWay, late, refuses, through, opens, answer_way}
use Rattle.relay.specs.Box.{answer_of, receive_box_of, login_seat_of, send_seat_of, send_packet_seat_of, server_at, fresh_box}
use Rattle.std.specs.Prelude.{Some, None, Ok, Err}
use Rattle.flow.specs.Types.{SendAnswer, PacketSent}

-- As many numbers as the array's type says.
abbrev pub Whole : List ℕ → Type 0
Whole seats = length seats ≡ all_numbers

-- ─── Towards above ───

abbrev pub IsFresh : Relay → Type 0
IsFresh b = box_for b no_numbers ≡ fresh_box

abbrev pub OpensBox : Relay → List ℕ → List ℕ → OpenStep → Type 0
OpensBox b series reserves r =
    (seats : List ℕ) → let meant = open_box_of (box_for b seats) series reserves in
    (box_for r.end seats ≡ meant.end) × Answers opened_said r.answer meant.answer

abbrev pub ConnectsBox : Relay → Relay → Type 0
ConnectsBox b r = (seats : List ℕ) → box_for r seats ≡ connect_box_of (box_for b seats)

-- The box stays: it is not returned (`ask_of` leaves the receiving end as it is).
abbrev pub AsksBox : Relay → ℕ → List ℕ → List ℕ → Requested → List ℕ → Type 0
AsksBox b series content out r after =
    (seats : List ℕ) → let meant = ask_of (box_for b seats) series content out in
    Answers requested_said r meant.answer × (after ≡ meant.bytes)

-- An answer that opens leaves no number but 0; any other leaves all numbers.
abbrev pub answered_numbers : List ℕ → AnswerWay → List ℕ
answered_numbers seats late = seats
answered_numbers seats (refuses x) = seats
answered_numbers seats through = seats
answered_numbers seats (opens q) = no_numbers

-- The log is read, and of it the length alone.
abbrev pub ConfirmsBox : Relay → List ℕ → ℕ → List ℕ → List ℕ → ConfirmStep → List ℕ → Type 0
ConfirmsBox b seats series packet log r after =
    let meant = answer_of (box_for b seats) series packet log in
    (box_for r.end after ≡ meant.end)
    × Answers confirmed_said r.answer meant.answer
    × (after ≡ answered_numbers seats (answer_way (box_for b seats) series packet log))

-- Both buffers are lent.
abbrev pub ReceivesBox : Relay → List ℕ → List ℕ → List ℕ → ReceiveStep → List ℕ → List ℕ → Type 0
ReceivesBox b packet log buffer r after_log after_buffer =
    (seats : List ℕ) → let meant = receive_box_of (box_for b seats) packet log buffer in
    (box_for r.end seats ≡ meant.end)
    × (received_said packet after_buffer r.answer ≡ received_said packet meant.buffer meant.answer)
    × (r.answer ≡ meant.answer)
    × (after_log ≡ meant.log)
    × (after_buffer ≡ meant.buffer)

-- ─── Towards the seats: what is returned is the answer alone ───

-- The place of seat i in a series, as a call left it, is written; every other number stays.
abbrev pub seat_written : List ℕ → ℕ → ℕ → Box → List ℕ
seat_written seats i s b = place_written seats i (index_of s (day_series (server_at b i))) (place_of (server_at b i) s)

-- A call that wrote nothing leaves all numbers.
abbrev pub login_numbers : List ℕ → ℕ → ℕ → Box → LoggedIn → List ℕ
login_numbers seats i s b (Ok n) = seat_written seats i s b
login_numbers seats i s b (Err x) = seats

abbrev pub sent_numbers : List ℕ → ℕ → ℕ → Box → SendAnswer → List ℕ
sent_numbers seats i s b (Ok None) = seats
sent_numbers seats i s b (Ok (Some found)) = seat_written seats i s b
sent_numbers seats i s b (Err x) = seats

abbrev pub packet_numbers : List ℕ → ℕ → ℕ → Box → PacketSent → List ℕ
packet_numbers seats i s b (Ok None) = seats
packet_numbers seats i s b (Ok (Some found)) = seat_written seats i s b
packet_numbers seats i s b (Err x) = seats

abbrev pub LogsInSeat : Relay → List ℕ → ℕ → ℕ → List ℕ → List ℕ → List ℕ → LoggedIn → List ℕ → List ℕ → Type 0
LogsInSeat b seats i series packet content out r after_seats after =
    let meant = login_seat_of (box_for b seats) i series packet content out in
    (Whole seats → box_for b after_seats ≡ meant.end)
    × Answers login_said r meant.answer
    × (after_seats ≡ login_numbers seats i series meant.end r)
    × (after ≡ meant.bytes)

abbrev pub SendsSeat : Relay → List ℕ → ℕ → ℕ → List ℕ → List ℕ → SendAnswer → List ℕ → List ℕ → Type 0
SendsSeat b seats i series log out r after_seats after =
    let meant = send_seat_of (box_for b seats) i series log out in
    (Whole seats → box_for b after_seats ≡ meant.end)
    × Answers sent_said r meant.answer
    × (after_seats ≡ sent_numbers seats i series meant.end r)
    × (after ≡ meant.bytes)

abbrev pub SendsPacketSeat : Relay → List ℕ → ℕ → ℕ → List ℕ → List ℕ → PacketSent → List ℕ → List ℕ → Type 0
SendsPacketSeat b seats i series log out r after_seats after =
    let meant = send_packet_seat_of (box_for b seats) i series log out in
    (Whole seats → box_for b after_seats ≡ meant.end)
    × Answers sent_packet_said r meant.answer
    × (after_seats ≡ packet_numbers seats i series meant.end r)
    × (after ≡ meant.bytes)
