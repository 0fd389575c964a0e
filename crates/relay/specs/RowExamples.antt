-- Worked examples of a row (02, No. 14), as lists of calls with what they leave written down beside them: a message
-- that goes through two boxes, by a list in which the second half's conditions hold on all three lines; and a box that
-- comes to the next day before its other series does.
use Rattle.std.specs.Prelude.{ℕ, List, [], ◌∷◌, ◌++◌, length, T}
use Rattle.std.proofs.Math.Option.{Option, none, some}
use Rattle.std.proofs.Math.ListN.{get_elem?}
use Rattle.std.proofs.Common.{leb→le}
use Rattle.ftd.specs.Bench.{BenchRow, bench_row, all_same}
use Rattle.flow.specs.Answers.{Message, refused, received_said}
use Rattle.flow.specs.Agreement.{of, handed_on}
use Rattle.flow.specs.World.{Transmission, open_sender, publish, login, send, open_receiver, request_login, confirm_login}
use Rattle.flow.specs.World.{receive}
use Rattle.flow.specs.Rewind.{call}
use Rattle.flow.specs.Bench.{numbers, req_login, rsp_login, tid, note, message, space}
use Rattle.flow.specs.OrderRows.{order_numbers}
use Rattle.relay.specs.Box.{receive_box_of}
use Rattle.relay.specs.World.{box_of}
use Rattle.relay.specs.Row.{RowBox, RowWorld, LentRow, opening, ask, answer, send_packet, RowEvent, at_exchange}
use Rattle.relay.specs.Row.{at_box, at_last, row_step, row_run, last_line}
use Rattle.relay.specs.Row
use Rattle.relay.specs.RowAgreement.{ran_row, CaughtUpTo, node_at, order_at}

-- ─── What is compared ───

-- Messages in numbers.
abbrev pub listed : List Message → List ℕ
listed [] = []
listed (m ∷ l) = m.tid ∷ length m.content ∷ m.content ++ listed l

-- What node k published, and what the last end handed on.
abbrev pub published_at : RowWorld → ℕ → ℕ → ℕ → List ℕ
published_at w k s d = listed (of s d (node_at w k).published)

abbrev pub handed_at : RowWorld → ℕ → ℕ → List ℕ
handed_at w s d = listed (handed_on (last_line w) s d)

-- ─── Through two boxes ───

-- Box 0 serves the next one at seat 0, box 1 the last end at seat 15.
unfoldable pub lent_two : LentRow
lent_two =
    record {
      exchange_log = space 100;
      boxes =
          record { seat = 0; there = leb→le 1 16 tt; log = space 100; buffer = space 32768 }
          ∷ record { seat = 15; there = leb→le 16 16 tt; log = space 100; buffer = space 32768 }
          ∷ [];
      buffer = space 32768;
    }

-- A message is published; box 0 asks, and is logged in to the exchange.
abbrev pub opens : List RowEvent
opens =
    at_exchange (open_sender 7 (1 ∷ []) (0 ∷ [])) ∷ at_exchange (publish 1 tid (note 1 3))
    ∷ at_box 0 (opening (1 ∷ []) (0 ∷ [])) ∷ at_box 1 (opening (1 ∷ []) (0 ∷ [])) ∷ at_last (call (open_receiver (1 ∷ [])))
    ∷ at_box 0 (ask 1 req_login (space 200)) ∷ []

abbrev pub first_login : RowEvent
first_login = at_exchange (login 1 0 rsp_login (space 163))

-- It comes to box 0; box 1 asks, and is logged in to box 0.
abbrev pub to_first : List RowEvent
to_first =
    at_box 0 (answer 0) ∷ at_exchange (send 1 (space 100)) ∷ at_box 0 (Row.receive 0 0)
    ∷ at_box 1 (ask 1 req_login (space 200)) ∷ []

abbrev pub second_login : RowEvent
second_login = at_box 0 (Row.login 1 0 rsp_login (space 163))

-- It goes on to box 1 in the packet form; the last end asks, and is logged in to box 1.
abbrev pub to_second : List RowEvent
to_second =
    at_box 1 (answer 0) ∷ at_box 0 (send_packet 1 (space 100)) ∷ at_box 1 (Row.receive 0 0)
    ∷ at_last (call (request_login 1 req_login (space 200))) ∷ []

abbrev pub third_login : RowEvent
third_login = at_box 1 (Row.login 1 0 rsp_login (space 163))

-- And to the last end.
abbrev pub to_last : List RowEvent
to_last = at_last (call (confirm_login 0)) ∷ at_box 1 (Row.send 1 (space 100)) ∷ at_last (call (receive 0 0)) ∷ []

abbrev pub behind_second : List RowEvent
behind_second = to_second ++ (third_login ∷ to_last)

abbrev pub behind_first : List RowEvent
behind_first = to_first ++ (second_login ∷ behind_second)

unfoldable pub passing : List RowEvent
passing = opens ++ (first_login ∷ behind_first)

abbrev pub passed : RowWorld
passed = ran_row lent_two passing

abbrev pub the_message : List ℕ
the_message = listed (message (note 1 3) ∷ [])

unfoldable pub passed_rows : List BenchRow
passed_rows =
    bench_row 1 (published_at passed 0 1 7) the_message
    ∷ bench_row 2 (published_at passed 1 1 7) the_message
    ∷ bench_row 3 (published_at passed 2 1 7) the_message
    ∷ bench_row 4 (handed_at passed 1 7) the_message
    -- The second box against the exchange: the same.
    ∷ bench_row 5 (order_numbers (order_at 1 (node_at passed 2) passed.exchange)) (0 ∷ [])
    ∷ []

-- ─── A box ahead of its other series ───

-- One box, with series 1 and 2.
unfoldable pub lent_one : LentRow
lent_one =
    record {
      exchange_log = space 100;
      boxes = record { seat = 0; there = leb→le 1 16 tt; log = space 100; buffer = [] } ∷ [];
      buffer = [];
    }

-- Day 5: messages 1 and 2 of series 2 are sent, number 1 is delivered, and goes on to the last end.
abbrev pub day_five : List RowEvent
day_five =
    at_exchange (open_sender 5 (1 ∷ 2 ∷ []) (0 ∷ 0 ∷ [])) ∷ at_exchange (publish 2 tid (note 1 3))
    ∷ at_exchange (publish 2 tid []) ∷ at_box 0 (opening (1 ∷ 2 ∷ []) (0 ∷ 0 ∷ []))
    ∷ at_box 0 (ask 2 req_login (space 200)) ∷ at_exchange (login 2 0 rsp_login (space 163)) ∷ at_box 0 (answer 0)
    ∷ at_exchange (send 2 (space 100)) ∷ at_exchange (send 2 (space 100)) ∷ at_box 0 (Row.receive 0 0)
    ∷ at_last (call (open_receiver (2 ∷ []))) ∷ at_last (call (request_login 2 req_login (space 200)))
    ∷ at_box 0 (Row.login 2 0 rsp_login (space 163)) ∷ at_last (call (confirm_login 0)) ∷ at_box 0 (Row.send 2 (space 100))
    ∷ at_last (call (receive 0 0)) ∷ []

unfoldable pub on_five : RowWorld
on_five = ran_row lent_one day_five

-- The exchange opens 6; series 1 is answered with 6, and the box opens it.
unfoldable pub on_two_days : RowWorld
on_two_days = row_step on_five (at_exchange (open_sender 6 (1 ∷ 2 ∷ []) (0 ∷ 0 ∷ [])))

unfoldable pub on_six : RowWorld
on_six =
    row_run on_two_days
    (at_box 0 (ask 1 req_login (space 200)) ∷ at_exchange (login 1 1 rsp_login (space 163)) ∷ at_box 0 (answer 1) ∷ [])

-- Number 2 of day 5 is delivered now.
unfoldable pub late : RowWorld
late = row_step on_six (at_box 0 (Row.receive 1 0))

-- A message of day 6; series 2 is answered with 6, and the message delivered.
unfoldable pub caught_up : RowWorld
caught_up =
    row_run late
    (at_exchange (publish 2 tid (note 2 3)) ∷ at_box 0 (ask 2 req_login (space 200))
    ∷ at_exchange (login 2 2 rsp_login (space 163)) ∷ at_box 0 (answer 2) ∷ at_exchange (send 2 (space 100))
    ∷ at_box 0 (Row.receive 2 0) ∷ [])

-- What box 0 answers to packet j of what was sent at place i on the line above it; nothing where there is none.
abbrev pub packet_in : Option Transmission → ℕ → Option (List ℕ)
packet_in none j = none
packet_in (some t) j = get_elem? t.packets j

abbrev pub says_to : Option RowBox → Option (List ℕ) → List ℕ
says_to none o = []
says_to (some n) none = []
says_to (some n) (some p) =
    let r = receive_box_of (box_of n.node) p n.node.log n.node.receiving.buffer in
    numbers (received_said p r.buffer r.answer)

abbrev pub box_says : RowWorld → ℕ → ℕ → List ℕ
box_says w i j = says_to (get_elem? w.boxes 0) (packet_in (get_elem? w.exchange.transmissions i) j)

abbrev pub box_order : RowWorld → List ℕ
box_order w = order_numbers (order_at 2 (node_at w 1) w.exchange)

abbrev pub one_of_five : List ℕ
one_of_five = listed (message (note 1 3) ∷ [])

abbrev pub two_of_five : List ℕ
two_of_five = listed (message (note 1 3) ∷ message [] ∷ [])

abbrev pub one_of_six : List ℕ
one_of_six = listed (message (note 2 3) ∷ [])

unfoldable pub late_rows : List BenchRow
late_rows =
    bench_row 1 (published_at on_five 0 2 5) two_of_five
    ∷ bench_row 1 (published_at on_five 1 2 5) one_of_five
    ∷ bench_row 1 (handed_at on_five 2 5) one_of_five
    -- The box against the exchange: a start; with other marks 15; then the same, with nothing of day 6 in either.
    ∷ bench_row 2 (box_order on_five) (1 ∷ [])
    ∷ bench_row 2 (box_order on_two_days) (4 ∷ 15 ∷ [])
    ∷ bench_row 2 (box_order on_six) (0 ∷ [])
    -- Number 2 of day 5 is refused, and the list stays the start that it was.
    ∷ bench_row 3 (box_says on_six 1 0) (numbers (refused 15))
    ∷ bench_row 3 (published_at late 1 2 5) one_of_five
    ∷ bench_row 3 (published_at late 0 2 5) two_of_five
    -- Day 6 grows with the exchange's, and of day 5 nothing comes any more.
    ∷ bench_row 4 (published_at caught_up 0 2 6) one_of_six
    ∷ bench_row 4 (published_at caught_up 1 2 6) one_of_six
    ∷ bench_row 4 (published_at caught_up 1 2 5) one_of_five
    ∷ bench_row 4 (handed_at caught_up 2 5) one_of_five
    ∷ bench_row 4 (box_order caught_up) (0 ∷ [])
    ∷ []

pub record RowExamples : Type 0 where
  -- The second half's conditions hold on all lines of one list, and what it says of it is of one message.
  pub each_line : CaughtUpTo lent_two passing 2 1
  pub passes : T (all_same passed_rows)
  pub lags : T (all_same late_rows)
