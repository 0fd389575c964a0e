-- Worked examples of the box (02, No. 3), as lists of calls with the answers written down beside them. The box is opened
-- with series 1 and 2. The program `boxcheck` makes more of them with the code.
use Rattle.std.specs.Prelude.{ℕ, ◌+◌, List, [], ◌∷◌, ◌++◌, map, length, T}
use Rattle.ftd.specs.Bytes.{bytes16, bytes32, joined}
use Rattle.ftd.specs.Fields.{field_with}
use Rattle.ftd.specs.Bench.{BenchRow, bench_row, all_same}
use Rattle.flow.specs.Bench.{numbers, req_login, rsp_login, tid, message, space}
use Rattle.flow.specs.Answers.{Said, refused, answered, sent, none, confirmed, again, held, handed_on, login_said}
use Rattle.flow.specs.Answers.{sent_said, confirmed_said, received_said}
use Rattle.relay.specs.State.{Box}
use Rattle.relay.specs.Box.{fresh_box, open_box_of, connect_box_of, answer_of, receive_box_of, login_seat_of, send_seat_of}

-- ─── Calls ───

-- Answer: series, mark, header number. Receive: chain letter, series, number, mark, content of no field or one. Login: a
-- seat, a series, a start in it or none. Send: a seat and a series.
pub data Call : Type 0 where
  answers : ℕ → ℕ → ℕ → Call
  receives : ℕ → ℕ → ℕ → ℕ → List ℕ → Call
  connects : Call
  logs_in : ℕ → ℕ → List ℕ → Call
  sends : ℕ → ℕ → Call

-- A packet: its mark (tag 0x05), TID, chain letter, series, number, so many fields, content.
abbrev pub marked : ℕ → ℕ → ℕ → ℕ → ℕ → ℕ → List ℕ → List ℕ
marked mark t letter s k fields content =
    1 ∷ 6 ∷ bytes16 (16 + length content) ++ (5 ∷ 4 ∷ bytes32 mark ++ (1 ∷ bytes32 t ++ (letter ∷ bytes16 s ++ (bytes32 k
    ++ (bytes16 fields ++ (bytes16 (length content) ++ content))))))

abbrev pub fields_in : List ℕ → ℕ
fields_in [] = 0
fields_in (x ∷ l) = 1

-- A login packet of mark 5 and a start field's bytes.
abbrev pub login_packet : List ℕ → List ℕ
login_packet start = marked 5 22 83 0 0 (1 + fields_in start) (req_login ++ start)

abbrev pub start_at : ℕ → ℕ → List ℕ
start_at s k = field_with 4 (bytes16 s ++ bytes32 k)

-- The box, and what it is lent.
pub record Held : Type 0 where
  pub box : Box
  pub log : List ℕ
  pub buffer : List ℕ

abbrev pub held_box : Box → List ℕ → List ℕ → Held
held_box b log buffer = record { box = b; log = log; buffer = buffer }

-- What a call answers, and what it leaves.
abbrev pub call_says : Held → Call → List Said
call_says h (answers s m k) = confirmed_said (answer_of h.box s (marked m 22 83 0 k 1 rsp_login) h.log).answer ∷ []
call_says h (receives letter s k m content) =
    let p = marked m tid letter s k (fields_in content) content in
    let r = receive_box_of h.box p h.log h.buffer in
    received_said p r.buffer r.answer ∷ []
call_says h connects = []
call_says h (logs_in i s start) = login_said (login_seat_of h.box i s (login_packet start) rsp_login (space 163)).answer ∷ []
call_says h (sends i s) = sent_said (send_seat_of h.box i s h.log (space 100)).answer ∷ []

abbrev pub call_leaves : Held → Call → Held
call_leaves h (answers s m k) = held_box (answer_of h.box s (marked m 22 83 0 k 1 rsp_login) h.log).end h.log h.buffer
call_leaves h (receives letter s k m content) =
    let r = receive_box_of h.box (marked m tid letter s k (fields_in content) content) h.log h.buffer in
    held_box r.end r.log r.buffer
call_leaves h connects = held_box (connect_box_of h.box) h.log h.buffer
call_leaves h (logs_in i s start) =
    held_box (login_seat_of h.box i s (login_packet start) rsp_login (space 163)).end h.log h.buffer
call_leaves h (sends i s) = held_box (send_seat_of h.box i s h.log (space 100)).end h.log h.buffer

abbrev pub answers_to : Held → List Call → List Said
answers_to h [] = []
answers_to h (c ∷ cs) = call_says h c ++ answers_to (call_leaves h c) cs

-- ─── The examples ───

-- The letters S, F, L.
abbrev pub whole : ℕ → ℕ → ℕ → List ℕ → Call
whole = receives 83

abbrev pub first : ℕ → ℕ → ℕ → List ℕ → Call
first = receives 70

abbrev pub last : ℕ → ℕ → ℕ → List ℕ → Call
last = receives 76

-- One field of FID 0x7000 with 4 bytes.
abbrev pub f4 : List ℕ
f4 = field_with 28672 (1 ∷ 2 ∷ 3 ∷ 4 ∷ [])

-- Opened with reserves, a log of so many bytes, and a chain buffer.
abbrev pub opened_with : List ℕ → ℕ → List ℕ → Held
opened_with reserves n buffer = held_box (open_box_of fresh_box (1 ∷ 2 ∷ []) reserves).end (space n) buffer

abbrev pub example : ℕ → ℕ → List ℕ → List Call → List Said → BenchRow
example n size buffer calls paper =
    bench_row n (joined (map numbers (answers_to (opened_with (0 ∷ 0 ∷ []) size buffer) calls))) (joined (map numbers paper))

-- 1 and 2: a day is opened by the first answer, and by no equal mark; the seat stays logged in.
unfoldable pub opening : BenchRow
opening =
    example 2 100 [] (logs_in 0 1 [] ∷ answers 1 5 0 ∷ logs_in 0 2 [] ∷ sends 0 2 ∷ answers 2 4 0 ∷ answers 2 5 0 ∷ sends 0 2 ∷ [])
    (refused 13 ∷ confirmed 0 ∷ answered 163 ∷ none ∷ refused 15 ∷ confirmed 0 ∷ none ∷ [])

-- 6: a repeat of an older series is 15, behind Connect 14.
unfoldable pub late_again : BenchRow
late_again =
    example 6 100 [] (answers 1 5 0 ∷ answers 2 5 0 ∷ whole 2 1 5 [] ∷ whole 2 1 5 [] ∷ answers 1 6 0 ∷ whole 2 1 5 [] ∷ connects
    ∷ whole 2 1 5 [] ∷ [])
    (confirmed 0 ∷ confirmed 0 ∷ handed_on 1 (message []) ∷ again 1 ∷ confirmed 0 ∷ refused 15 ∷ refused 14 ∷ [])

-- 5: with header number 1.
unfoldable pub numbered : BenchRow
numbered = example 5 100 [] (answers 1 6 0 ∷ answers 1 5 1 ∷ answers 1 7 1 ∷ []) (confirmed 0 ∷ refused 15 ∷ refused 16 ∷ [])

-- 8: a log of 25 bytes.
unfoldable pub full_log : BenchRow
full_log =
    example 8 25 [] (answers 1 5 0 ∷ whole 1 1 5 f4 ∷ whole 1 2 5 f4 ∷ whole 1 1 5 [] ∷ [])
    (confirmed 0 ∷ refused 18 ∷ refused 16 ∷ handed_on 1 (message []) ∷ [])

-- 9: a log of 35 bytes, and a chain.
unfoldable pub full_chain : BenchRow
full_chain =
    example 9 35 (space 65536) (answers 1 5 0 ∷ first 1 1 5 f4 ∷ last 1 1 5 f4 ∷ last 1 1 5 f4 ∷ [])
    (confirmed 0 ∷ held 0 ∷ refused 18 ∷ refused 17 ∷ [])

-- 13: seats.
unfoldable pub no_seats : BenchRow
no_seats = example 13 0 [] (logs_in 16 1 [] ∷ sends 255 9 ∷ sends 15 1 ∷ []) (refused 25 ∷ refused 25 ∷ refused 13 ∷ [])

-- 14: three seats, each with its own place.
unfoldable pub three_seats : BenchRow
three_seats =
    example 14 100 [] (answers 1 5 0 ∷ whole 1 1 5 f4 ∷ whole 1 2 5 f4 ∷ whole 1 3 5 f4 ∷ logs_in 0 1 (start_at 1 1)
    ∷ logs_in 15 1 (start_at 1 3) ∷ logs_in 7 1 (start_at 1 5) ∷ sends 15 1 ∷ sends 0 1 ∷ sends 15 1 ∷ sends 7 1 ∷ sends 0 1 ∷ connects
    ∷ sends 0 1 ∷ whole 1 4 5 f4 ∷ [])
    (confirmed 0 ∷ handed_on 1 (message f4) ∷ handed_on 2 (message f4) ∷ handed_on 3 (message f4) ∷ answered 163 ∷ answered 163
    ∷ refused 19 ∷ sent 3 40 ∷ sent 1 40 ∷ none ∷ refused 14 ∷ sent 2 40 ∷ sent 3 40 ∷ refused 14 ∷ [])

-- 3: a message, the same again, a piece.
unfoldable pub repeated : BenchRow
repeated =
    example 3 100 (space 65536) (answers 1 5 0 ∷ answers 2 5 0 ∷ whole 1 1 5 f4 ∷ whole 1 1 5 f4 ∷ first 2 1 5 f4 ∷ [])
    (confirmed 0 ∷ confirmed 0 ∷ handed_on 1 (message f4) ∷ again 1 ∷ held 0 ∷ [])

-- FID 4 of three bytes: 8 of the publication, whatever the log.
abbrev pub three_bytes : List ℕ
three_bytes = field_with 4 (1 ∷ 2 ∷ 3 ∷ [])

-- 10: with a log of 100 bytes, and of none.
unfoldable pub wrong_field : BenchRow
wrong_field = example 10 100 [] (answers 1 5 0 ∷ whole 1 1 5 three_bytes ∷ []) (confirmed 0 ∷ refused 8 ∷ [])

unfoldable pub wrong_first : BenchRow
wrong_first = example 10 0 [] (answers 1 5 0 ∷ whole 1 1 5 three_bytes ∷ whole 1 1 5 [] ∷ []) (confirmed 0 ∷ refused 8 ∷ refused 18 ∷ [])

-- Reserves of 60 and 40 (02, No. 11): a log of 99 bytes forbids the opening, 16 comes first.
unfoldable pub reserved : BenchRow
reserved =
    bench_row 11 (joined (map numbers (answers_to (opened_with (60 ∷ 40 ∷ []) 99 []) (answers 1 5 0 ∷ answers 1 5 1 ∷ []))))
    (joined (map numbers (refused 11 ∷ refused 16 ∷ [])))

-- Every answer is the paper's.
pub record BoxExamples : Type 0 where
  pub opens : T (all_same (opening ∷ []))
  pub repeats : T (all_same (late_again ∷ []))
  pub orders : T (all_same (numbered ∷ []))
  pub full-log : T (all_same (full_log ∷ []))
  pub full-chain : T (all_same (full_chain ∷ []))
  pub seat-numbers : T (all_same (no_seats ∷ []))
  pub seats : T (all_same (three_seats ∷ []))
  pub once : T (all_same (repeated ∷ []))
  pub wrong-field : T (all_same (wrong_field ∷ wrong_first ∷ []))
  pub reserves : T (all_same (reserved ∷ []))
