-- The bench table whole (01, "Bench examples"; clause d): the rows P1 to P9 and P12 of `ftd`, and between them those of
-- the ends.
use Rattle.std.specs.Prelude.{ℕ, List, [], ◌∷◌, ◌++◌, true, cond, replicate, T}
use Rattle.ftd.specs.Bytes.{joined}
use Rattle.ftd.specs.Fields.{field_with}
use Rattle.ftd.specs.Chain.{packets_of}
use Rattle.ftd.specs.Bench.{BenchRow, bench_row, all_same, up_to_nine, twelfth}
use Rattle.flow.specs.declared.sender.Sender.{Sender}
use Rattle.flow.specs.Types.{LoggedIn}
use Rattle.flow.specs.declared.receiver.Receiver.{Receiver}
use Rattle.flow.specs.Ends.{Wrote, fresh_receiver, with_series, logged_in}
use Rattle.flow.specs.Answers.{Message, Said, refused, opened, published, answered, sent, none, asked, confirmed}
use Rattle.flow.specs.Answers.{idle, again, held, handed_on, sent_packet, kept, returned, login_said, sent_said}
use Rattle.flow.specs.Answers.{received_said}
use Rattle.flow.specs.Serving.{login_of, send_of}
use Rattle.flow.specs.Receiving.{open_end_of, request_bytes, receive_of}
use Rattle.flow.specs.World.{open_sender, publish, World, start, run}
use Rattle.std.specs.Prelude.{Some}

-- ─── Answers in numbers: which one it is, and its values ───

abbrev pub numbers : Said → List ℕ
numbers (refused n) = 0 ∷ n ∷ []
numbers opened = 1 ∷ []
numbers (published k) = 2 ∷ k ∷ []
numbers (answered n) = 3 ∷ n ∷ []
numbers (sent k n) = 4 ∷ k ∷ n ∷ []
numbers none = 5 ∷ []
numbers (sent_packet k n last) = 12 ∷ k ∷ n ∷ cond last 1 0 ∷ []
numbers (asked n) = 6 ∷ n ∷ []
numbers (confirmed n) = 7 ∷ n ∷ []
numbers idle = 8 ∷ []
numbers (again n) = 9 ∷ n ∷ []
numbers (held n) = 10 ∷ n ∷ []
numbers (handed_on n m) = 11 ∷ n ∷ m.tid ∷ m.content
numbers kept = 12 ∷ []
numbers returned = 13 ∷ []

-- A row whose call answers something.
abbrev pub says : ℕ → Said → Said → BenchRow
says n answer paper = bench_row n (numbers answer) (numbers paper)

-- ─── What the calls are given ───

-- ReqUserLoginField and RspUserLoginField, blank: flag 0, spaces, and TimeOut or TimeSpan 000.
unfoldable pub req_login : List ℕ
req_login = field_with 35 (0 ∷ replicate 96 32 ++ (replicate 3 48 ++ replicate 20 32))

unfoldable pub rsp_login : List ℕ
rsp_login = field_with 39 (0 ∷ replicate 83 32 ++ (replicate 3 48 ++ replicate 44 32))

-- Messages have a TID outside the appendices, and fields of an unknown FID: n bytes x.
abbrev pub tid : ℕ
tid = 30583

abbrev pub note : ℕ → ℕ → List ℕ
note x n = field_with 28673 (replicate n x)

abbrev pub message : List ℕ → Message
message content = record { tid = tid; content = content }

-- An output of n bytes.
abbrev pub space : ℕ → List ℕ
space n = replicate n 170

-- A receiving end with series 1, of day 7, at a last number.
unfoldable pub at_last : ℕ → Receiver
at_last last = with_series (open_end_of fresh_receiver (1 ∷ [])).end 1 (Some 7) last logged_in

-- ─── P10: each from last 5 ───

-- S with a number.
abbrev pub receives_row : ℕ → Said
receives_row k =
    let p = joined (packets_of (record { date = Some 7; tid = tid; series = 1; number = k; counted = true }) (note 1 3)) in
    let r = receive_of (at_last 5) p [] in
    received_said p r.bytes r.answer

-- ─── P11: four published ───

unfoldable pub four : World
four =
    run (start (space 100) [])
    (open_sender 7 (1 ∷ []) (0 ∷ []) ∷ publish 1 tid (note 1 3) ∷ publish 1 tid [] ∷ publish 1 tid [] ∷ publish 1 tid [] ∷ [])

-- A login by the packet that Ask writes at a last number; next is one above.
abbrev pub logs_in : ℕ → Wrote Sender LoggedIn
logs_in last = login_of four.serving.end 1 (request_bytes (at_last last) 1 req_login) rsp_login (space 163)

-- ─── The table ───

unfoldable pub both_ends : List BenchRow
both_ends =
    -- P10 number 6 handed on, 5 again, 7 refused 16
    says 10 (receives_row 6) (handed_on 6 (message (note 1 3)))
    ∷ says 10 (receives_row 5) (again 5)
    ∷ says 10 (receives_row 7) (refused 16)
    -- P11 next 5 logs in and Send has none; 6: 19
    ∷ says 11 (login_said (logs_in 4).answer) (answered 163)
    ∷ says 11 (sent_said (send_of (logs_in 4).end 1 four.serving.log []).answer) none
    ∷ says 11 (login_said (logs_in 5).answer) (refused 19)
    ∷ []

-- P1 to P12: every row's answer is the paper's.
unfoldable pub bench : List BenchRow
bench = up_to_nine ++ (both_ends ++ twelfth)

abbrev pub Bench : Type 0
Bench = T (all_same bench)
