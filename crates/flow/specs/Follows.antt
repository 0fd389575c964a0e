-- The numbers that a receiving end takes follow each other (02, No. 12): ftd's statement (Follow) for each series of the
-- end, in any state and along any calls, and that the numbers of a day are 1, 2, .. (01, "The receiving end").
use Rattle.std.specs.Prelude.{ℕ, ◌+◌, ◌≡◌, List, [], ◌∷◌, ◌⊎◌, Bool, true, false, cond, ◌&&◌, replicate, T, ltb, eqb}
use Rattle.std.proofs.Math.Option.{Option, none, some}
use Rattle.ftd.specs.Login.{login_bytes}
use Rattle.ftd.specs.Packet.{dated_of}
use Rattle.ftd.specs.Chain.{packet_for}
use Rattle.ftd.specs.Bench.{BenchRow, bench_row, all_same}
use Rattle.ftd.specs.Follow.{Numbered, run_all, also, takes, counting, Follows}
use Rattle.ftd.specs.Types.{TradeDate}
use Rattle.ftd.specs.declared.packet.Chain.{Chain}
use Rattle.ftd.specs.declared.packet.Chain.TheVariants.{Single, First}
use Rattle.ftd.specs.declared.packet.Packet.{Packet}
use Rattle.ftd.specs.declared.packet.Packet.TheVariants.{Short, Link, Skipped, Message, Refused}
use Rattle.flow.specs.declared.receiver.Receiver.{Receiver}
use Rattle.flow.specs.declared.receiver.Received.{Received}
use Rattle.flow.specs.declared.receiver.Received.TheVariants.{Idle, Duplicate, Partial, Complete}
use Rattle.flow.specs.declared.receiver.Received.TheVariants.{Refused as NotTaken}
use Rattle.flow.specs.Ends.{is_day, day_of, last_of, fresh_receiver}
use Rattle.flow.specs.Answers.{is_taken, report_in, opened_said, confirmed_said, received_said}
use Rattle.flow.specs.Receiving.{open_end_of, connect_of, request_login_of, confirm_login_of, receive_of}
use Rattle.flow.specs.World.{borne}
use Rattle.flow.specs.Bench.{tid, note, rsp_login, at_last}
use Rattle.std.specs.Prelude.{Some, None}

-- ─── The end and its calls ───

-- A receiving end with the reassembly buffer that it is lent: any of them, also one that no call has made.
pub record Lent : Type 0 where
  pub end : Receiver
  pub buffer : List ℕ

abbrev pub lent : Receiver → List ℕ → Lent
lent e buffer = record { end = e; buffer = buffer }

-- Every call with every argument; and between calls the buffer may become any other.
pub data Call : Type 0 where
  opening : List ℕ → Call  -- series
  connect : Call
  ask : ℕ → List ℕ → List ℕ → Call  -- series, content, output
  answer : ℕ → List ℕ → Call  -- series, packet
  receive : List ℕ → Call  -- packet
  lend : List ℕ → Call  -- another buffer

abbrev pub behind : Lent → Call → Lent
behind v (opening ss) = lent (open_end_of v.end ss).end v.buffer
behind v connect = lent (connect_of v.end) v.buffer
behind v (ask s content out) = lent (request_login_of v.end s content out).end v.buffer
behind v (answer s p) = lent (confirm_login_of v.end s p).end v.buffer
behind v (receive p) = let r = receive_of v.end p v.buffer in lent r.end r.bytes
behind v (lend buffer) = lent v.end buffer

-- ─── What is taken, and what starts anew ───

-- The number in the header of a message packet of a series.
abbrev pub number_for : ℕ → Packet → Option ℕ
number_for s (Short n) = none
number_for s (Link kind extension) = none
number_for s (Skipped kind extension body) = none
number_for s (Message h extension content) = cond (eqb h.series s) (some h.number) none
number_for s (Refused r) = none

-- A message is handed on, with an S or an L.
abbrev pub hands_over : Received → Bool
hands_over Idle = false
hands_over (Duplicate n) = false
hands_over (Partial n) = false
hands_over (Complete n tid origin at) = true
hands_over (NotTaken r) = false

-- By the packet's own number, not by what the end says of it.
abbrev pub took_of : ℕ → Lent → Call → Option ℕ
took_of s v (opening ss) = none
took_of s v connect = none
took_of s v (ask t content out) = none
took_of s v (answer t p) = none
took_of s v (receive p) =
    cond (hands_over (receive_of v.end p v.buffer).answer) (number_for s (dated_of p).packet) none
took_of s v (lend buffer) = none

-- The second is a trade date, and it is the first one or above the one there was.
abbrev pub rises : TradeDate → TradeDate → Bool
rises was None = false
rises None (Some d) = true
rises (Some k) (Some d) = ltb k d

-- An Opening that is taken; an Answer for the series that is taken, with its first or a higher trade date.
abbrev pub anew_of : ℕ → Lent → Call → Bool
anew_of s v (opening ss) = is_taken (opened_said (open_end_of v.end ss).answer)
anew_of s v connect = false
anew_of s v (ask t content out) = false
anew_of s v (answer t p) =
    is_taken (confirmed_said (confirm_login_of v.end t p).answer) && eqb t s && rises (day_of v.end s)
    (dated_of p).date
anew_of s v (receive p) = false
anew_of s v (lend buffer) = false

-- A series of a receiving end as a numbered receiver: last + 1 is wanted, 1 where it is not open.
abbrev pub of_series : ℕ → Numbered Lent Call
of_series s =
    record {
      wanted = λ v. last_of v.end s + 1;
      step = behind;
      took = took_of s;
      anew = anew_of s;
    }

-- ─── The numbers of a day ───

-- The trade date of what a call takes: the packet's, or without one the kept one.
abbrev pub day_for : ℕ → Lent → Call → TradeDate
day_for s v (opening ss) = None
day_for s v connect = None
day_for s v (ask t content out) = None
day_for s v (answer t p) = None
day_for s v (receive p) = borne (dated_of p).date (day_of v.end s)
day_for s v (lend buffer) = None

-- The numbers taken of a series and a day, in order.
abbrev pub takes_on : ℕ → ℕ → Lent → List Call → List ℕ
takes_on s d v [] = []
takes_on s d v (c ∷ cs) = also (cond (is_day d (day_for s v c)) (took_of s v c) none) (takes_on s d (behind v c) cs)

-- The first number that may be taken of a day: what is wanted while it is the kept one, 1 of any other.
abbrev pub first_on : ℕ → ℕ → Lent → ℕ
first_on s d v = cond (is_day d (day_of v.end s)) (last_of v.end s + 1) 1

-- They are one stretch from there, whatever starts anew between; while the day is kept, it ends with last.
pub record OneStretch (s d : ℕ) (v : Lent) (cs : List Call) : Type 0 where
  pub count : ℕ
  pub numbers : takes_on s d v cs ≡ counting (first_on s d v) count
  pub kept : let e = (run_all (of_series s) v cs).end in day_of e s ≡ Some d → last_of e s + 1 ≡ first_on s d v + count

-- Of an end that starts fresh exactly 1 to k, k being last while the day is kept.
pub record FromOne (s d : ℕ) (buffer : List ℕ) (cs : List Call) : Type 0 where
  pub k : ℕ
  pub numbers : takes_on s d (lent fresh_receiver buffer) cs ≡ counting 1 k
  pub kept : let e = (run_all (of_series s) (lent fresh_receiver buffer) cs).end in day_of e s ≡ Some d → last_of e s ≡ k

-- ─── An example ───

-- A packet of series 1, by chain letter, day and number.
abbrev pub sample : Chain → ℕ → ℕ → Call
sample c d k =
    receive
    (packet_for (record { date = Some d; tid = tid; series = 1; number = k; counted = true }) 0 c
    (record { bytes = note 1 3; count = 1 }))

-- From last 5 on day 7: 6 is taken and comes again, 7 is taken, 9 is a gap; an Answer of the same day changes nothing,
-- and 8 is taken. An Answer of day 8 starts anew, and only a packet of that day is taken as 1; one of day 7 is refused,
-- a piece is held, and 2 is taken.
abbrev pub example_calls : List Call
example_calls =
    sample Single 7 6
    ∷ sample Single 7 6
    ∷ sample Single 7 7
    ∷ sample Single 7 9
    ∷ answer 1 (login_bytes (Some 7) rsp_login)
    ∷ sample Single 7 8
    ∷ answer 1 (login_bytes (Some 8) rsp_login)
    ∷ sample Single 7 1
    ∷ sample Single 8 1
    ∷ answer 1 (login_bytes (Some 7) rsp_login)
    ∷ sample First 8 2
    ∷ sample Single 8 2
    ∷ []

abbrev pub example_start : Lent
example_start = lent (at_last 5) (replicate 32768 0)

-- The numbers taken in all, on day 7 and on day 8.
abbrev pub example_rows : List BenchRow
example_rows =
    bench_row 1 (takes (of_series 1) example_start example_calls) (6 ∷ 7 ∷ 8 ∷ 1 ∷ 2 ∷ [])
    ∷ bench_row 2 (takes_on 1 7 example_start example_calls) (6 ∷ 7 ∷ 8 ∷ [])
    ∷ bench_row 3 (takes_on 1 8 example_start example_calls) (1 ∷ 2 ∷ [])
    ∷ []

-- ─── The statement ───

pub record NumbersFollow : Type 0 where
  -- Of every series: between two calls that start anew the numbers taken follow each other, none twice.
  pub follows : (s : ℕ) → Follows (of_series s)
  -- What starts anew starts at 1.
  pub from_one : (s : ℕ) (v : Lent) (c : Call) → anew_of s v c ≡ true → last_of (behind v c).end s + 1 ≡ 1
  -- The trade date of a series stays or rises.
  pub days : (s : ℕ) (v : Lent) (c : Call) →
      (day_of (behind v c).end s ≡ day_of v.end s) ⊎ (rises (day_of v.end s) (day_of (behind v c).end s) ≡ true)
  -- The numbers of a day.
  pub stretch : (s d : ℕ) (v : Lent) (cs : List Call) → OneStretch s d v cs
  pub fresh : (s d : ℕ) (buffer : List ℕ) (cs : List Call) → FromOne s d buffer cs
  -- What Receive reports with a message is that message's number.
  pub told : (s : ℕ) (v : Lent) (p : List ℕ) (n : ℕ) → took_of s v (receive p) ≡ some n →
      let r = receive_of v.end p v.buffer in
      report_in (received_said p r.bytes r.answer) ≡ n ∷ []
  -- It is not empty: the example's numbers are these.
  pub example : T (all_same example_rows)
