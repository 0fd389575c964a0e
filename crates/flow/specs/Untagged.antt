-- Packets without tag 0x05 (01, "The receiving end": "Without tag 0x05 the packet counts as of the kept mark"; "The
-- serving end", Login: "without the tag the mark counts as its own"; row 15, Answer: "lower or absent").
use Rattle.std.specs.Prelude.{ℕ, ◌≡◌, List, [], ◌∷◌, ◌++◌, map, false, true, T}
use Rattle.ftd.specs.Bytes.{part, joined}
use Rattle.ftd.specs.Packet.{dated_of, not_one_packet, no_message_packet}
use Rattle.ftd.specs.Chain.{packets_of}
use Rattle.ftd.specs.Login.{login_bytes}
use Rattle.ftd.specs.Resume.{resume_bytes}
use Rattle.ftd.specs.Bench.{BenchRow, bench_row, all_same}
use Rattle.ftd.specs.Types.{TradeDate}
use Rattle.ftd.specs.declared.packet.Span.{Span}
use Rattle.ftd.specs.declared.packet.Header.{Header}
use Rattle.ftd.specs.declared.packet.Packet.TheVariants.{Message}
use Rattle.flow.specs.declared.sender.Sender.{Sender}
use Rattle.flow.specs.declared.receiver.Receiver.{Receiver}
use Rattle.flow.specs.Ends.{kept_of}
use Rattle.flow.specs.Answers.{Said, refused, answered, again, handed_on, is_taken, received_said, login_said}
use Rattle.flow.specs.Answers.{confirmed_said}
use Rattle.flow.specs.Serving.{login_of}
use Rattle.flow.specs.Receiving.{confirm_login_of, receive_with, receive_of}
use Rattle.flow.specs.Several.{receiving}
use Rattle.flow.specs.Bufferful.{each}
use Rattle.flow.specs.Bench.{numbers, says, req_login, rsp_login, tid, note, message, space, at_last, four}
use Rattle.std.specs.Prelude.{Some, None}

-- ─── Packets of one header, content and place in the message ───

-- One packet with a message, read as header and place of its content.
pub record IsMessage (p : List ℕ) (h : Header) (extension c : Span) : Type 0 where
  pub one : not_one_packet p ≡ false
  pub kind : no_message_packet p ≡ false
  pub read : (dated_of p).packet ≡ Message h extension c

abbrev pub content_of : List ℕ → Span → List ℕ
content_of p c = part p c.start c.len

-- ─── Computed rows: series 1 is of day 7, at last 5; the serving end is of day 7, with four published ───

-- A message of one packet, with a trade date or without.
abbrev pub packet_dated : TradeDate → ℕ → List ℕ
packet_dated date k =
    joined (packets_of (record { date = date; tid = tid; series = 1; number = k; counted = true }) (note 1 3))

abbrev pub receives_dated : TradeDate → ℕ → Said
receives_dated date k =
    let r = receive_of (at_last 5) (packet_dated date k) [] in
    received_said (packet_dated date k) r.bytes r.answer

-- Receive for one packet after the other.
abbrev pub receives_each : List (List ℕ) → List ℕ
receives_each ps = joined (map numbers (each receiving (at_last 5) [] ps).said)

-- A login with a trade date or without, and the next number wanted.
abbrev pub logs_in_dated : TradeDate → ℕ → Said
logs_in_dated date next =
    login_said
    (login_of four.serving.end 1 (login_bytes date (req_login ++ resume_bytes 1 next)) rsp_login (space 163)).answer

unfoldable pub untagged_rows : List BenchRow
untagged_rows =
    -- without the tag: next, again, out of line
    says 0 (receives_dated None 6) (handed_on 6 (message (note 1 3)))
    ∷ says 0 (receives_dated None 5) (again 5)
    ∷ says 0 (receives_dated None 7) (refused 16)
    -- with the kept trade date, a higher and a lower one
    ∷ says 0 (receives_dated (Some 7) 6) (handed_on 6 (message (note 1 3)))
    ∷ says 0 (receives_dated (Some 8) 6) (refused 15)
    ∷ says 0 (receives_dated (Some 6) 6) (refused 15)
    -- one after the other: handed on, another day's refused, handed on
    ∷ bench_row 0 (receives_each (packet_dated None 6 ∷ packet_dated (Some 8) 7 ∷ packet_dated None 7 ∷ []))
    (joined (map numbers (handed_on 6 (message (note 1 3)) ∷ refused 15 ∷ handed_on 7 (message (note 1 3)) ∷ [])))
    -- Login without the tag looks at the number, as with its own trade date; a lower one starts at 1, a higher is 15
    ∷ says 0 (logs_in_dated None 5) (answered 163)
    ∷ says 0 (logs_in_dated None 6) (refused 19)
    ∷ says 0 (logs_in_dated (Some 7) 6) (refused 19)
    ∷ says 0 (logs_in_dated (Some 6) 6) (answered 163)
    ∷ says 0 (logs_in_dated (Some 8) 5) (refused 15)
    ∷ []

-- ─── The statement ───

pub record Untagged : Type 0 where
  -- Receive of an untagged packet is Receive of its header, content and place with the kept trade date.
  pub receive-kept : (e : Receiver) (p buffer : List ℕ) (h : Header) (x c : Span) → IsMessage p h x c
      → (dated_of p).date ≡ None
      → receive_of e p buffer
      ≡ receive_with e h (kept_of e h.series).date (dated_of p).place c (content_of p c) buffer
  -- And leaves and says what it does for a packet that bears the kept trade date and is else like it.
  pub receive-same : (e : Receiver) (p q buffer : List ℕ) (h : Header) (x c y d : Span)
      → IsMessage p h x c → IsMessage q h y d
      → content_of p c ≡ content_of q d → (dated_of p).place ≡ (dated_of q).place
      → (dated_of p).date ≡ None → (dated_of q).date ≡ (kept_of e h.series).date →
      let r = receive_of e p buffer in
      let w = receive_of e q buffer in
      (r.end ≡ w.end) × (r.bytes ≡ w.bytes)
      × (received_said p r.bytes r.answer ≡ received_said q w.bytes w.answer)
  -- It is never refused with 15.
  pub not-other-day : (e : Receiver) (p buffer : List ℕ) → (dated_of p).date ≡ None →
      let r = receive_of e p buffer in
      received_said p r.bytes r.answer ≡ refused 15 → ⊥
  -- No packet changes a trade date that is kept.
  pub dates-stay : (e : Receiver) (p buffer : List ℕ) (s : ℕ)
      → (kept_of (receive_of e p buffer).end s).date ≡ (kept_of e s).date
  -- Login with an untagged packet is Login with one that bears the end's own trade date and is else like it.
  pub login-same : (e : Sender) (s : ℕ) (p q content out : List ℕ) (h : Header) (x c y d : Span)
      → IsMessage p h x c → IsMessage q h y d → content_of p c ≡ content_of q d
      → (dated_of p).date ≡ None → (dated_of q).date ≡ e.day.date
      → login_of e s p content out ≡ login_of e s q content out
  -- An untagged answer is never taken.
  pub answer-refused : (e : Receiver) (s : ℕ) (p : List ℕ) → (dated_of p).date ≡ None
      → is_taken (confirmed_said (confirm_login_of e s p).answer) ≡ false
  pub rows : T (all_same untagged_rows)
