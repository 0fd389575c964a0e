-- Three lists of calls, computed: what the histories and the second half's conditions say of them.
-- Login packets, login answers and transmissions are named by their place on the line, from 0: in the first two lists
-- each is a message sent whole. And three calls that the lists can't have: a buffer too short for one.
use Rattle.std.specs.Prelude.{ℕ, ◌≡◌, List, [], ◌∷◌, ◌++◌, Bool, true, false, cond, ◌&&◌, length, drop, get_or, T, eqb}
use Rattle.std.proofs.Math.Option.{Option, none, some}
use Rattle.std.proofs.Math.ListN.{get_elem?}
use Rattle.ftd.specs.Chain.{packets_of}
use Rattle.ftd.specs.Login.{login_bytes}
use Rattle.ftd.specs.Bench.{same}
use Rattle.flow.specs.declared.receiver.Receiver.{Receiver}
use Rattle.flow.specs.declared.receiver.Received.{Received}
use Rattle.flow.specs.Ends.{Wrote}
use Rattle.flow.specs.Answers.{Message, Said, refused, held, is_taken, opened_said, published_said, login_said}
use Rattle.flow.specs.Answers.{sent_said, sent_packet_said, requested_said, confirmed_said, received_said}
use Rattle.flow.specs.Serving.{open_day_of, publish_of, login_of, send_of, send_packet_of}
use Rattle.flow.specs.Receiving.{open_end_of, request_login_of, confirm_login_of, receive_of}
use Rattle.flow.specs.World.{InSeries, Event, open_sender, publish, login, send, send_packet, open_receiver, connect}
use Rattle.flow.specs.World.{request_login, confirm_login, receive, broken, transmission, World, start, step, run}
use Rattle.flow.specs.Agreement.{of, published_on, handed_on, reported, CaughtUp}
use Rattle.flow.specs.PacketByPacket.{shown}
use Rattle.flow.specs.Bench.{numbers, req_login, rsp_login, tid, note, space, at_last}
use Rattle.std.specs.Prelude.{Some}

-- ─── Contents ───

unfoldable pub a1 : List ℕ
a1 = note 1 3

-- Three packets: F, C, L.
unfoldable pub a2 : List ℕ
a2 = note 2 2035 ++ (note 3 2035 ++ note 4 2035)

unfoldable pub a3 : List ℕ
a3 = note 5 2

unfoldable pub b1 : List ℕ
b1 = note 6 1

-- No field.
unfoldable pub b2 : List ℕ
b2 = []

unfoldable pub c1 : List ℕ
c1 = note 7 4

-- Two packets: F, L.
unfoldable pub c2 : List ℕ
c2 = note 8 2034 ++ note 9 2035

unfoldable pub d1 : List ℕ
d1 = note 10 2034 ++ note 11 2035

-- ─── What is expected of a list ───

abbrev pub same_messages : List Message → List (List ℕ) → Bool
same_messages [] [] = true
same_messages [] (c ∷ cs) = false
same_messages (m ∷ ms) [] = false
same_messages (m ∷ ms) (c ∷ cs) = eqb m.tid tid && same m.content c && same_messages ms cs

-- What was published in a series on a day, what was handed on, and what was reported.
abbrev pub shows : World → ℕ → ℕ → List (List ℕ) → List (List ℕ) → List ℕ → Bool
shows w s d published handed reports =
    same_messages (published_on w s d) published && same_messages (handed_on w s d) handed
    && same (of s d w.receiving.reports) reports

-- The numbers of the calls that were refused, in order.
abbrev pub refusal : Said → List ℕ
refusal a = cond (is_taken a) [] (drop 1 (numbers a))

abbrev pub refusal_with : {A : Type 0} → (A → Said) → Option A → List ℕ
refusal_with f none = []
refusal_with f (some x) = refusal (f x)

abbrev pub refusal_by : World → Event → List ℕ
refusal_by w (open_sender date ss rs) =
    refusal (opened_said (open_day_of w.serving.end date ss rs w.serving.log).answer)
refusal_by w (publish s t content) =
    refusal (published_said (publish_of w.serving.end s t content w.serving.log).answer)
refusal_by w (login s i content out) =
    refusal_with (λ p. login_said (login_of w.serving.end s p content out).answer)
    (get_elem? w.receiving.requests i)
refusal_by w (send s out) = refusal (sent_said (send_of w.serving.end s w.serving.log out).answer)
refusal_by w (send_packet s out) =
    refusal (sent_packet_said (send_packet_of w.serving.end s w.serving.log out).answer)
refusal_by w (open_receiver ss) = refusal (opened_said (open_end_of w.receiving.end ss).answer)
refusal_by w connect = []
refusal_by w (request_login s content out) =
    refusal (requested_said (request_login_of w.receiving.end s content out).answer)
refusal_by w (confirm_login i) =
    refusal_with
    (λ (a : InSeries (List ℕ)). confirmed_said (confirm_login_of w.receiving.end a.series a.what).answer)
    (get_elem? w.serving.answers i)
refusal_by w (receive i j) =
    refusal_with (λ p. received_said p [] (receive_of w.receiving.end p w.receiving.buffer).answer)
    (get_elem? (get_or w.serving.transmissions i (transmission 0 [] broken)).packets j)

abbrev pub refusals : World → List Event → List ℕ
refusals w [] = []
refusals w (e ∷ es) = refusal_by w e ++ refusals (step w e) es

-- ─── The first list: two days, two series ───

unfoldable pub two_days : List Event
two_days =
    publish 1 tid a1  -- refused 13
    ∷ open_sender 7 (3 ∷ 1 ∷ []) (0 ∷ 0 ∷ [])  -- the first day
    ∷ open_receiver (1 ∷ 3 ∷ [])  -- in the other order
    ∷ open_receiver (1 ∷ 3 ∷ [])  -- refused 11
    ∷ publish 1 tid a1
    ∷ publish 1 tid a2
    ∷ publish 3 tid b1
    ∷ publish 1 tid a3
    ∷ request_login 1 req_login (space 200)  -- login packet 0
    ∷ request_login 3 req_login (space 200)  -- login packet 1
    ∷ login 3 0 rsp_login (space 200)  -- refused 13: start field of another series
    ∷ login 1 0 rsp_login (space 200)  -- answer 0
    ∷ login 3 1 rsp_login (space 200)  -- answer 1
    ∷ confirm_login 0
    ∷ confirm_login 1
    ∷ send 1 (space 50)  -- message 0: a1
    ∷ send 1 (space 50)  -- refused 18
    ∷ send 1 (space 6300)  -- message 1: a2
    ∷ send 1 (space 50)  -- message 2: a3
    ∷ send 3 (space 50)  -- message 3: b1
    ∷ receive 2 0  -- out of order: refused 16
    ∷ receive 0 0  -- a1
    ∷ receive 1 0
    ∷ receive 1 1  -- a2, broken off
    ∷ receive 0 0  -- a1 again
    ∷ receive 1 0
    ∷ publish 3 tid b2  -- a call of the serving end within the run; b2 is never sent
    ∷ receive 1 1
    ∷ receive 1 2  -- a2
    ∷ receive 2 0  -- a3
    ∷ receive 3 0  -- b1
    ∷ request_login 1 req_login (space 200)  -- login packet 2: of day 7, next 4
    ∷ open_sender 8 (3 ∷ 1 ∷ []) (0 ∷ 0 ∷ [])  -- the second day
    ∷ open_sender 8 (1 ∷ []) (0 ∷ [])  -- refused 11
    ∷ publish 1 tid c1
    ∷ connect
    ∷ receive 0 0  -- refused 14
    ∷ login 1 2 rsp_login (space 200)  -- answer 2: by the stale login packet, from 1
    ∷ confirm_login 0  -- the answer of day 7: an equal trade date, logs in
    ∷ confirm_login 2
    ∷ send 1 (space 50)  -- message 4: c1
    ∷ receive 0 0  -- of day 7: refused 15
    ∷ receive 4 0  -- c1
    ∷ publish 1 tid c2
    ∷ send 1 (space 5000)  -- message 5: c2
    ∷ receive 5 0
    ∷ receive 5 1  -- c2
    ∷ send 1 []  -- none
    ∷ []

unfoldable pub two_days_start : World
two_days_start = start (space 10400) (space 65536)

unfoldable pub two_days_end : World
two_days_end = run two_days_start two_days

unfoldable pub two_days_refusals : List ℕ
two_days_refusals = 13 ∷ 11 ∷ 13 ∷ 18 ∷ 16 ∷ 11 ∷ 14 ∷ 15 ∷ []

abbrev pub two_days_shown : World → Bool
two_days_shown w =
    shows w 1 7 (a1 ∷ a2 ∷ a3 ∷ []) (a1 ∷ a2 ∷ a3 ∷ []) (0 ∷ 1 ∷ 1 ∷ 1 ∷ 1 ∷ 1 ∷ 1 ∷ 2 ∷ 3 ∷ 3 ∷ [])
    && shows w 3 7 (b1 ∷ b2 ∷ []) (b1 ∷ []) (0 ∷ 1 ∷ [])
    && shows w 1 8 (c1 ∷ c2 ∷ []) (c1 ∷ c2 ∷ []) (0 ∷ 1 ∷ 1 ∷ 2 ∷ [])
    && shows w 3 8 [] [] []

-- ─── The second list: the second half's conditions, of both series ───

-- Up to the last login of series 1.
unfoldable pub early : List Event
early =
    publish 1 tid a1  -- refused 13: no day
    ∷ open_sender 6 (1 ∷ []) (0 ∷ [])
    ∷ open_receiver (1 ∷ 3 ∷ [])
    ∷ request_login 5 req_login (space 200)  -- refused 13
    ∷ request_login 1 req_login (space 200)  -- login packet 0: next 1, no trade date
    ∷ login 1 0 rsp_login (space 200)  -- answer 0, of day 6
    ∷ open_sender 7 (3 ∷ 1 ∷ []) (0 ∷ 0 ∷ [])  -- in the other order than the receiving end
    ∷ publish 1 tid a1
    ∷ publish 1 tid c2  -- two packets
    ∷ publish 3 tid d1  -- two packets
    ∷ send 1 (space 50)  -- refused 14
    ∷ request_login 3 req_login (space 200)  -- login packet 1
    ∷ login 3 0 rsp_login (space 200)  -- refused 13: start field of another series
    ∷ login 1 0 rsp_login (space 200)  -- answer 1: by the login packet of day 6
    ∷ login 3 1 rsp_login (space 200)  -- answer 2
    ∷ send 3 (space 5000)  -- message 0: d1
    ∷ confirm_login 2
    ∷ connect
    ∷ receive 0 0  -- refused 14
    ∷ confirm_login 2
    ∷ confirm_login 1
    ∷ confirm_login 0  -- of day 6: refused 15
    ∷ receive 0 0  -- d1, held
    ∷ []

-- Within the run of d1, by a login packet used before: answer 3.
unfoldable pub last_of_one : Event
last_of_one = login 1 0 rsp_login (space 200)

-- Up to the last login of series 3.
unfoldable pub between : List Event
between =
    receive 0 1  -- d1
    ∷ send 1 (space 50)  -- message 1: a1
    ∷ send 1 (space 50)  -- refused 18
    ∷ send 1 (space 5000)  -- message 2: c2
    ∷ receive 2 0  -- out of order: refused 16
    ∷ receive 1 0  -- a1
    ∷ receive 2 0  -- c2, held
    ∷ confirm_login 3  -- drops the chain of c2
    ∷ receive 1 0  -- a1 again
    ∷ receive 2 0  -- c2 anew, held
    ∷ publish 1 tid a3  -- behind the login
    ∷ receive 2 1  -- c2
    ∷ publish 3 tid b1
    ∷ send 3 (space 50)  -- message 3: b1, lost
    ∷ request_login 3 req_login (space 200)  -- login packet 2: of day 7, next 2
    ∷ []

-- Answer 4.
unfoldable pub last_of_three : Event
last_of_three = login 3 2 rsp_login (space 200)

unfoldable pub late : List Event
late =
    open_sender 7 (1 ∷ []) (0 ∷ [])  -- refused 11
    ∷ open_receiver (1 ∷ [])  -- refused 11
    ∷ login 1 9 rsp_login (space 200)  -- no such login packet: no call
    ∷ send 1 (space 50)  -- message 4: a3
    ∷ receive 4 0  -- a3
    ∷ receive 1 0  -- a1 again
    ∷ confirm_login 4
    ∷ send 3 (space 50)  -- message 5: b1
    ∷ receive 0 0  -- d1 again, broken off
    ∷ receive 5 0  -- b1
    ∷ publish 3 tid b2  -- behind the login
    ∷ send 3 (space 50)  -- message 6: b2
    ∷ receive 6 0  -- b2
    ∷ send 1 []  -- none
    ∷ []

abbrev pub two_logins : List Event
two_logins = early ++ (last_of_one ∷ (between ++ (last_of_three ∷ late)))

-- The worlds before and right behind each login, and at the list's end.
unfoldable pub two_logins_start : World
two_logins_start = start (space 8400) (space 65536)

unfoldable pub before_one : World
before_one = run two_logins_start early

unfoldable pub behind_one : World
behind_one = step before_one last_of_one

unfoldable pub before_three : World
before_three = run behind_one between

unfoldable pub behind_three : World
behind_three = step before_three last_of_three

unfoldable pub two_logins_end : World
two_logins_end = run behind_three late

-- What each login answered.
abbrev pub last_answer : List ℕ
last_answer = login_bytes (Some 7) rsp_login

unfoldable pub two_logins_refusals : List ℕ
two_logins_refusals = 13 ∷ 13 ∷ 14 ∷ 13 ∷ 14 ∷ 15 ∷ 18 ∷ 16 ∷ 11 ∷ 11 ∷ []

abbrev pub two_logins_shown : World → Bool
two_logins_shown w =
    shows w 1 7 (a1 ∷ c2 ∷ a3 ∷ []) (a1 ∷ c2 ∷ a3 ∷ []) (0 ∷ 1 ∷ 1 ∷ 1 ∷ 1 ∷ 1 ∷ 2 ∷ 3 ∷ 3 ∷ [])
    && shows w 3 7 (d1 ∷ b1 ∷ b2 ∷ []) (d1 ∷ b1 ∷ b2 ∷ []) (0 ∷ 0 ∷ 0 ∷ 1 ∷ 1 ∷ 1 ∷ 2 ∷ 3 ∷ [])

-- ─── The third list: packet by packet (02, No. 4) ───

-- c2 and d1 take two packets each, of 2,070 and 2,071 bytes. Up to the last login.
unfoldable pub singly : List Event
singly =
    open_sender 7 (1 ∷ []) (0 ∷ [])
    ∷ open_receiver (1 ∷ [])
    ∷ publish 1 tid c2  -- number 1
    ∷ send_packet 3 (space 2070)  -- refused 13
    ∷ send_packet 1 (space 2070)  -- refused 14
    ∷ request_login 1 req_login (space 200)  -- login packet 0
    ∷ login 1 0 rsp_login (space 200)  -- answer 0
    ∷ confirm_login 0
    ∷ send_packet 1 (space 2070)  -- transmission 0: the first packet of c2
    ∷ receive 0 0  -- c2, held
    ∷ publish 1 tid a1  -- number 2; what comes next stays
    ∷ send_packet 1 (space 2070)  -- refused 18: the second packet has one byte more
    ∷ send 1 (space 4140)  -- refused 18: the whole message takes 4,141
    ∷ login 3 0 rsp_login (space 200)  -- refused 13
    ∷ open_sender 7 (1 ∷ []) (0 ∷ [])  -- refused 11; none of these ends it
    ∷ send_packet 1 (space 2071)  -- its second packet: c2 is sent
    ∷ receive 0 1  -- c2
    ∷ send_packet 1 (space 50)  -- transmission 1: a1, in one packet
    ∷ receive 1 0  -- a1
    ∷ request_login 1 req_login (space 200)  -- login packet 1: of day 7, next 3
    ∷ publish 1 tid d1  -- number 3
    ∷ send_packet 1 (space 2070)  -- transmission 2: the first packet of d1
    ∷ receive 2 0  -- d1, held
    ∷ []

-- Answer 1: it breaks transmission 2 off, though it starts with the same message.
unfoldable pub last_within : Event
last_within = login 1 1 rsp_login (space 200)

unfoldable pub anew : List Event
anew =
    receive 2 1  -- no such packet: no call
    ∷ confirm_login 1  -- drops the chain of d1
    ∷ send_packet 1 (space 2070)  -- transmission 3: the first packet of d1 again
    ∷ receive 3 0  -- d1, held
    ∷ send 1 (space 4141)  -- transmission 4: d1 whole; 3 is broken off
    ∷ receive 4 0
    ∷ receive 4 1  -- d1
    ∷ publish 1 tid a3  -- number 4
    ∷ send_packet 1 (space 50)  -- transmission 5: a3
    ∷ receive 5 0  -- a3
    ∷ send_packet 1 []  -- none
    ∷ []

abbrev pub one_packet : List Event
one_packet = singly ++ (last_within ∷ anew)

unfoldable pub one_packet_start : World
one_packet_start = start (space 8400) (space 32768)

unfoldable pub before_within : World
before_within = run one_packet_start singly

unfoldable pub behind_within : World
behind_within = step before_within last_within

unfoldable pub one_packet_end : World
one_packet_end = run behind_within anew

unfoldable pub one_packet_refusals : List ℕ
one_packet_refusals = 13 ∷ 14 ∷ 18 ∷ 18 ∷ 13 ∷ 11 ∷ []

-- The transmissions: c2 whole in two packets, a1 whole in one, d1 broken off twice behind its first, d1 and a3 whole.
-- Four messages were sent and, with two answers, delivered; the receiving end's last is 4, the serving end's next 5.
abbrev pub one_packet_shown : World → Bool
one_packet_shown w =
    shows w 1 7 (c2 ∷ a1 ∷ d1 ∷ a3 ∷ []) (c2 ∷ a1 ∷ d1 ∷ a3 ∷ [])
    (0 ∷ 0 ∷ 1 ∷ 2 ∷ 2 ∷ 2 ∷ 2 ∷ 2 ∷ 3 ∷ 4 ∷ [])
    && same (shown w)
    (1 ∷ 2 ∷ 1 ∷ 1 ∷ 2 ∷ 1 ∷ 2 ∷ 1 ∷ 1 ∷ 2 ∷ 1 ∷ 1 ∷ 4 ∷ 6 ∷ 4 ∷ 5 ∷ 0 ∷ [])

-- ─── 18 drops the chain ───

-- Packet j of a2, as number 1 of series 1.
abbrev pub piece_of : ℕ → List ℕ
piece_of j = get_or (packets_of (record { date = Some 7; tid = tid; series = 1; number = 1; counted = true }) a2) j []

-- F with the whole buffer; C with none; L with the whole buffer again.
unfoldable pub behind_first : Wrote Receiver Received
behind_first = receive_of (at_last 0) (piece_of 0) (space 32768)

unfoldable pub behind_middle : Wrote Receiver Received
behind_middle = receive_of behind_first.end (piece_of 1) []

unfoldable pub behind_last : Wrote Receiver Received
behind_last = receive_of behind_middle.end (piece_of 2) behind_first.bytes

abbrev pub answers : ℕ → Wrote Receiver Received → List ℕ
answers j r = numbers (received_said (piece_of j) r.bytes r.answer)

-- Held; refused 18; refused 17, as no chain is left.
abbrev pub chain_dropped : Bool
chain_dropped =
    same (answers 0 behind_first) (numbers (held 0)) && same (answers 1 behind_middle) (numbers (refused 18))
    && same (answers 2 behind_last) (numbers (refused 17))

-- ─── All of them ───

pub record Examples : Type 0 where
  pub refused : T (same (refusals two_days_start two_days) two_days_refusals)
  pub shown : T (two_days_shown two_days_end)
  -- The second list: the second half's conditions hold of both series, and n is the published count.
  pub refused-again : T (same (refusals two_logins_start two_logins) two_logins_refusals)
  pub shown-again : T (two_logins_shown two_logins_end)
  pub one-caught-up : CaughtUp before_one behind_one two_logins_end 1 7 last_answer []
  pub three-caught-up : CaughtUp before_three behind_three two_logins_end 3 7 last_answer []
  pub one-counted : (reported two_logins_end 1 7 ≡ 3) × (length (published_on two_logins_end 1 7) ≡ 3)
  pub three-counted : (reported two_logins_end 3 7 ≡ 3) × (length (published_on two_logins_end 3 7) ≡ 3)
  -- The third list: the same of its one series, and what the line then has.
  pub refused-singly : T (same (refusals one_packet_start one_packet) one_packet_refusals)
  pub shown-singly : T (one_packet_shown one_packet_end)
  pub singly-caught-up : CaughtUp before_within behind_within one_packet_end 1 7 last_answer []
  pub singly-counted : (reported one_packet_end 1 7 ≡ 4) × (length (published_on one_packet_end 1 7) ≡ 4)
  -- A chain that one call had no room for is gone.
  pub dropped : T chain_dropped
