-- One packet a call (02, No. 4): what the second form of Send puts on the line, and what leaves it as it is. The
-- quotations are the request's words.
use Rattle.std.specs.Prelude.{ℕ, suc, ◌<◌, ◌≤◌, ◌≡◌, ◌↔◌, List, [], ◌∷◌, ◌++◌, map, Bool, true, false, not, ◌&&◌, length, take, drop, T}
use Rattle.std.proofs.Math.Option.{Option, none, some}
use Rattle.std.proofs.Math.ListN.{get_elem?}
use Rattle.ftd.specs.Bytes.{joined, part}
use Rattle.ftd.specs.Packet.{dated_of}
use Rattle.ftd.specs.Resume.{resume_of}
use Rattle.ftd.specs.Bench.{BenchRow, bench_row, all_same}
use Rattle.ftd.specs.Chain.{packets_of}
use Rattle.ftd.specs.declared.chain.Message.{Message as Headed}
use Rattle.ftd.specs.declared.refusal.Refusal.TheVariants.{DamagedLog, TooSmall}
use Rattle.ftd.specs.declared.packet.Header.{Header}
use Rattle.ftd.specs.declared.packet.Span.{Span}
use Rattle.ftd.specs.declared.packet.Packet.TheVariants.{Message as Packet-read}
use Rattle.flow.specs.declared.sender.Sender.{Sender}
use Rattle.flow.specs.Types.{Published}
use Rattle.flow.specs.Ends.{Wrote, wrote, most_series, is_served, place_of, last_of}
use Rattle.flow.specs.Log.{entry_tid, entry_content, entry_of}
use Rattle.flow.specs.Answers.{Message}
use Rattle.flow.specs.Serving.{start_of, is_none_left, send_packets, publish_of, login_of, send_of, send_packet_of}
use Rattle.flow.specs.World.{Event, open_sender, publish, login, send, send_packet, open_receiver, request_login}
use Rattle.flow.specs.World.{confirm_login, receive, Standing, going, whole, broken, Transmission, transmission}
use Rattle.flow.specs.World.{World, start, step, run}
use Rattle.flow.specs.Agreement.{published_on}
use Rattle.flow.specs.Bench.{tid, note, space, req_login, rsp_login}
use Rattle.std.specs.Prelude.{Some, None, Ok, Err}
use Rattle.flow.specs.Types.{message_sent, packet_sent}

-- Message x of series s, published at a place of day d, from 0: its number is one more.
abbrev pub headed_at : ℕ → ℕ → ℕ → Message → Headed
headed_at s d place x = record { date = Some d; tid = x.tid; series = s; number = suc place; counted = true }

-- A transmission is the first packets of a message that was published, in order; a whole one all of them, any other one
-- not all.
pub record Begins (w : World) (t : Transmission) : Type 0 where
  pub day : ℕ
  pub place : ℕ
  pub message : Message
  pub published : get_elem? (published_on w t.series day) place ≡ some message
  pub first :
      t.packets
      ≡ take (length t.packets) (packets_of (headed_at t.series day place message) message.content)
  pub one : 0 < length t.packets
  pub all : t.stands ≡ whole → t.packets ≡ packets_of (headed_at t.series day place message) message.content
  pub few : (t.stands ≡ whole → ⊥)
      → length t.packets < length (packets_of (headed_at t.series day place message) message.content)

-- Logged in, with a message left.
abbrev pub has_left : Sender → ℕ → Bool
has_left e s = is_served e s && (place_of e s).login && not (is_none_left e s)

-- What the packet form has still to write of the message that is next, in order.
abbrev pub rest_of : Sender → ℕ → Option (List ℕ) → List (List ℕ)
rest_of e s none = []
rest_of e s (some x) = drop (place_of e s).piece (send_packets e s x)

abbrev pub to_come : Sender → ℕ → List ℕ → List (List ℕ)
to_come e s log = rest_of e s (entry_of e log s (place_of e s).next)

-- It is the last one to come.
abbrev pub none_behind : List (List ℕ) → Bool
none_behind [] = true
none_behind (p ∷ rest) = false

-- What the packet form does where p is next to come and `rest` behind it.
pub record OnePacket (e : Sender) (s : ℕ) (log out p : List ℕ) (rest : List (List ℕ)) : Type 0 where
  -- 18 exactly if the output is too short for that packet, and then nothing is changed.
  pub small : ((send_packet_of e s log out).answer ≡ Err TooSmall) ↔ (length out < length p)
  pub kept : length out < length p → send_packet_of e s log out ≡ wrote e (Err TooSmall) out
  -- Otherwise it is written to the output's start; its message's number, its length and whether it is the last are told.
  pub told : length p ≤ length out
      → (send_packet_of e s log out).answer ≡ packet_sent (place_of e s).next (length p) (none_behind rest)
  pub written : length p ≤ length out → (send_packet_of e s log out).bytes ≡ p ++ drop (length p) out
  -- The others are still to come; behind the last one the place steps on.
  pub others : length p ≤ length out → none_behind rest ≡ false
      → (has_left (send_packet_of e s log out).end s ≡ true) × (to_come (send_packet_of e s log out).end s log ≡ rest)
  pub stepped : length p ≤ length out → none_behind rest ≡ true
      → place_of (send_packet_of e s log out).end s
      ≡ record { login = true; next = suc (place_of e s).next; piece = 0 }

-- What Publish says and writes, and the day that it leaves, are the same in both.
pub record SamePublished (a b : Wrote Sender Published) : Type 0 where
  pub answer : a.answer ≡ b.answer
  pub bytes : a.bytes ≡ b.bytes
  pub day : a.end.day ≡ b.end.day

-- Entry x of a series, with number k, as packets of an end's day.
abbrev pub all_packets : Sender → ℕ → ℕ → List ℕ → List (List ℕ)
all_packets e s k x =
    packets_of (record { date = e.day.date; tid = entry_tid x; series = s; number = k; counted = true })
    (entry_content x)

-- A Send of the whole message with number k in a series put all its packets on the line, as one transmission more.
pub record AllSent (w v : World) (s k : ℕ) : Type 0 where
  pub day : ℕ
  pub place : ℕ
  pub message : Message
  pub today : w.serving.day ≡ Some day
  pub number : k ≡ suc place
  pub published : get_elem? (published_on w s day) place ≡ some message
  pub given :
      get_elem? v.serving.transmissions (length w.serving.transmissions)
      ≡ some (transmission s (packets_of (headed_at s day place message) message.content) whole)

-- ─── An example ───

-- Of each transmission how it stands and how many packets it has; then how many messages were sent and delivered, the
-- receiving end's last number, and the serving end's place: next, and packets written of it.
abbrev pub stands_as : Standing → ℕ
stands_as going = 0
stands_as whole = 1
stands_as broken = 2

abbrev pub shown : World → List ℕ
shown w =
    joined (map (λ (t : Transmission). stands_as t.stands ∷ length t.packets ∷ []) w.serving.transmissions)
    ++ (length w.serving.messages
    ∷ length w.receiving.delivered
    ∷ last_of w.receiving.end 1
    ∷ (place_of w.serving.end 1).next
    ∷ (place_of w.serving.end 1).piece
    ∷ [])

-- A message of two packets and one of one are published, the receiving end logs in, and the first packet is written and
-- received.
abbrev pub begins2 : List Event
begins2 =
    open_sender 7 (1 ∷ []) (0 ∷ [])
    ∷ open_receiver (1 ∷ [])
    ∷ publish 1 tid (note 1 2034 ++ note 2 2035)
    ∷ publish 1 tid (note 3 3)
    ∷ request_login 1 req_login (space 200)
    ∷ login 1 0 rsp_login (space 200)
    ∷ confirm_login 0
    ∷ send_packet 1 (space 4110)
    ∷ receive 0 0
    ∷ []

abbrev pub from : List Event → World
from es = run (start (space 4200) (space 32768)) es

abbrev pub example_rows : List BenchRow
example_rows =
    -- unfinished: next is still 1
    bench_row 1 (shown (from begins2)) (0 ∷ 1 ∷ 0 ∷ 1 ∷ 0 ∷ 1 ∷ 1 ∷ [])
    -- finished packet by packet, and the next one too; then none is left. A refused call changes nothing.
    ∷ bench_row 2
    (shown
    (from
    (begins2
    ++ (send_packet 1 (space 10)
    ∷ send_packet 1 (space 4110)
    ∷ receive 0 1
    ∷ send_packet 1 (space 4110)
    ∷ receive 1 0
    ∷ send_packet 1 (space 4110)
    ∷ [])))) (1 ∷ 2 ∷ 1 ∷ 1 ∷ 2 ∷ 3 ∷ 2 ∷ 3 ∷ 0 ∷ [])
    -- broken off by a whole Send: both packets of number 1 again, and it is delivered with them
    ∷ bench_row 3 (shown (from (begins2 ++ (send 1 (space 8400) ∷ receive 1 0 ∷ receive 1 1 ∷ []))))
    (2 ∷ 1 ∷ 1 ∷ 2 ∷ 1 ∷ 2 ∷ 1 ∷ 2 ∷ 0 ∷ [])
    -- broken off by a login, which starts at 1 again: the next packet is the first
    ∷ bench_row 4
    (shown (from (begins2 ++ (login 1 0 rsp_login (space 200) ∷ send_packet 1 (space 4110) ∷ []))))
    (2 ∷ 1 ∷ 0 ∷ 1 ∷ 0 ∷ 1 ∷ 0 ∷ 1 ∷ 1 ∷ [])
    ∷ []

pub record PacketByPacket : Type 0 where
  -- "The packets of an undisturbed message are those that the whole Send writes": whatever is on the line, after every
  -- list of events.
  pub packets : (log buffer : List ℕ) (es : List Event) (i : ℕ) (t : Transmission) →
      let w = run (start log buffer) es in
      get_elem? w.serving.transmissions i ≡ some t → Begins w t
  -- "Meanwhile publishing is allowed and changes no packet still to come": of any series with a message left.
  pub publishing : (log buffer : List ℕ) (es : List Event) (t tid : ℕ) (content : List ℕ) (s : ℕ) →
      let u = (run (start log buffer) es).serving in
      let v = (step (run (start log buffer) es) (publish t tid content)).serving in
      has_left u.end s ≡ true → to_come v.end s v.log ≡ to_come u.end s u.log
  -- Of any end with a message left, and a log in which there is a packet to come.
  pub one-packet : (e : Sender) (s : ℕ) (log out p : List ℕ) (rest : List (List ℕ)) → has_left e s ≡ true
      → to_come e s log ≡ p ∷ rest → OnePacket e s log out p rest
  -- Where there is none (only in a log that was altered), 20 is said and nothing changed.
  pub no-packet : (e : Sender) (s : ℕ) (log out : List ℕ) → has_left e s ≡ true → to_come e s log ≡ []
      → send_packet_of e s log out ≡ wrote e (Err DamagedLog) out
  -- "Meanwhile publishing is allowed": whoever is logged in, and whatever was written of which message, Publish does the
  -- same.
  pub allowed : (e f : Sender) (t tid : ℕ) (content log : List ℕ) → e.day ≡ f.day
      → SamePublished (publish_of e t tid content log) (publish_of f t tid content log)
  -- A login that was taken starts at the number wanted, with that message's first packet: all its packets are to come.
  -- Of any end with 8 places, as every value of the type has.
  pub from_first : (e : Sender) (s : ℕ) (p content out log : List ℕ) (n : ℕ) (h : Header) (extension c : Span) →
      let k = start_of e (dated_of p).date (resume_of (part p c.start c.len)) in
      let f = (login_of e s p content out).end in
      length e.day.series ≡ most_series → length e.seat.places ≡ most_series
      → (login_of e s p content out).answer ≡ Ok n → (dated_of p).packet ≡ Packet-read h extension c
      → (place_of f s ≡ record { login = true; next = k; piece = 0 })
      × ((x : List ℕ) → entry_of e log s k ≡ some x → to_come f s log ≡ all_packets e s k x)
  -- "a whole Send writes it anew from its first packet", whatever was unfinished.
  pub anew : (log buffer : List ℕ) (es : List Event) (s : ℕ) (out : List ℕ) (k n : ℕ) →
      let w = run (start log buffer) es in
      (send_of w.serving.end s w.serving.log out).answer ≡ message_sent k n → AllSent w (step w (send s out)) s k
  -- None is left for the one form if none is left for the other, of any end and any bytes.
  pub none_left : (e : Sender) (s : ℕ) (log out more : List ℕ)
      → ((send_of e s log out).answer ≡ (Ok None)) ↔ ((send_packet_of e s log more).answer ≡ (Ok None))
  -- The log is never damaged for it while only the ends' calls write it.
  pub undamaged : (log buffer : List ℕ) (es : List Event) (s : ℕ) (out : List ℕ) →
      let v = (run (start log buffer) es).serving in
      (send_packet_of v.end s v.log out).answer ≡ Err DamagedLog → ⊥
  -- It is not empty: the example's numbers are these.
  pub example : T (all_same example_rows)
