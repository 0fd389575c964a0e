-- Request No. 3, whole, with what No. 4, 10 and 11 make of it: the agreement of the ends on each line of the box, the join
-- of its two sides, and that seats don't touch each other. What is said of a line is `flow`'s `Agreed` and `CaughtUp`, of
-- the line's two ends. The first half asks nothing of what a line hands over (02, No. 10); the second counts deliveries
-- as runs, on each line by the calls of its own receiving end.
use Rattle.std.specs.Prelude.{ℕ, ◌+◌, ◌<◌, ◌≤◌, ◌≡◌, List, [], ◌∷◌, Bool, true, false, length, take}
use Rattle.std.proofs.Math.Option.{some}
use Rattle.std.proofs.Math.ListN.{get_elem?}
use Rattle.ftd.specs.Packet.{dated_of}
use Rattle.ftd.specs.declared.refusal.Refusal.TheVariants.{Opening, DamagedLog}
use Rattle.flow.specs.Ends.{up_to, is_open, kept_of, kept_series, day_series, published_of, place_of, no_place, sum_of, larger}
use Rattle.flow.specs.Answers.{Message, is_taken, confirmed_said, received_said, report_in}
use Rattle.flow.specs.Receiving.{confirm_login_of, receive_of}
use Rattle.flow.specs.Shares.{reserves}
use Rattle.flow.specs.World.{InSeries, Dated, Transmission, transmission, whole, ended_all, SenderSide, World}
use Rattle.flow.specs.Agreement.{of, published_on, handed_on, reported, Agreed, EachDated, since, CaughtUp}
use Rattle.relay.specs.State.{Box}
use Rattle.relay.specs.Box.{reserves_of, serving, server_at, answer_of, receive_way, publishes, send_seat_of}
use Rattle.relay.specs.Box.{send_packet_seat_of}
use Rattle.relay.specs.World.{Lent, Node, BoxWorld, box_of, above, below, start_box, BoxEvent, open_exchange}
use Rattle.relay.specs.World.{publish_exchange, login_exchange, send_exchange, send_packet_exchange, open_box, connect_box}
use Rattle.relay.specs.World.{ask_box, answer_box, receive_box, login_seat, send_seat, send_packet_seat, open_end}
use Rattle.relay.specs.World.{connect_end, ask_end, answer_end, receive_end, box_step, box_run}
use Rattle.relay.specs.Seats.{Independence}
use Rattle.std.specs.Prelude.{Some, Ok, Err}

-- The whole after a list of events, "refused ones included".
abbrev pub ran : Lent → List BoxEvent → BoxWorld
ran l es = box_run (start_box l) es

-- ─── The join ───

-- Published below and handed on by the receiving end are one list, for every series and day.
abbrev pub Joined : Node → ℕ → ℕ → Type 0
Joined n s d = of s d n.published ≡ of s d n.receiving.handed

-- "under the same number": Publish gives the number that Receive reports.
abbrev pub SameNumber : SenderSide → Node → Type 0
SameNumber v n =
    (i j : ℕ) (m : Transmission) (p : List ℕ) → get_elem? v.transmissions i ≡ some m
    → get_elem? m.packets j ≡ some p → (x : Message) (q : _)
    → receive_way (box_of n) p n.log n.receiving.buffer ≡ publishes x q
    → let r = receive_of n.receiving.end p n.receiving.buffer in
    (k : ℕ) × (q.answer ≡ Ok k) × (report_in (received_said p r.bytes r.answer) ≡ k ∷ [])

-- So the count below of a series is its last number on the open day, and 0 while it is of an earlier one or of none.
pub record Counts (n : Node) (s d : ℕ) : Type 0 where
  pub same : (kept_of n.receiving.end s).date ≡ Some d
      → published_of (serving (box_of n)) s ≡ (kept_of n.receiving.end s).last
  pub none : ((kept_of n.receiving.end s).date ≡ Some d → ⊥) → published_of (serving (box_of n)) s ≡ 0

-- The day below has the receiving end's series, in its order, and is of the highest trade date that is kept.
pub record DayBelow (n : Node) : Type 0 where
  pub series : (d : ℕ) → n.day.date ≡ Some d → day_series (serving (box_of n)) ≡ kept_series n.receiving.end
  pub highest : (s d : ℕ) → is_open n.receiving.end s ≡ true → (kept_of n.receiving.end s).date ≡ Some d
      → up_to d n.day.date ≡ true
  pub someone : (d : ℕ) → n.day.date ≡ Some d
      → (s : ℕ) × (is_open n.receiving.end s ≡ true) × ((kept_of n.receiving.end s).date ≡ Some d)

-- ─── "an answer's mark above the day open below, or the first, opens its day there .., and nothing else publishes or
-- opens there" ───

-- A day d was opened: no place of any seat is logged in, the series have the box's reserves, and what was unfinished on
-- the lines is broken off.
pub record OpenedBelow (w v : BoxWorld) (d : ℕ) : Type 0 where
  pub day : v.node.day.date ≡ Some d
  pub series : day_series (serving (box_of v.node)) ≡ kept_series w.node.receiving.end
  pub shares : reserves (serving (box_of v.node)) ≡ reserves_of w.node.receiving.end w.node.reserves
  pub empty : (s : ℕ) → published_of (serving (box_of v.node)) s ≡ 0
  pub used : v.node.day.used ≡ 0
  pub places : (i s : ℕ) → place_of (server_at (box_of v.node) i) s ≡ no_place
  pub counted : v.node.openings ≡ w.node.openings + 1
  pub broken : (i : ℕ) → (v.lines i).transmissions ≡ ended_all (w.lines i).transmissions

-- No day was opened.
pub record SameDay (n m : Node) : Type 0 where
  pub day : m.day.date ≡ n.day.date
  pub series : day_series (serving (box_of m)) ≡ day_series (serving (box_of n))
  pub counted : m.openings ≡ n.openings

abbrev pub is_answer : BoxEvent → Bool
is_answer (open_exchange date ss rs) = false
is_answer (publish_exchange s tid content) = false
is_answer (login_exchange s i content out) = false
is_answer (send_exchange s out) = false
is_answer (send_packet_exchange s out) = false
is_answer (open_box ss rs) = false
is_answer connect_box = false
is_answer (ask_box s content out) = false
is_answer (answer_box i) = true
is_answer (receive_box i j) = false
is_answer (login_seat i s k content out) = false
is_answer (send_seat i s out) = false
is_answer (send_packet_seat i s out) = false
is_answer (open_end i ss) = false
is_answer (connect_end i) = false
is_answer (ask_end i s content out) = false
is_answer (answer_end i k) = false
is_answer (receive_end i k j) = false

abbrev pub is_receive : BoxEvent → Bool
is_receive (open_exchange date ss rs) = false
is_receive (publish_exchange s tid content) = false
is_receive (login_exchange s i content out) = false
is_receive (send_exchange s out) = false
is_receive (send_packet_exchange s out) = false
is_receive (open_box ss rs) = false
is_receive connect_box = false
is_receive (ask_box s content out) = false
is_receive (answer_box i) = false
is_receive (receive_box i j) = true
is_receive (login_seat i s k content out) = false
is_receive (send_seat i s out) = false
is_receive (send_packet_seat i s out) = false
is_receive (open_end i ss) = false
is_receive (connect_end i) = false
is_receive (ask_end i s content out) = false
is_receive (answer_end i k) = false
is_receive (receive_end i k j) = false

-- In every state: each event's part in the day below and in what is published there.
pub record Openings : Type 0 where
  -- An answer that was taken opens its day exactly if its trade date is above the open day's, or there is none;
  pub opens : (w : BoxWorld) (k : ℕ) (a : InSeries (List ℕ)) (d : ℕ) → get_elem? w.exchange.answers k ≡ some a
      → (dated_of a.what).date ≡ Some d
      → is_taken (confirmed_said (answer_of (box_of w.node) a.series a.what w.node.log).answer) ≡ true
      → up_to d w.node.day.date ≡ false → OpenedBelow w (box_step w (answer_box k)) d
  pub keeps : (w : BoxWorld) (k : ℕ) (a : InSeries (List ℕ)) (d : ℕ) → get_elem? w.exchange.answers k ≡ some a
      → (dated_of a.what).date ≡ Some d → up_to d w.node.day.date ≡ true
      → SameDay w.node (box_step w (answer_box k)).node
  -- one that was refused opens none, and changes no part of the box nor of a line to a seat;
  pub refuses : (w : BoxWorld) (k : ℕ) (a : InSeries (List ℕ)) → get_elem? w.exchange.answers k ≡ some a
      → is_taken (confirmed_said (answer_of (box_of w.node) a.series a.what w.node.log).answer) ≡ false
      → (box_of (box_step w (answer_box k)).node ≡ box_of w.node)
      × ((i : ℕ) → (box_step w (answer_box k)).lines i ≡ w.lines i)
  -- one that the receiving end takes, whose opening the reserves forbid, is refused 11;
  pub forbids : (b : Box) (s : ℕ) (p log : List ℕ) (n d : ℕ) → (confirm_login_of b.receiver s p).answer ≡ Ok n
      → (dated_of p).date ≡ Some d → up_to d b.day.date ≡ false
      → length log < sum_of (reserves_of b.receiver b.reserves)
      → (answer_of b s p log).answer ≡ Err Opening
  -- of the log its length counts, and nothing else.
  pub length-only : (b : Box) (s : ℕ) (p log more : List ℕ) → length log ≡ length more
      → answer_of b s p log ≡ answer_of b s p more
  -- nothing else opens; nothing but Receive publishes.
  pub only-answers : (w : BoxWorld) (e : BoxEvent) → is_answer e ≡ false → SameDay w.node (box_step w e).node
  pub only-receives : (w : BoxWorld) (e : BoxEvent) → is_receive e ≡ false
      → (box_step w e).node.published ≡ w.node.published

-- ─── "a log that takes each message counts among the large enough buffers" ───

-- From n to m no message of series s and day d was turned away by the publication, nor an answer by the opening.
abbrev pub LogTakes : Node → Node → ℕ → ℕ → Type 0
LogTakes n m s d = of s d (since n.refused m.refused) ≡ []

-- The bytes that entries take in a log; and what series with their reserves take together of it: the larger of the
-- bytes and the reserve of each (02, No. 11).
abbrev pub bytes_of : List Message → ℕ
bytes_of [] = 0
bytes_of (m ∷ l) = (16 + length m.content) + bytes_of l

abbrev pub needed : List ℕ → List ℕ → ℕ → List (Dated Message) → ℕ
needed [] rs d l = 0
needed (s ∷ ss) [] d l = bytes_of (of s d l) + needed ss [] d l
needed (s ∷ ss) (r ∷ rs) d l = larger (bytes_of (of s d l)) r + needed ss rs d l

-- What the box's series take together, of a day's publications somewhere.
abbrev pub needed_by : Node → ℕ → List (Dated Message) → ℕ
needed_by n d l =
    needed (kept_series n.receiving.end) (reserves_of n.receiving.end n.reserves) d l

-- ─── The second half's outcome on a line ───

abbrev pub UpToDate : World → ℕ → ℕ → Type 0
UpToDate w s d = reported w s d ≡ length (published_on w s d)

-- Each message sent is on the line, whole, and has a packet: whatever was sent can be delivered.
abbrev pub EachSent : SenderSide → Type 0
EachSent v =
    (k : ℕ) (m : InSeries (List (List ℕ))) → get_elem? v.messages k ≡ some m
    → (0 < length m.what)
    × ((place : ℕ) × (get_elem? v.transmissions place ≡ some (transmission m.series m.what whole)))

-- ─── The request ───

pub record BoxAgreement : Type 0 where
  -- First half: on the line from above, and on each seat's.
  pub above-safe : (l : Lent) (es : List BoxEvent) (s d : ℕ) → Agreed (above (ran l es)) s d
  pub below-safe : (l : Lent) (es : List BoxEvent) (i s d : ℕ) → i < 16 → Agreed (below (ran l es) i) s d
  -- No message is handed on and nothing is reported that is of no day.
  pub above-dated : (l : Lent) (es : List BoxEvent) →
      let r = (ran l es).node.receiving in
      EachDated r.handed × EachDated r.reports
  pub below-dated : (l : Lent) (es : List BoxEvent) (i : ℕ) → i < 16 →
      let r = (ran l es).ends i in
      EachDated r.handed × EachDated r.reports
  pub above-sent : (l : Lent) (es : List BoxEvent) → EachSent (above (ran l es)).serving
  pub below-sent : (l : Lent) (es : List BoxEvent) (i : ℕ) → i < 16 → EachSent (below (ran l es) i).serving
  -- The join.
  pub joined : (l : Lent) (es : List BoxEvent) (s d : ℕ) → Joined (ran l es).node s d
  pub numbered : (l : Lent) (es : List BoxEvent) → SameNumber (ran l es).exchange (ran l es).node
  pub counts : (l : Lent) (es : List BoxEvent) (s d : ℕ) →
      let n = (ran l es).node in
      n.day.date ≡ Some d → is_open n.receiving.end s ≡ true → Counts n s d
  pub day-below : (l : Lent) (es : List BoxEvent) → DayBelow (ran l es).node
  pub openings : Openings
  -- An answer that the receiving end takes, of a day above the open one, is refused by nothing but the reserves: if they
  -- are within the log's length, it is taken.
  pub admitted : (l : Lent) (es : List BoxEvent) (s : ℕ) (p log : List ℕ) (n d : ℕ) →
      let m = (ran l es).node in
      (confirm_login_of m.receiving.end s p).answer ≡ Ok n → (dated_of p).date ≡ Some d → up_to d m.day.date ≡ false
      → sum_of (reserves_of m.receiving.end m.reserves) ≤ length log → (answer_of (box_of m) s p log).answer ≡ Ok n
  -- The log is sound: neither Send of a seat finds it damaged.
  pub undamaged : (l : Lent) (es : List BoxEvent) (i s : ℕ) (out : List ℕ) → i < 16 →
      let n = (ran l es).node in
      ((send_seat_of (box_of n) i s n.log out).answer ≡ Err DamagedLog → ⊥)
      × ((send_packet_seat_of (box_of n) i s n.log out).answer ≡ Err DamagedLog → ⊥)
  -- Second half: u is the whole before a login, v behind it, w at the list's end.
  pub above-complete : (l : Lent) (es fs : List BoxEvent) (e : BoxEvent) (s d : ℕ) (a out : List ℕ) →
      let u = ran l es in
      let v = box_step u e in
      let w = box_run v fs in
      CaughtUp (above u) (above v) (above w) s d a out → LogTakes v.node w.node s d → UpToDate (above w) s d
  pub below-complete : (l : Lent) (es fs : List BoxEvent) (e : BoxEvent) (i s d : ℕ) (a out : List ℕ) → i < 16 →
      let u = ran l es in
      let v = box_step u e in
      let w = box_run v fs in
      CaughtUp (below u i) (below v i) (below w i) s d a out → UpToDate (below w i) s d
  -- A log of this length takes each message of the day, and its opening: what the box's series take of what the exchange
  -- published of that day.
  pub log-enough : (l : Lent) (es fs : List BoxEvent) (s d : ℕ) →
      let v = ran l es in
      let w = box_run v fs in
      needed_by w.node d w.exchange.published ≤ length l.log → LogTakes v.node w.node s d
  -- From the exchange to a seat: the seat's list is a start of the exchange's; and all of it if it is up to date on both
  -- lines.
  pub start_of : (l : Lent) (es : List BoxEvent) (i s d : ℕ) → i < 16 →
      let w = ran l es in
      handed_on (below w i) s d ≡ take (reported (below w i) s d) (published_on (above w) s d)
  pub whole : (l : Lent) (es : List BoxEvent) (i s d : ℕ) → i < 16 →
      let w = ran l es in
      UpToDate (above w) s d → UpToDate (below w i) s d → handed_on (below w i) s d ≡ published_on (above w) s d
  -- Seats don't touch each other.
  pub independent : Independence
