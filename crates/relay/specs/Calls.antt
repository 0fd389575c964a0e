-- What each call of the box answers, changes and leaves (02, No. 3; 4, 10 and 11), of any box, log, chain buffer and
-- bytes: said by the calls of `flow`'s ends, which the box's own checks stand between. Nothing here looks at the ways
-- that `Box` tells apart.
use Rattle.std.specs.Prelude.{ℕ, zero, suc, ◌<◌, ◌≤◌, ◌≡◌, List, [], ◌∷◌, Bool, true, false, cond, not, ◌&&◌, length, take, replicate, ltb, eqb}
use Rattle.ftd.specs.Bytes.{joined}
use Rattle.ftd.specs.Packet.{dated_of}
use Rattle.ftd.specs.declared.refusal.Refusal.{Refusal}
use Rattle.ftd.specs.declared.refusal.Refusal.TheVariants.{Opening, OtherDay, NoSeat}
use Rattle.ftd.specs.Types.{TradeDate}
use Rattle.flow.specs.declared.sender.Sender.{Sender}
use Rattle.flow.specs.Types.{Opened}
use Rattle.flow.specs.Types.{Published}
use Rattle.flow.specs.declared.receiver.Receiver.{Receiver}
use Rattle.flow.specs.declared.receiver.Received.TheVariants.{Refused as NotTaken}
use Rattle.flow.specs.Ends.{Left, Wrote, left, before, up_to, no_place, no_live, logged_in, is_open, kept_of, live_of, kept_series}
use Rattle.flow.specs.Ends.{filled}
use Rattle.flow.specs.Answers.{Said, refused, opened, published, answered, sent, sent_packet, none, asked, confirmed, idle}
use Rattle.flow.specs.Answers.{kept, returned}
use Rattle.flow.specs.Answers.{again, held, handed_on, Message, off, is_taken, message_in, confirmed_said, received_said}
use Rattle.flow.specs.Serving.{open_day_of, publish_of, login_of, send_of, send_packet_of}
use Rattle.flow.specs.Receiving.{open_end_of, request_login_of, confirm_login_of, receive_of}
use Rattle.flow.specs.World.{series_in}
use Rattle.flow.specs.Log.{entry_series, entry_tid, entry_number, entry_content, entries_of}
use Rattle.flow.specs.Agreement.{of}
use Rattle.relay.specs.State.{Box}
use Rattle.relay.specs.Box.{box, reserves_of, seat_of, server_at, serving, open_box_of, ask_of, answer_of, receive_box_of}
use Rattle.relay.specs.Box.{Relayed, relayed, login_seat_of, send_seat_of, send_packet_seat_of}
use Rattle.relay.specs.Seats.{BoxCall, opening, connect, ask, answer, receive, login, send, send_packet, Standing}
use Rattle.relay.specs.Seats.{standing, after, shows}
use Rattle.relay.specs.World.{Lent, Node, box_of, BoxEvent}
use Rattle.relay.specs.Agreement.{ran}
use Rattle.relay.specs.Together.{Together}
use Rattle.std.specs.Prelude.{Some, None, Ok, Err}

-- Each array has its places, as in every value of the types.
pub record Shaped (b : Box) : Type 0 where
  pub kept : length b.receiver.kept.series ≡ 8
  pub live : length b.receiver.live.series ≡ 8
  pub seats : length b.seats ≡ 16

-- ─── Which call it is, and what it came to ───

abbrev pub any : {A : Type 0} → List A → Bool
any [] = false
any (x ∷ l) = true

-- A trade date above the day's, or any where no day is open.
abbrev pub higher : TradeDate → TradeDate → Bool
higher None e = false
higher (Some d) e = not (up_to d e)

-- Answer was taken, with a mark above the day open below: it opens a day.
abbrev pub opens_day : Standing → BoxCall → Bool
opens_day x (opening ss rs) = false
opens_day x connect = false
opens_day x (ask s content out) = false
opens_day x (answer s p) = is_taken (shows x (answer s p)).said && higher (dated_of p).date x.box.day.date
opens_day x (receive p) = false
opens_day x (login i s p content out) = false
opens_day x (send i s out) = false
opens_day x (send_packet i s out) = false

-- Receive handed a message on.
abbrev pub hands_on : Standing → BoxCall → Bool
hands_on x (opening ss rs) = false
hands_on x connect = false
hands_on x (ask s content out) = false
hands_on x (answer s p) = false
hands_on x (receive p) = any (message_in (shows x (receive p)).said)
hands_on x (login i s p content out) = false
hands_on x (send i s out) = false
hands_on x (send_packet i s out) = false

abbrev pub is_receiving : BoxCall → Bool
is_receiving (opening ss rs) = false
is_receiving connect = false
is_receiving (ask s content out) = false
is_receiving (answer s p) = false
is_receiving (receive p) = true
is_receiving (login i s p content out) = false
is_receiving (send i s out) = false
is_receiving (send_packet i s out) = false

-- Opening was taken.
abbrev pub sets_reserves : Standing → BoxCall → Bool
sets_reserves x (opening ss rs) = is_taken (shows x (opening ss rs)).said
sets_reserves x connect = false
sets_reserves x (ask s content out) = false
sets_reserves x (answer s p) = false
sets_reserves x (receive p) = false
sets_reserves x (login i s p content out) = false
sets_reserves x (send i s out) = false
sets_reserves x (send_packet i s out) = false

-- Login or a Send of seat i wrote something.
abbrev pub moves_seat : ℕ → Standing → BoxCall → Bool
moves_seat i x (opening ss rs) = false
moves_seat i x connect = false
moves_seat i x (ask s content out) = false
moves_seat i x (answer s p) = false
moves_seat i x (receive p) = false
moves_seat i x (login j s p content out) = eqb j i && any (off (shows x (login j s p content out)).said).wrote
moves_seat i x (send j s out) = eqb j i && any (off (shows x (send j s out)).said).wrote
moves_seat i x (send_packet j s out) = eqb j i && any (off (shows x (send_packet j s out)).said).wrote

-- Opening, Connect, Answer, Receive: the calls that may change the receiving end.
abbrev pub towards_above : BoxCall → Bool
towards_above (opening ss rs) = true
towards_above connect = true
towards_above (ask s content out) = false
towards_above (answer s p) = true
towards_above (receive p) = true
towards_above (login i s p content out) = false
towards_above (send i s out) = false
towards_above (send_packet i s out) = false

-- ─── The receiving end ───

-- It came past row 15: it took the packet (Answer, again, held, a message), or refused it with a higher number.
abbrev pub passes : Said → Bool
passes (refused n) = ltb 15 n
passes opened = false
passes (published k) = false
passes (answered n) = false
passes (sent k n) = false
passes (sent_packet k n last) = false
passes none = false
passes (asked n) = false
passes (confirmed n) = true
passes idle = false
passes (again n) = true
passes (held n) = true
passes (handed_on n m) = true
passes kept = false
passes returned = false

-- The series that a packet bears; what the receiving end makes of it, and says.
abbrev pub borne : List ℕ → ℕ
borne p = series_in (dated_of p).packet

abbrev pub end_says : Box → List ℕ → List ℕ → Said
end_says b p buffer = let r = receive_of b.receiver p buffer in received_said p r.bytes r.answer

abbrev pub end_confirms : Box → ℕ → List ℕ → Said
end_confirms b s p = confirmed_said (confirm_login_of b.receiver s p).answer

-- Mark, last, login and chain of a series, and whether it is open.
pub record SameSeries (e f : Receiver) (t : ℕ) : Type 0 where
  pub opens : is_open f t ≡ is_open e t
  pub kept : kept_of f t ≡ kept_of e t
  pub live : live_of f t ≡ live_of e t

-- From x to y only the chain of series s was dropped.
pub record OnlyChain (x y : Standing) (s : ℕ) : Type 0 where
  pub in-before : (live_of x.box.receiver s).login ≡ true
  pub now : live_of y.box.receiver s ≡ logged_in
  pub others : (t : ℕ) → (t ≡ s → ⊥) → live_of y.box.receiver t ≡ live_of x.box.receiver t
  pub kept : y.box.receiver.kept ≡ x.box.receiver.kept
  pub reserves : y.box.reserves ≡ x.box.reserves
  pub day : y.box.day ≡ x.box.day
  pub seats : y.box.seats ≡ x.box.seats
  pub log : y.log ≡ x.log
  pub buffer : y.buffer ≡ x.buffer

abbrev pub left_by : Relayed → Standing
left_by r = standing r.end r.log r.buffer

-- ─── Answer: the receiving end's checks, 15 for the day below, then the opening's ───

abbrev pub opening_below : Box → ℕ → List ℕ → Left Sender Opened
opening_below b d log = open_day_of (serving b) d (kept_series b.receiver) (reserves_of b.receiver b.reserves) log

pub record AnswerAs (b : Box) (s : ℕ) (p log : List ℕ) : Type 0 where
  pub late : passes (end_confirms b s p) ≡ true → before (dated_of p).date b.day.date ≡ true
      → answer_of b s p log ≡ left b (Err OtherDay)
  -- In all other cases as the receiving end: refused,
  pub refuses : (x : Refusal) → (confirm_login_of b.receiver s p).answer ≡ Err x
      → (passes (end_confirms b s p) && before (dated_of p).date b.day.date) ≡ false
      → answer_of b s p log ≡ left b (Err x)
  -- taken with the open day,
  pub same-day : (n d : ℕ) → (confirm_login_of b.receiver s p).answer ≡ Ok n → (dated_of p).date ≡ Some d
      → before (Some d) b.day.date ≡ false → up_to d b.day.date ≡ true
      → answer_of b s p log ≡ left (box (confirm_login_of b.receiver s p).end b.reserves b.day b.seats) (Ok n)
  -- taken with a higher one: the day is the one that the opening makes, and all seats are empty;
  pub opens : (n d : ℕ) → (confirm_login_of b.receiver s p).answer ≡ Ok n → (dated_of p).date ≡ Some d
      → up_to d b.day.date ≡ false → (opening_below b d log).answer ≡ (Ok tt)
      → answer_of b s p log ≡ left
      (box (confirm_login_of b.receiver s p).end b.reserves (opening_below b d log).end.day
      (replicate 16 (record { places = replicate 8 no_place }))) (Ok n)
  -- or its opening is refused.
  pub not_opened : (n d : ℕ) → (confirm_login_of b.receiver s p).answer ≡ Ok n → (dated_of p).date ≡ Some d
      → up_to d b.day.date ≡ false → (x : Refusal) → (opening_below b d log).answer ≡ Err x
      → answer_of b s p log ≡ left b (Err x)

-- ─── Receive: the receiving end's checks, 15 for the day below, then Publish's ───

abbrev pub publishing : Box → List ℕ → Message → List ℕ → Wrote Sender Published
publishing b p m log = publish_of (serving b) (borne p) m.tid m.content log

-- The series is of a day before the one open below.
abbrev pub earlier : Box → List ℕ → Bool
earlier b p = before (kept_of b.receiver (borne p)).date b.day.date

pub record ReceiveAs (b : Box) (p log buffer : List ℕ) : Type 0 where
  pub late : passes (end_says b p buffer) ≡ true → earlier b p ≡ true →
      let r = receive_box_of b p log buffer in
      (r.answer ≡ NotTaken OtherDay) × OnlyChain (standing b log buffer) (left_by r) (borne p)
  -- In all other cases as the receiving end where it hands nothing on: answer, end and chain buffer;
  pub through : (passes (end_says b p buffer) && earlier b p) ≡ false → message_in (end_says b p buffer) ≡ [] →
      let r = receive_of b.receiver p buffer in
      receive_box_of b p log buffer ≡ relayed (box r.end b.reserves b.day b.seats) r.answer log r.bytes
  -- a message is published below, in day and log as Publish does it,
  pub publishes : earlier b p ≡ false → (m : Message) → message_in (end_says b p buffer) ≡ m ∷ [] → (k : ℕ)
      → (publishing b p m log).answer ≡ Ok k →
      let r = receive_of b.receiver p buffer in
      let q = publishing b p m log in
      receive_box_of b p log buffer ≡ relayed (box r.end b.reserves q.end.day b.seats) r.answer q.bytes
      r.bytes
  -- or refused with Publish's own refusal.
  pub refuses : earlier b p ≡ false → (m : Message) → message_in (end_says b p buffer) ≡ m ∷ [] → (x : Refusal)
      → (publishing b p m log).answer ≡ Err x →
      let r = receive_box_of b p log buffer in
      (r.answer ≡ NotTaken x) × OnlyChain (standing b log buffer) (left_by r) (borne p)

-- ─── A call of seat i ───

-- As the call of the serving end made of day and seat: answer, every byte of the output, the seat afterwards; and nothing
-- else of the box.
pub record SeatAs {A : Type 0} (b : Box) (i : ℕ) (r : Wrote Box A) (q : Wrote Sender A) : Type 0 where
  pub answer : r.answer ≡ q.answer
  pub bytes : r.bytes ≡ q.bytes
  pub server : server_at r.end i ≡ q.end
  pub others : (j : ℕ) → (j ≡ i → ⊥) → seat_of r.end j ≡ seat_of b j
  pub receiver : r.end.receiver ≡ b.receiver
  pub reserves : r.end.reserves ≡ b.reserves
  pub day : r.end.day ≡ b.day

-- ─── The log below ───

-- Of a log's entries those of a series: as messages, and their numbers.
abbrev pub messages_in : ℕ → List (List ℕ) → List Message
messages_in s [] = []
messages_in s (x ∷ xs) =
    cond (eqb (entry_series x) s) (record { tid = entry_tid x; content = entry_content x } ∷ messages_in s xs) (messages_in s xs)

abbrev pub numbers_in : ℕ → List (List ℕ) → List ℕ
numbers_in s [] = []
numbers_in s (x ∷ xs) = cond (eqb (entry_series x) s) (entry_number x ∷ numbers_in s xs) (numbers_in s xs)

abbrev pub counting : ℕ → ℕ → List ℕ
counting k zero = []
counting k (suc n) = k ∷ counting (suc k) n

-- The used part is entries and nothing else; those of a series are what was published of it on the open day, in order,
-- numbered from 1.
pub record LogHolds (n : Node) (s d : ℕ) : Type 0 where
  pub inside : n.day.used ≤ length n.log
  pub entries : take n.day.used n.log ≡ joined (entries_of (serving (box_of n)) n.log)
  pub messages : messages_in s (entries_of (serving (box_of n)) n.log) ≡ of s d n.published
  pub numbers : numbers_in s (entries_of (serving (box_of n)) n.log) ≡ counting 1 (length (of s d n.published))

-- ─── Every call ───

pub record BoxCalls : Type 0 where
  pub shaped : (x : Standing) (c : BoxCall) → Shaped x.box → Shaped (after x c).box
  -- A seat changes by its own Login and Sends that wrote something, and by an answer that opens a day: then all are empty.
  pub seat-stays : (x : Standing) (c : BoxCall) (i : ℕ) → moves_seat i x c ≡ false → opens_day x c ≡ false
      → seat_of (after x c).box i ≡ seat_of x.box i
  pub seats-empty : (x : Standing) (c : BoxCall) → opens_day x c ≡ true
      → (after x c).box.seats ≡ replicate 16 (record { places = replicate 8 no_place })
  -- The day changes by an answer that opens one and by a message handed on, the log by that alone; the chain buffer by
  -- Receive, the reserves by the box's Opening, the receiving end by calls towards above.
  pub day-stays : (x : Standing) (c : BoxCall) → opens_day x c ≡ false → hands_on x c ≡ false
      → (after x c).box.day ≡ x.box.day
  pub log-stays : (x : Standing) (c : BoxCall) → hands_on x c ≡ false → (after x c).log ≡ x.log
  pub buffer-stays : (x : Standing) (c : BoxCall) → is_receiving c ≡ false → (after x c).buffer ≡ x.buffer
  pub reserves-stay : (x : Standing) (c : BoxCall) → sets_reserves x c ≡ false
      → (after x c).box.reserves ≡ x.box.reserves
  pub end_stays : (x : Standing) (c : BoxCall) → towards_above c ≡ false
      → (after x c).box.receiver ≡ x.box.receiver
  -- Answer, also one that opens a day, and Receive leave mark, last, login and chain of every other series.
  pub answer-others : (x : Standing) (s : ℕ) (p : List ℕ) (t : ℕ) → Shaped x.box → (t ≡ s → ⊥)
      → SameSeries x.box.receiver (after x (answer s p)).box.receiver t
  pub receive-others : (x : Standing) (p : List ℕ) (t : ℕ) → Shaped x.box → (t ≡ borne p → ⊥)
      → SameSeries x.box.receiver (after x (receive p)).box.receiver t
  -- Answer and Receive.
  pub answers : (b : Box) (s : ℕ) (p log : List ℕ) → AnswerAs b s p log
  pub receives : (b : Box) (p log buffer : List ℕ) → Shaped b → ReceiveAs b p log buffer
  -- Seats.
  pub logs-in : (b : Box) (i s : ℕ) (p content out : List ℕ) → Shaped b → i < 16
      → SeatAs b i (login_seat_of b i s p content out) (login_of (server_at b i) s p content out)
  pub sends : (b : Box) (i s : ℕ) (log out : List ℕ) → Shaped b → i < 16
      → SeatAs b i (send_seat_of b i s log out) (send_of (server_at b i) s log out)
  pub sends-packet : (b : Box) (i s : ℕ) (log out : List ℕ) → Shaped b → i < 16
      → SeatAs b i (send_packet_seat_of b i s log out) (send_packet_of (server_at b i) s log out)
  pub no-login : (b : Box) (i s : ℕ) (p content out : List ℕ) → 16 ≤ i
      → login_seat_of b i s p content out ≡ record { end = b; answer = Err NoSeat; bytes = out }
  pub no-send : (b : Box) (i s : ℕ) (log out : List ℕ) → 16 ≤ i
      → send_seat_of b i s log out ≡ record { end = b; answer = Err NoSeat; bytes = out }
  pub no-packet : (b : Box) (i s : ℕ) (log out : List ℕ) → 16 ≤ i
      → send_packet_seat_of b i s log out ≡ record { end = b; answer = Err NoSeat; bytes = out }
  -- Opening, Ask, Connect.
  pub opening-short : (b : Box) (ss rs : List ℕ) → (length rs ≡ length ss → ⊥)
      → open_box_of b ss rs ≡ left b (Err Opening)
  pub opening-as : (b : Box) (ss rs : List ℕ) → length rs ≡ length ss →
      let r = open_box_of b ss rs in
      (r.answer ≡ (open_end_of b.receiver ss).answer) × (r.end.receiver ≡ (open_end_of b.receiver ss).end)
  pub opening-reserves : (b : Box) (ss rs : List ℕ) → (open_box_of b ss rs).answer ≡ (Ok tt)
      → (open_box_of b ss rs).end.reserves ≡ filled 0 rs
  pub ask-stays : (x : Standing) (s : ℕ) (content out : List ℕ) → after x (ask s content out) ≡ x
  pub ask-as : (b : Box) (s : ℕ) (content out : List ℕ) →
      let r = ask_of b s content out in
      let q = request_login_of b.receiver s content out in
      (r.answer ≡ q.answer) × (r.bytes ≡ q.bytes)
  pub connect-kept : (x : Standing) → (after x connect).box.receiver.kept ≡ x.box.receiver.kept
  pub connect-live : (x : Standing) (t : ℕ) → live_of (after x connect).box.receiver t ≡ no_live
  -- A refused call changes nothing; a refused Receive from 15 on, or of a refused publication, that series' chain.
  pub refused-stays : (x : Standing) (c : BoxCall) → is_receiving c ≡ false → is_taken (shows x c).said ≡ false
      → after x c ≡ x
  pub refused-early : (x : Standing) (p : List ℕ) (n : ℕ) → (shows x (receive p)).said ≡ refused n → n < 15
      → message_in (end_says x.box p x.buffer) ≡ [] → after x (receive p) ≡ x
  pub refused-late : (x : Standing) (p : List ℕ) (n : ℕ) → Shaped x.box → (shows x (receive p)).said ≡ refused n
      → 15 ≤ n → OnlyChain x (after x (receive p)) (borne p)
  pub refused-handed : (x : Standing) (p : List ℕ) (n : ℕ) → Shaped x.box → (shows x (receive p)).said ≡ refused n
      → any (message_in (end_says x.box p x.buffer)) ≡ true → OnlyChain x (after x (receive p)) (borne p)
  -- After every list: the log is what was published.
  pub logged : (l : Lent) (es : List BoxEvent) (s d : ℕ) → (ran l es).node.day.date ≡ Some d → LogHolds (ran l es).node s d
  -- The conditions of both second halves can be met at once.
  pub together : Together
