-- The whole: the exchange, the line from above, the box, and for each seat a line with a receiving end (02, No. 3). What
-- is there after a list of calls. The box is a node of its own, beside the lines to its seats, so that it may stand below
-- any serving side. Each line's two ends with what it carries are a world of `flow` (`above`, `below`), so that what
-- `flow` says of a line is said of each of these, word for word.
use Rattle.std.specs.Prelude.{ℕ, suc, List, [], ◌∷◌, ◌++◌, cond, replicate, eqb}
use Rattle.std.proofs.Math.Option.{Option, none, some}
use Rattle.std.proofs.Math.ListN.{get_elem?}
use Rattle.ftd.specs.Packet.{dated_of}
use Rattle.ftd.specs.declared.refusal.Refusal.{Refusal}
use Rattle.flow.specs.declared.sender.Day.{Day}
use Rattle.flow.specs.declared.sender.Seat.{Seat}
use Rattle.flow.specs.Types.{Confirmed}
use Rattle.flow.specs.Ends.{Left, left, wrote, fresh_sender, kept_of}
use Rattle.flow.specs.Answers.{Message}
use Rattle.flow.specs.Serving.{open_day_of, publish_of, login_of, send_of, send_packet_of}
use Rattle.flow.specs.Receiving.{open_end_of, connect_of, request_login_of, confirm_login_of, receive_of}
use Rattle.flow.specs.World.{InSeries, Dated, dated, Transmission, ended_all, SenderSide, ReceiverSide, World, start}
use Rattle.flow.specs.World.{after_open, after_publish, after_login, after_send, after_send_packet, after_reopen, after_connect}
use Rattle.flow.specs.World.{after_request, after_confirm, after_receive, series_in}
use Rattle.relay.specs.State.{Box, most_seats}
use Rattle.relay.specs.Box.{Relayed, AnswerWay, ReceiveWay, publishes, server_at, no_seat, box, no_reserves}
use Rattle.relay.specs.Box.{open_box_of, connect_box_of, ask_of, answer_way, answer_of, receive_way, receive_box_of}
use Rattle.relay.specs.Box.{login_seat_of, send_seat_of, send_packet_seat_of}

-- ─── The parts ───

-- The box.
pub record Node : Type 0 where
  -- Its receiving end with the chain buffer and what it gave and was given towards above; the reserves of its series;
  pub receiving : ReceiverSide
  pub reserves : List ℕ
  -- the day below, its log, how many days were opened and what was published there; what its opening and its
  -- publication refused;
  pub day : Day
  pub log : List ℕ
  pub openings : ℕ
  pub published : List (Dated Message)
  pub refused : List (Dated Refusal)
  -- and the seats.
  pub seats : List Seat

abbrev pub box_of : Node → Box
box_of n = box n.receiving.end n.reserves n.day n.seats

-- A seat's line, with what Login and the Sends of that seat wrote.
pub record SeatLine : Type 0 where
  pub answers : List (InSeries (List ℕ))
  pub transmissions : List Transmission
  pub messages : List (InSeries (List (List ℕ)))

-- The box as the serving side of seat i's line; and that line of a serving side.
abbrev pub serving_at : Node → ℕ → SeatLine → SenderSide
serving_at n i x =
    record {
      end = server_at (box_of n) i;
      log = n.log;
      day = n.day.date;
      openings = n.openings;
      published = n.published;
      answers = x.answers;
      transmissions = x.transmissions;
      messages = x.messages;
    }

abbrev pub line_of : SenderSide → SeatLine
line_of v = record { answers = v.answers; transmissions = v.transmissions; messages = v.messages }

pub record BoxWorld : Type 0 where
  pub exchange : SenderSide  -- with what it wrote for the box
  pub node : Node
  pub lines : ℕ → SeatLine
  pub ends : ℕ → ReceiverSide  -- the receiving end at each seat

-- ─── Its lines ───

abbrev pub line : SenderSide → ReceiverSide → World
line v r = record { serving = v; receiving = r }

abbrev pub above : BoxWorld → World
above w = line w.exchange w.node.receiving

abbrev pub below : BoxWorld → ℕ → World
below w i = line (serving_at w.node i (w.lines i)) (w.ends i)

-- ─── The start: all fresh; logs and chain buffers of any length and content ───

pub record Lent : Type 0 where
  pub exchange_log : List ℕ
  pub buffer : List ℕ
  pub log : List ℕ
  pub buffers : ℕ → List ℕ  -- of the receiving end at each seat

unfoldable pub start_node : List ℕ → List ℕ → Node
start_node buffer log =
    record {
      receiving = (start [] buffer).receiving;
      reserves = no_reserves;
      day = fresh_sender.day;
      log = log;
      openings = 0;
      published = [];
      refused = [];
      seats = replicate most_seats no_seat;
    }

unfoldable pub start_box : Lent → BoxWorld
start_box l =
    record {
      exchange = (start l.exchange_log []).serving;
      node = start_node l.buffer l.log;
      lines = λ i. record { answers = []; transmissions = []; messages = [] };
      ends = λ i. (start [] (l.buffers i)).receiving;
    }

-- ─── The events: one call each, its arguments free ───

-- What a line hands over is named by its place among all that this line was ever given by its other end.
pub data BoxEvent : Type 0 where
  -- the exchange: Opening, Publish, Login (place of the box's login packet), Send, Send of one packet
  open_exchange : ℕ → List ℕ → List ℕ → BoxEvent
  publish_exchange : ℕ → ℕ → List ℕ → BoxEvent
  login_exchange : ℕ → ℕ → List ℕ → List ℕ → BoxEvent
  send_exchange : ℕ → List ℕ → BoxEvent
  send_packet_exchange : ℕ → List ℕ → BoxEvent
  -- the box towards above: Opening (series, reserves), Connect, Ask, Answer (place of the answer), Receive (place of the
  -- transmission, packet)
  open_box : List ℕ → List ℕ → BoxEvent
  connect_box : BoxEvent
  ask_box : ℕ → List ℕ → List ℕ → BoxEvent
  answer_box : ℕ → BoxEvent
  receive_box : ℕ → ℕ → BoxEvent
  -- the box towards seat i, first: Login (place of the login packet of the end at that seat), Send, Send of one packet
  login_seat : ℕ → ℕ → ℕ → List ℕ → List ℕ → BoxEvent
  send_seat : ℕ → ℕ → List ℕ → BoxEvent
  send_packet_seat : ℕ → ℕ → List ℕ → BoxEvent
  -- the receiving end at seat i, first
  open_end : ℕ → List ℕ → BoxEvent
  connect_end : ℕ → BoxEvent
  ask_end : ℕ → ℕ → List ℕ → List ℕ → BoxEvent
  answer_end : ℕ → ℕ → BoxEvent
  receive_end : ℕ → ℕ → ℕ → BoxEvent

-- ─── What each call of the box changes in it ───

-- Behind a call towards above: its state b, the side v of its receiving end, its log, and what is counted.
abbrev pub boxes : Node → Box → ReceiverSide → List ℕ → ℕ → List (Dated Message) → List (Dated Refusal) → Node
boxes n b v log openings published refused =
    record {
      receiving = v;
      reserves = b.reserves;
      day = b.day;
      log = log;
      openings = openings;
      published = published;
      refused = refused;
      seats = b.seats;
    }

-- Behind a call towards a seat.
abbrev pub seated : Node → Box → Node
seated n b = boxes n b n.receiving n.log n.openings n.published n.refused

abbrev pub open_node : Node → List ℕ → List ℕ → Node
open_node n ss rs =
    let r = open_box_of (box_of n) ss rs in
    boxes n r.end (after_reopen n.receiving (left r.end.receiver r.answer)) n.log n.openings
    n.published n.refused

abbrev pub connect_node : Node → Node
connect_node n =
    let b = connect_box_of (box_of n) in
    boxes n b (after_connect n.receiving b.receiver) n.log n.openings n.published n.refused

abbrev pub ask_node : Node → ℕ → List ℕ → List ℕ → Node
ask_node n s content out =
    let r = ask_of (box_of n) s content out in
    boxes n r.end (after_request n.receiving (wrote r.end.receiver r.answer r.bytes)) n.log
    n.openings n.published n.refused

-- Answer: a day that was opened counts; an opening below that was refused is kept (02, No. 11).
abbrev pub opened_by : ℕ → AnswerWay → ℕ
opened_by n AnswerWay.late = n
opened_by n (AnswerWay.refuses x) = n
opened_by n AnswerWay.through = n
opened_by n (AnswerWay.opens q) = suc n

abbrev pub unopened_by : ℕ → List ℕ → AnswerWay → List (Dated Refusal)
unopened_by s p AnswerWay.late = []
unopened_by s p (AnswerWay.refuses x) = dated s (dated_of p).date x ∷ []
unopened_by s p AnswerWay.through = []
unopened_by s p (AnswerWay.opens q) = []

abbrev pub after_answer : Node → ℕ → List ℕ → Left Box Confirmed → AnswerWay → Node
after_answer n s p r way =
    boxes n r.end (after_confirm n.receiving s p (left r.end.receiver r.answer)) n.log
    (opened_by n.openings way) n.published (n.refused ++ unopened_by s p way)

-- A day that was opened breaks off what is unfinished on each seat's line (02, No. 4).
abbrev pub line_by : AnswerWay → SeatLine → SeatLine
line_by AnswerWay.late x = x
line_by (AnswerWay.refuses r) x = x
line_by AnswerWay.through x = x
line_by (AnswerWay.opens q) x =
    record { answers = x.answers; transmissions = ended_all x.transmissions; messages = x.messages }

-- Receive: what Publish took, of the day open below; and what it refused, of the day kept for the series.
abbrev pub published_by : Node → ℕ → ReceiveWay → List (Dated Message)
published_by n s ReceiveWay.late = []
published_by n s (ReceiveWay.refuses x) = []
published_by n s ReceiveWay.through = []
published_by n s (publishes m q) = dated s n.day.date m ∷ []

abbrev pub unpublished_by : Node → ℕ → ReceiveWay → List (Dated Refusal)
unpublished_by n s ReceiveWay.late = []
unpublished_by n s (ReceiveWay.refuses x) = dated s (kept_of n.receiving.end s).date x ∷ []
unpublished_by n s ReceiveWay.through = []
unpublished_by n s (publishes m q) = []

abbrev pub after_relay : Node → Transmission → ℕ → ℕ → List ℕ → Relayed → ReceiveWay → Node
after_relay n t i j p r way =
    let s = series_in (dated_of p).packet in
    boxes n r.end (after_receive n.receiving t i j p (wrote r.end.receiver r.answer r.buffer))
    r.log n.openings (n.published ++ published_by n s way) (n.refused ++ unpublished_by n s way)

-- ─── What each call changes in the whole ───

abbrev pub exchanges : BoxWorld → SenderSide → BoxWorld
exchanges w v = record { exchange = v; node = w.node; lines = w.lines; ends = w.ends }

abbrev pub upward : BoxWorld → Node → BoxWorld
upward w n = record { exchange = w.exchange; node = n; lines = w.lines; ends = w.ends }

-- One place's.
abbrev pub at_place : {A : Type 0} → (ℕ → A) → ℕ → A → ℕ → A
at_place xs i x j = cond (eqb j i) x (xs j)

-- The box behind a call towards seat i, with what that line then has.
abbrev pub downward : BoxWorld → Node → ℕ → SeatLine → BoxWorld
downward w n i x = record { exchange = w.exchange; node = n; lines = at_place w.lines i x; ends = w.ends }

abbrev pub ended : BoxWorld → ℕ → ReceiverSide → BoxWorld
ended w i v = record { exchange = w.exchange; node = w.node; lines = w.lines; ends = at_place w.ends i v }

-- What is at a place goes on to f; where nothing is, the world stays.
abbrev pub with_box : {A : Type 0} → BoxWorld → Option A → (A → BoxWorld) → BoxWorld
with_box w none f = w
with_box w (some x) f = f x

-- Each call gets the log and the buffer that the last one left.
abbrev pub box_step : BoxWorld → BoxEvent → BoxWorld
box_step w (open_exchange date ss rs) =
    exchanges w (after_open w.exchange date (open_day_of w.exchange.end date ss rs w.exchange.log))
box_step w (publish_exchange s tid content) =
    exchanges w
    (after_publish w.exchange s tid content (publish_of w.exchange.end s tid content w.exchange.log))
box_step w (login_exchange s i content out) = with_box w (get_elem? w.node.receiving.requests i) λ p.
    exchanges w (after_login w.exchange s (login_of w.exchange.end s p content out))
box_step w (send_exchange s out) =
    exchanges w (after_send w.exchange s (send_of w.exchange.end s w.exchange.log out))
box_step w (send_packet_exchange s out) =
    exchanges w (after_send_packet w.exchange s (send_packet_of w.exchange.end s w.exchange.log out))
box_step w (open_box ss rs) = upward w (open_node w.node ss rs)
box_step w connect_box = upward w (connect_node w.node)
box_step w (ask_box s content out) = upward w (ask_node w.node s content out)
box_step w (answer_box i) = with_box w (get_elem? w.exchange.answers i) λ a.
    let n = w.node in
    let way = answer_way (box_of n) a.series a.what n.log in
    record {
      exchange = w.exchange;
      node = after_answer n a.series a.what (answer_of (box_of n) a.series a.what n.log) way;
      lines = λ j. line_by way (w.lines j);
      ends = w.ends;
    }
box_step w (receive_box i j) =
    with_box w (get_elem? w.exchange.transmissions i) λ t. with_box w (get_elem? t.packets j) λ p.
    let n = w.node in
    upward w
    (after_relay n t i j p (receive_box_of (box_of n) p n.log n.receiving.buffer)
    (receive_way (box_of n) p n.log n.receiving.buffer))
box_step w (login_seat i s k content out) = with_box w (get_elem? (w.ends i).requests k) λ p.
    let n = w.node in
    let r = login_seat_of (box_of n) i s p content out in
    downward w (seated n r.end) i
    (line_of
    (after_login (serving_at n i (w.lines i)) s (wrote (server_at r.end i) r.answer r.bytes)))
box_step w (send_seat i s out) =
    let n = w.node in
    let r = send_seat_of (box_of n) i s n.log out in
    downward w (seated n r.end) i
    (line_of (after_send (serving_at n i (w.lines i)) s (wrote (server_at r.end i) r.answer r.bytes)))
box_step w (send_packet_seat i s out) =
    let n = w.node in
    let r = send_packet_seat_of (box_of n) i s n.log out in
    downward w (seated n r.end) i
    (line_of (after_send_packet (serving_at n i (w.lines i)) s (wrote (server_at r.end i) r.answer r.bytes)))
box_step w (open_end i ss) = ended w i (after_reopen (w.ends i) (open_end_of (w.ends i).end ss))
box_step w (connect_end i) = ended w i (after_connect (w.ends i) (connect_of (w.ends i).end))
box_step w (ask_end i s content out) =
    ended w i (after_request (w.ends i) (request_login_of (w.ends i).end s content out))
box_step w (answer_end i k) = with_box w (get_elem? (w.lines i).answers k) λ a.
    ended w i
    (after_confirm (w.ends i) a.series a.what (confirm_login_of (w.ends i).end a.series a.what))
box_step w (receive_end i k j) =
    with_box w (get_elem? (w.lines i).transmissions k) λ t. with_box w (get_elem? t.packets j) λ p.
    ended w i (after_receive (w.ends i) t k j p (receive_of (w.ends i).end p (w.ends i).buffer))

abbrev pub box_run : BoxWorld → List BoxEvent → BoxWorld
box_run w [] = w
box_run w (e ∷ es) = box_run (box_step w e) es
