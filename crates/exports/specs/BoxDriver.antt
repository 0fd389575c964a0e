-- A driver in C of the box, of the exchange above it and of a receiving end at each seat (02, No. 3; include/ftd.h): of
-- the states it has the numbers that the last calls left, of the seats' places those that are lent, and of each call it
-- knows what the numbers of the answer mean. What it is told along every list of calls is what `relay` says happens, so
-- the box's agreement holds of it.
use Rattle.std.specs.Prelude.{ℕ, ◌<◌, ◌≡◌, List, [], ◌∷◌, take}
use Rattle.std.proofs.Math.Option.{Option, none, some}
use Rattle.std.proofs.Math.ListN.{get_elem?}
use Rattle.flow.specs.declared.several.ReceivedSeveral.{ReceivedSeveral}
use Rattle.flow.specs.Ends.{left, wrote, fresh_sender, fresh_receiver}
use Rattle.flow.specs.Serving.{send_of}
use Rattle.flow.specs.World.{ReceiverSide, after_reopen, after_connect, after_request, after_login, after_send}
use Rattle.flow.specs.World.{after_send_packet}
use Rattle.flow.specs.Agreement.{Agreed, EachDated, CaughtUp, handed_on, published_on, reported}
use Rattle.flow.specs.Several.{Took, took, received_told}
use Rattle.flow.specs.Bufferful.{calls}
use Rattle.relay.specs.State.{Box, box_for, no_numbers}
use Rattle.relay.specs.Box.{fresh_box, open_box_of, connect_box_of, ask_of, answer_way, answer_of, relayed, receive_way}
use Rattle.relay.specs.Box.{receive_box_of, login_seat_of, send_seat_of, send_packet_seat_of, server_at}
use Rattle.relay.specs.Bufferful.{Logged, relaying, receive_several_box_of}
use Rattle.relay.specs.Promises.{answered_numbers, login_numbers, packet_numbers}
use Rattle.relay.specs.Promises.{sent_numbers as seat_numbers}
use Rattle.relay.specs.World.{Node, SeatLine, BoxWorld, Lent, box_of, above, below, serving_at, line_of, start_box}
use Rattle.relay.specs.World.{BoxEvent}
use Rattle.relay.specs.World.{open_exchange, publish_exchange, login_exchange, send_exchange, send_packet_exchange, open_box}
use Rattle.relay.specs.World.{connect_box, ask_box, answer_box, receive_box, login_seat, send_seat, send_packet_seat, open_end}
use Rattle.relay.specs.World.{connect_end, ask_end, answer_end, receive_end, boxes, seated, line_by, after_answer, after_relay}
use Rattle.relay.specs.World.{exchanges, upward, at_place, downward, ended}
use Rattle.relay.specs.Agreement.{ran, LogTakes, UpToDate, EachSent}
use Rattle.exports.specs.declared.serving.FtdSender.{FtdSender}
use Rattle.exports.specs.declared.receiving.FtdReceiver.{FtdReceiver}
use Rattle.exports.specs.declared.boxes.FtdBox.{FtdBox}
use Rattle.exports.specs.Serving.{sender_numbers}
use Rattle.exports.specs.Receiving.{receiver_numbers, requested_numbers}
use Rattle.exports.specs.Boxes.{relay_for, box_numbers, box_opened_numbers, box_confirmed_numbers, box_received_numbers}
use Rattle.exports.specs.Boxes.{box_received_several_numbers, seat_login_numbers, seat_sent_numbers, seat_packet_numbers}
use Rattle.exports.specs.Laws.{SenderIs, ReceiverIs, BoxIs}
use Rattle.exports.specs.Meaning.Calls.{opened_for, confirmed_for, requested_by, box_received_by, box_received_several_by}
use Rattle.exports.specs.Meaning.Calls.{seat_login_by, seat_sent_by, seat_packet_by}
use Rattle.exports.specs.Driver.{Served, Taken, opened_side, published_side, logged_in_side, sent_side}
use Rattle.exports.specs.Driver.{sent_packet_side, reopened_side, connected_side, requested_side, confirmed_side}
use Rattle.exports.specs.Driver.{received_side, calls_by, SameThrough}
use Rattle.std.specs.Prelude.{None, Ok}

-- ─── The driver ───

-- The numbers of a box: its state, and the places of its seats, which are lent. They say the box.
pub record BoxLent : Type 0 where
  pub state : FtdBox
  pub places : List ℕ

abbrev pub box_lent : FtdBox → List ℕ → BoxLent
box_lent n places = record { state = n; places = places }

abbrev pub box_by : BoxLent → Box
box_by x = box_for (relay_for x.state) x.places

-- The world as it is told is kept by the words of `flow` and `relay` for histories. What was published below and what
-- the publication refused stand in no answer: they are those of the box that the numbers say (`answer_way`,
-- `receive_way`).
pub record BoxDriver : Type 0 where
  pub exchange : FtdSender
  pub box : BoxLent
  pub ends : ℕ → FtdReceiver
  pub told : BoxWorld

abbrev pub box_driver : FtdSender → BoxLent → (ℕ → FtdReceiver) → BoxWorld → BoxDriver
box_driver n b ms w = record { exchange = n; box = b; ends = ms; told = w }

unfoldable pub start_box_driver : Lent → BoxDriver
start_box_driver l =
    box_driver (sender_numbers fresh_sender) (box_lent (box_numbers fresh_box) no_numbers)
    (λ i. receiver_numbers fresh_receiver) (start_box l)

-- Behind a call of the exchange, of the box towards above, of the box towards seat i, of the end at seat i.
abbrev pub exchanges_with : BoxDriver → Served → BoxDriver
exchanges_with d r = box_driver r.numbers d.box d.ends (exchanges d.told r.side)

abbrev pub upward_with : BoxDriver → BoxLent → BoxWorld → BoxDriver
upward_with d b w = box_driver d.exchange b d.ends w

abbrev pub ended_with : BoxDriver → ℕ → Taken → BoxDriver
ended_with d i r = box_driver d.exchange d.box (at_place d.ends i r.numbers) (ended d.told i r.side)

abbrev pub given_box : {A : Type 0} → BoxDriver → Option A → (A → BoxDriver) → BoxDriver
given_box d none f = d
given_box d (some x) f = f x

-- A call towards above leaves the box and the receiving end's side: log and what is counted stay.
abbrev pub above_with : BoxWorld → Box → ReceiverSide → BoxWorld
above_with w b v =
    let n = w.node in upward w (boxes n b v n.log n.openings n.published n.refused)

-- Answer besides may open a day, which shows on the seats' lines.
abbrev pub answered : BoxWorld → Node → (ℕ → SeatLine) → BoxWorld
answered w n lines = record { exchange = w.exchange; node = n; lines = lines; ends = w.ends }

-- Each call is that of src, by its contract.
abbrev pub box_driver_step : BoxDriver → BoxEvent → BoxDriver
box_driver_step d (open_exchange date ss rs) = exchanges_with d (opened_side d.exchange d.told.exchange date ss rs)
box_driver_step d (publish_exchange s tid content) =
    exchanges_with d (published_side d.exchange d.told.exchange s tid content)
box_driver_step d (login_exchange s i content out) = given_box d (get_elem? d.told.node.receiving.requests i) λ p.
    exchanges_with d (logged_in_side d.exchange d.told.exchange s p content out)
box_driver_step d (send_exchange s out) = exchanges_with d (sent_side d.exchange d.told.exchange s out)
box_driver_step d (send_packet_exchange s out) = exchanges_with d (sent_packet_side d.exchange d.told.exchange s out)
box_driver_step d (open_box ss rs) =
    let n = box_opened_numbers (open_box_of (box_by d.box) ss rs) in
    let x = box_lent n.state d.box.places in
    upward_with d x
    (above_with d.told (box_by x)
    (after_reopen d.told.node.receiving (left (box_by x).receiver (opened_for n.refusal))))
box_driver_step d connect_box =
    let x = box_lent (box_numbers (connect_box_of (box_by d.box))) d.box.places in
    upward_with d x (above_with d.told (box_by x) (after_connect d.told.node.receiving (box_by x).receiver))
box_driver_step d (ask_box s content out) =
    let r = ask_of (box_by d.box) s content out in
    let n = requested_numbers r.answer in
    upward_with d d.box
    (above_with d.told (box_by d.box)
    (after_request d.told.node.receiving (wrote (box_by d.box).receiver (requested_by n) r.bytes)))
box_driver_step d (answer_box i) = given_box d (get_elem? d.told.exchange.answers i) λ a.
    let node = d.told.node in
    let way = answer_way (box_by d.box) a.series a.what node.log in
    let n = box_confirmed_numbers (answer_of (box_by d.box) a.series a.what node.log) in
    let x = box_lent n.state (answered_numbers d.box.places way) in
    upward_with d x
    (answered d.told
    (after_answer node a.series a.what (left (box_by x) (confirmed_for n.last n.refusal)) way)
    (λ j. line_by way (d.told.lines j)))
box_driver_step d (receive_box i j) =
    given_box d (get_elem? d.told.exchange.transmissions i) λ t. given_box d (get_elem? t.packets j) λ p.
    let node = d.told.node in
    let r = receive_box_of (box_by d.box) p node.log node.receiving.buffer in
    let n = box_received_numbers r in
    let x = box_lent n.state d.box.places in
    upward_with d x
    (upward d.told
    (after_relay node t i j p (relayed (box_by x) (box_received_by n) r.log r.buffer)
    (receive_way (box_by d.box) p node.log node.receiving.buffer)))
box_driver_step d (login_seat i s k content out) = given_box d (get_elem? (d.told.ends i).requests k) λ p.
    let node = d.told.node in
    let r = login_seat_of (box_by d.box) i s p content out in
    let x = box_lent d.box.state (login_numbers d.box.places i s r.end r.answer) in
    upward_with d x
    (downward d.told (seated node (box_by x)) i
    (line_of
    (after_login (serving_at node i (d.told.lines i)) s
    (wrote (server_at (box_by x) i) (seat_login_by (seat_login_numbers r.answer)) r.bytes))))
box_driver_step d (send_seat i s out) =
    let node = d.told.node in
    let r = send_seat_of (box_by d.box) i s node.log out in
    let x = box_lent d.box.state (seat_numbers d.box.places i s r.end r.answer) in
    upward_with d x
    (downward d.told (seated node (box_by x)) i
    (line_of
    (after_send (serving_at node i (d.told.lines i)) s
    (wrote (server_at (box_by x) i) (seat_sent_by (seat_sent_numbers r.answer)) r.bytes))))
box_driver_step d (send_packet_seat i s out) =
    let node = d.told.node in
    let r = send_packet_seat_of (box_by d.box) i s node.log out in
    let x = box_lent d.box.state (packet_numbers d.box.places i s r.end r.answer) in
    upward_with d x
    (downward d.told (seated node (box_by x)) i
    (line_of
    (after_send_packet (serving_at node i (d.told.lines i)) s
    (wrote (server_at (box_by x) i) (seat_packet_by (seat_packet_numbers r.answer)) r.bytes))))
box_driver_step d (open_end i ss) = ended_with d i (reopened_side (d.ends i) (d.told.ends i) ss)
box_driver_step d (connect_end i) = ended_with d i (connected_side (d.ends i) (d.told.ends i))
box_driver_step d (ask_end i s content out) = ended_with d i (requested_side (d.ends i) (d.told.ends i) s content out)
box_driver_step d (answer_end i k) = given_box d (get_elem? (d.told.lines i).answers k) λ a.
    ended_with d i (confirmed_side (d.ends i) (d.told.ends i) a.series a.what)
box_driver_step d (receive_end i k j) =
    given_box d (get_elem? (d.told.lines i).transmissions k) λ t. given_box d (get_elem? t.packets j) λ p.
    ended_with d i (received_side (d.ends i) (d.told.ends i) t k j p)

abbrev pub run_box_driver : BoxDriver → List BoxEvent → BoxDriver
run_box_driver d [] = d
run_box_driver d (e ∷ es) = run_box_driver (box_driver_step d e) es

-- The driver is told a world, and has the numbers of its box and of all ends.
pub record BoxTells (d : BoxDriver) (w : BoxWorld) : Type 0 where
  pub world : d.told ≡ w
  pub exchange : SenderIs d.exchange w.exchange.end
  pub box : BoxIs d.box.state d.box.places (box_of w.node)
  pub ends : (i : ℕ) → ReceiverIs (d.ends i) (w.ends i).end

-- ─── A bufferful from above: the numbers of the box and the log handed from call to call ───

pub record LoggedLent : Type 0 where
  pub state : FtdBox
  pub log : List ℕ

-- Of any places of the seats.
abbrev pub receive_several_box_with : List ℕ → LoggedLent → List ℕ → List ℕ → Took LoggedLent ReceivedSeveral
receive_several_box_with places n bytes buffer =
    let r = receive_several_box_of (box_for (relay_for n.state) places) bytes n.log buffer in
    let m = box_received_several_numbers r in
    took (record { state = m.state; log = r.end.log }) (box_received_several_by m) r.bytes m.taken

abbrev pub LoggedIs : List ℕ → LoggedLent → Logged → Type 0
LoggedIs places n x = BoxIs n.state places x.box × (n.log ≡ x.log)

-- ─── The statement ───

abbrev pub ran_driver : Lent → List BoxEvent → BoxDriver
ran_driver l es = run_box_driver (start_box_driver l) es

pub record BoxDriverLaws : Type 0 where
  -- After every list of events the driver is told `relay`'s world.
  pub tells : (l : Lent) (es : List BoxEvent) → BoxTells (ran_driver l es) (ran l es)
  -- So the agreement (`BoxAgreement`) holds of what it is told: the first half on the line from above and on each
  -- seat's;
  pub above-safe : (l : Lent) (es : List BoxEvent) (s d : ℕ) → Agreed (above (ran_driver l es).told) s d
  pub below-safe : (l : Lent) (es : List BoxEvent) (i s d : ℕ) → i < 16 → Agreed (below (ran_driver l es).told i) s d
  pub above-dated : (l : Lent) (es : List BoxEvent) →
      let r = (ran_driver l es).told.node.receiving in
      EachDated r.handed × EachDated r.reports
  pub below-dated : (l : Lent) (es : List BoxEvent) (i : ℕ) → i < 16 →
      let r = (ran_driver l es).told.ends i in
      EachDated r.handed × EachDated r.reports
  pub above-sent : (l : Lent) (es : List BoxEvent) → EachSent (above (ran_driver l es).told).serving
  pub below-sent : (l : Lent) (es : List BoxEvent) (i : ℕ) → i < 16 → EachSent (below (ran_driver l es).told i).serving
  -- the second half;
  pub above-complete : (l : Lent) (es fs : List BoxEvent) (e : BoxEvent) (s d : ℕ) (a out : List ℕ) →
      let u = ran_driver l es in
      let v = box_driver_step u e in
      let w = run_box_driver v fs in
      CaughtUp (above u.told) (above v.told) (above w.told) s d a out
      → LogTakes v.told.node w.told.node s d → UpToDate (above w.told) s d
  pub below-complete : (l : Lent) (es fs : List BoxEvent) (e : BoxEvent) (i s d : ℕ) (a out : List ℕ) → i < 16 →
      let u = ran_driver l es in
      let v = box_driver_step u e in
      let w = run_box_driver v fs in
      CaughtUp (below u.told i) (below v.told i) (below w.told i) s d a out
      → UpToDate (below w.told i) s d
  -- and from the exchange to a seat, the seat's list is a start of the exchange's, and all of it where it is up to date
  -- on both lines.
  pub start_of : (l : Lent) (es : List BoxEvent) (i s d : ℕ) → i < 16 →
      let w = (ran_driver l es).told in
      handed_on (below w i) s d ≡ take (reported (below w i) s d) (published_on (above w) s d)
  pub whole : (l : Lent) (es : List BoxEvent) (i s d : ℕ) → i < 16 →
      let w = (ran_driver l es).told in
      UpToDate (above w) s d → UpToDate (below w i) s d → handed_on (below w i) s d ≡ published_on (above w) s d
  -- That a seat has none left, which `CaughtUp` asks for, is answer 0 of ftd_box_send (FTD_SEND_NONE).
  pub none_left : (l : Lent) (es : List BoxEvent) (i s : ℕ) (out : List ℕ) →
      let d = ran_driver l es in
      let v = (below d.told i).serving in
      (seat_sent_numbers (send_seat_of (box_by d.box) i s v.log out).answer).answer ≡ 0
      → (send_of v.end s v.log out).answer ≡ (Ok None)
  -- A bufferful from above: the calls for several with the numbers handed on are those of `relay`, which are so many
  -- single calls.
  pub packets : (places : List ℕ) (n : LoggedLent) (x : Logged) → LoggedIs places n x → (most : ℕ)
      (bytes buffer : List ℕ)
      → SameThrough (LoggedIs places) (calls_by (receive_several_box_with places) received_told most n bytes buffer)
      (calls most relaying x bytes buffer)
