-- `BoxDriverLaws` holds. Assumes nothing.
use Prim.Native.Nat.{ℕ, ◌<◌}
use mathlib.Core.Path.{◌≡◌, refl, sym, ap, ◌∙◌}
use mathlib.Core.List.{List, [], ◌∷◌}
use mathlib.Core.Bool.{Bool, true, false, cond}
use mathlib.Core.Option.{Option, none, some}
use lib.ListN.{get_elem?}
use lib.Dec.{eqb}
use Rattle.flow.specs.Types.{Opened}
use Rattle.flow.specs.Types.{LoggedIn}
use Rattle.ftd.specs.declared.refusal.Refusal.TheVariants.{NoSeat}
use Rattle.flow.specs.declared.receiver.Receiver.{Receiver}
use Rattle.flow.specs.Types.{Requested}
use Rattle.flow.specs.Types.{Confirmed}
use Rattle.flow.specs.declared.receiver.Received.{Received}
use Rattle.flow.specs.declared.several.ReceivedSeveral.{ReceivedSeveral}
use Rattle.flow.specs.Ends.{Left, Wrote, left, wrote}
use Rattle.flow.specs.Serving.{send_of}
use Rattle.flow.specs.World.{start}
use Rattle.flow.specs.World.{SenderSide, ReceiverSide, after_reopen, after_connect, after_request, after_login, after_send}
use Rattle.flow.specs.World.{after_send_packet}
use Rattle.flow.specs.Agreement.{CaughtUp}
use Rattle.flow.specs.Several.{Took}
use Rattle.flow.proofs.packets.Requests.{request-end}
use Rattle.relay.specs.State.{Box, box_for}
use Rattle.relay.specs.Box.{fresh_box, open_box_of, ask_of, AnswerWay, answer_way, answer_of, Relayed, relayed}
use Rattle.relay.specs.Box.{ReceiveWay, receive_way, receive_box_of, login_seat_of, send_seat_of, send_packet_seat_of, server_at}
use Rattle.relay.specs.Box.{no_such_seat, with_receiver, with_seat, box}
use Rattle.relay.specs.Bufferful.{Logged, relaying, receive_several_box_of}
use Rattle.relay.specs.World.{Node, SeatLine, BoxWorld, Lent, box_of, above, below, serving_at, line_of, start_node}
use Rattle.relay.specs.World.{start_box, BoxEvent, open_exchange, publish_exchange, login_exchange, send_exchange}
use Rattle.relay.specs.World.{send_packet_exchange, open_box, connect_box, ask_box, answer_box, receive_box, login_seat}
use Rattle.relay.specs.World.{send_seat, send_packet_seat, open_end, connect_end, ask_end, answer_end, receive_end}
use Rattle.relay.specs.World.{seated, line_by}
use Rattle.relay.specs.World.{after_answer, after_relay, exchanges, upward, downward, ended, with_box, box_step, box_run}
use Rattle.relay.specs.Agreement.{ran, LogTakes, UpToDate}
use Rattle.relay.proofs.Agreement.{box-agreement}
use Rattle.exports.specs.declared.serving.FtdSender.{FtdSender}
use Rattle.exports.specs.declared.receiving.FtdReceiver.{FtdReceiver}
use Rattle.exports.specs.Boxes.{relay_for, seat_sent_numbers}
use Rattle.exports.specs.Laws.{SenderIs, ReceiverIs, BoxIs}
use Rattle.exports.specs.Meaning.Calls.{sent_for}
use Rattle.exports.specs.Driver.{Served, Taken}
use Rattle.exports.specs.BoxDriver.{BoxLent, box_by, BoxDriver, box_driver, start_box_driver, exchanges_with}
use Rattle.exports.specs.BoxDriver.{upward_with, ended_with, given_box, above_with, answered, box_driver_step}
use Rattle.exports.specs.BoxDriver.{run_box_driver, BoxTells, LoggedLent, receive_several_box_with, LoggedIs}
use Rattle.exports.specs.BoxDriver.{ran_driver, BoxDriverLaws}
use Rattle.exports.proofs.Laws.{end-laws}
use Rattle.exports.proofs.boxes.Laws.{box_laws}
use Rattle.exports.proofs.Meaning.Calls.{answer-laws}
use Rattle.exports.proofs.Driver.{by_left, by-wrote, ServedTells, TakenTells, open-tells, publish-tells}
use Rattle.exports.proofs.Driver.{login-tells, send-tells, packet-tells, reopen-tells, connect-tells}
use Rattle.exports.proofs.Driver.{request-tells, confirm-tells, receive-tells, through}
use Rattle.std.specs.Prelude.{None, Ok, Err}
use Rattle.flow.specs.Types.{SendAnswer, PacketSent}

-- ─── What calls of the box leave ───

-- Ask leaves the box; the calls of a seat leave its receiving end.
ask-end : (b : Box) (s : ℕ) (content out : List ℕ) → (ask_of b s content out).end ≡ b
unfolding ask_of
ask-end b s content out = ap (with_receiver b) (request-end b.receiver s content out)

kept-receiver : {A : Type 0} (t : Bool) (x y : Wrote Box A) (r : Receiver) → x.end.receiver ≡ r
    → y.end.receiver ≡ r → (cond t x y).end.receiver ≡ r
kept-receiver true x y r p q = p
kept-receiver false x y r p q = q

login-receiver : (b : Box) (i s : ℕ) (p content out : List ℕ)
    → (login_seat_of b i s p content out).end.receiver ≡ b.receiver
unfolding login_seat_of
login-receiver b i s p content out = kept-receiver (no_such_seat i) _ _ b.receiver refl refl

send-receiver : (b : Box) (i s : ℕ) (log out : List ℕ) → (send_seat_of b i s log out).end.receiver ≡ b.receiver
unfolding send_seat_of
send-receiver b i s log out = kept-receiver (no_such_seat i) _ _ b.receiver refl refl

packet-receiver : (b : Box) (i s : ℕ) (log out : List ℕ)
    → (send_packet_seat_of b i s log out).end.receiver ≡ b.receiver
unfolding send_packet_seat_of
packet-receiver b i s log out = kept-receiver (no_such_seat i) _ _ b.receiver refl refl

seated-box : (v : Node) (y : Box) → y.receiver ≡ v.receiving.end → box_of (seated v y) ≡ y
seated-box v y e = ap (λ (r : Receiver). box r y.reserves y.day y.seats) (sym e)

by-relayed : (x l : BoxLent) (e : Box) → box_by x ≡ e → (call : Box → Relayed) (a : Received)
    → box_by l ≡ (call e).end → a ≡ (call (box_by x)).answer
    → relayed (box_by l) a (call (box_by x)).log (call (box_by x)).buffer ≡ call e
by-relayed x l e h call a p q = rw (p, q, h) refl

-- ─── One event ───

place_is : (b : Bool) (m n : FtdReceiver) (v u : ReceiverSide) → ReceiverIs m v.end → ReceiverIs n u.end
    → ReceiverIs (cond b m n) (cond b v u).end
place_is true m n v u p q = p
place_is false m n v u p q = q

module _ (n : FtdSender) (x : BoxLent) (ms : ℕ → FtdReceiver) (w : BoxWorld) (h : SenderIs n w.exchange.end)
    (b : BoxIs x.state x.places (box_of w.node)) (k : (i : ℕ) → ReceiverIs (ms i) (w.ends i).end) where
  exchanging : (r : Served) (v : SenderSide) → ServedTells r v
      → BoxTells (exchanges_with (box_driver n x ms w) r) (exchanges w v)
  exchanging r v t =
      record { world = ap (λ (y : SenderSide). exchanges w y) t.side; exchange = t.numbers; box = b; ends = k }

  ending : (i : ℕ) (r : Taken) (v : ReceiverSide) → TakenTells r v
      → BoxTells (ended_with (box_driver n x ms w) i r) (ended w i v)
  ending i r v t =
      record {
        world = ap (λ (y : ReceiverSide). ended w i y) t.side;
        exchange = h;
        box = b;
        ends = λ j. place_is (eqb j i) r.numbers (ms j) v (w.ends j) t.numbers (k j);
      }

  boxing : (y : BoxLent) (u : BoxWorld) (node : Node) (lines : ℕ → SeatLine) → u ≡ answered w node lines
      → BoxIs y.state y.places (box_of node)
      → BoxTells (upward_with (box_driver n x ms w) y u) (answered w node lines)
  boxing y u node lines p is = record { world = p; exchange = h; box = is; ends = k }

  named-box : {A : Type 0} (o : Option A) (f : A → BoxDriver) (g : A → BoxWorld) → ((y : A) → BoxTells (f y) (g y))
      → BoxTells (given_box (box_driver n x ms w) o f) (with_box w o g)
  named-box none f g t = record { world = refl; exchange = h; box = b; ends = k }
  named-box (some y) f g t = t y

  box-tells-step : (e : BoxEvent) → BoxTells (box_driver_step (box_driver n x ms w) e) (box_step w e)
  box-tells-step (open_exchange date ss rs) = exchanging _ _ (open-tells n w.exchange h date ss rs)
  box-tells-step (publish_exchange s tid content) = exchanging _ _ (publish-tells n w.exchange h s tid content)
  box-tells-step (login_exchange s i content out) = named-box (get_elem? w.node.receiving.requests i) _ _ λ p.
      exchanging _ _ (login-tells n w.exchange h s p content out)
  box-tells-step (send_exchange s out) = exchanging _ _ (send-tells n w.exchange h s out)
  box-tells-step (send_packet_exchange s out) = exchanging _ _ (packet-tells n w.exchange h s out)
  box-tells-step (open_box ss rs) =
      let is = box_laws.opens x.state x.places (box_of w.node) b ss rs in
      boxing _ _ _ _
      (ap
      (λ (r : Left Box Opened).
      above_with w r.end (after_reopen w.node.receiving (left r.end.receiver r.answer)))
      (by_left box_by x (box_of w.node) b.0 (λ (y : Box). open_box_of y ss rs) _ _ is.0
      (answer-laws.box-opened (open_box_of (box_by x) ss rs))))
      is
  box-tells-step connect_box =
      let is = box_laws.connects x.state x.places (box_of w.node) b in
      boxing _ _ _ _
      (ap (λ (y : Box). above_with w y (after_connect w.node.receiving y.receiver)) is.0)
      is
  box-tells-step (ask_box s content out) =
      let stays = b.0 ∙ sym (ask-end (box_of w.node) s content out) in
      boxing _ _ _ _
      (ap
      (λ (r : Wrote Box Requested).
      above_with w r.end
      (after_request w.node.receiving (wrote r.end.receiver r.answer r.bytes)))
      (by-wrote box_by x (box_of w.node) b.0 (λ (y : Box). ask_of y s content out) x _ stays
      (answer-laws.requested _)))
      (stays, b.1, b.2, b.3)
  box-tells-step (answer_box i) = named-box (get_elem? w.exchange.answers i) _ _ λ a.
      let v = w.node in
      let s = a.series in
      let p = a.what in
      let is = box_laws.confirms x.state x.places (box_of v) b s p v.log in
      let way = answer_way (box_by x) s p v.log in
      boxing _ _ _ _
      (ap
      (λ (r : Left Box Confirmed). answered w (after_answer v s p r way) (λ j. line_by way (w.lines j)))
      (by_left box_by x (box_of v) b.0 (λ (y : Box). answer_of y s p v.log) _ _ is.0
      (answer-laws.box-confirmed (answer_of (box_by x) s p v.log)))
      ∙ ap
      (λ (y : AnswerWay).
      answered w (after_answer v s p (answer_of (box_of v) s p v.log) y) (λ j. line_by y (w.lines j)))
      (ap (λ (y : Box). answer_way y s p v.log) b.0))
      is
  box-tells-step (receive_box i j) =
      named-box (get_elem? w.exchange.transmissions i) _ _ λ t. named-box (get_elem? t.packets j) _ _ λ p.
      let v = w.node in
      let buffer = v.receiving.buffer in
      let is = box_laws.receives x.state x.places (box_of v) b p v.log buffer in
      let way = receive_way (box_by x) p v.log buffer in
      boxing _ _ _ _
      (ap (λ (r : Relayed). upward w (after_relay v t i j p r way))
      (by-relayed x _ (box_of v) b.0 (λ (y : Box). receive_box_of y p v.log buffer) _ is.0
      (answer-laws.box-received (receive_box_of (box_by x) p v.log buffer)))
      ∙ ap (λ (y : ReceiveWay). upward w (after_relay v t i j p (receive_box_of (box_of v) p v.log buffer) y))
      (ap (λ (y : Box). receive_way y p v.log buffer) b.0))
      is
  box-tells-step (login_seat i s l content out) = named-box (get_elem? (w.ends i).requests l) _ _ λ p.
      let v = w.node in
      let is = box_laws.logs-in x.state x.places (box_of v) b i s p content out in
      boxing _ _ _ _
      (ap
      (λ (r : Wrote Box LoggedIn).
      downward w (seated v r.end) i
      (line_of
      (after_login (serving_at v i (w.lines i)) s (wrote (server_at r.end i) r.answer r.bytes))))
      (by-wrote box_by x (box_of v) b.0 (λ (y : Box). login_seat_of y i s p content out) _ _ is.0
      (answer-laws.seat-login _)))
      (rw (seated-box v (login_seat_of (box_of v) i s p content out).end (login-receiver (box_of v) i s p content out)) is)
  box-tells-step (send_seat i s out) =
      let v = w.node in
      let is = box_laws.sends x.state x.places (box_of v) b i s v.log out in
      boxing _ _ _ _
      (ap
      (λ (r : Wrote Box SendAnswer).
      downward w (seated v r.end) i
      (line_of (after_send (serving_at v i (w.lines i)) s (wrote (server_at r.end i) r.answer r.bytes))))
      (by-wrote box_by x (box_of v) b.0 (λ (y : Box). send_seat_of y i s v.log out) _ _ is.0
      (answer-laws.seat-sent _)))
      (rw (seated-box v (send_seat_of (box_of v) i s v.log out).end (send-receiver (box_of v) i s v.log out)) is)
  box-tells-step (send_packet_seat i s out) =
      let v = w.node in
      let is = box_laws.sends-packet x.state x.places (box_of v) b i s v.log out in
      boxing _ _ _ _
      (ap
      (λ (r : Wrote Box PacketSent).
      downward w (seated v r.end) i
      (line_of
      (after_send_packet (serving_at v i (w.lines i)) s (wrote (server_at r.end i) r.answer r.bytes))))
      (by-wrote box_by x (box_of v) b.0 (λ (y : Box). send_packet_seat_of y i s v.log out) _ _ is.0
      (answer-laws.seat-packet _)))
      (rw (seated-box v (send_packet_seat_of (box_of v) i s v.log out).end
      (packet-receiver (box_of v) i s v.log out)) is)
  box-tells-step (open_end i ss) = ending i _ _ (reopen-tells (ms i) (w.ends i) (k i) ss)
  box-tells-step (connect_end i) = ending i _ _ (connect-tells (ms i) (w.ends i) (k i))
  box-tells-step (ask_end i s content out) = ending i _ _ (request-tells (ms i) (w.ends i) (k i) s content out)
  box-tells-step (answer_end i l) = named-box (get_elem? (w.lines i).answers l) _ _ λ a.
      ending i _ _ (confirm-tells (ms i) (w.ends i) (k i) a.series a.what)
  box-tells-step (receive_end i l j) =
      named-box (get_elem? (w.lines i).transmissions l) _ _ λ t. named-box (get_elem? t.packets j) _ _ λ p.
      ending i _ _ (receive-tells (ms i) (w.ends i) (k i) t l j p)

-- ─── Every list of events ───

box-tells-one : (d : BoxDriver) (w : BoxWorld) → BoxTells d w → (e : BoxEvent)
    → BoxTells (box_driver_step d e) (box_step w e)
box-tells-one d w t e =
    rw (sym t.world)
    (box-tells-step d.exchange d.box d.ends d.told (rw t.world t.exchange) (rw t.world t.box)
    (rw t.world t.ends) e)

box-tells-run : (es : List BoxEvent) (d : BoxDriver) (w : BoxWorld) → BoxTells d w
    → BoxTells (run_box_driver d es) (box_run w es)
box-tells-run [] d w t = t
box-tells-run (e ∷ es) d w t = box-tells-run es (box_driver_step d e) (box_step w e) (box-tells-one d w t e)

box-tells-start : (l : Lent) → BoxTells (start_box_driver l) (start_box l)
unfolding start_box_driver start_box start_node start fresh_box
box-tells-start l =
    record {
      world = refl;
      exchange = end-laws.fresh-sender;
      box = box_laws.fresh;
      ends = λ i. end-laws.fresh-receiver;
    }

box-tells : (l : Lent) (es : List BoxEvent) → BoxTells (ran_driver l es) (ran l es)
box-tells l es = box-tells-run es (start_box_driver l) (start_box l) (box-tells-start l)

-- ─── The agreement, of the world that is told ───

above-complete : (l : Lent) (es fs : List BoxEvent) (e : BoxEvent) (s d : ℕ) (a out : List ℕ) →
    let u = ran_driver l es in
    let v = box_driver_step u e in
    let w = run_box_driver v fs in
    CaughtUp (above u.told) (above v.told) (above w.told) s d a out
    → LogTakes v.told.node w.told.node s d → UpToDate (above w.told) s d
above-complete l es fs e s d a out c t =
    let at-u = box-tells l es in
    let at-v = box-tells-one _ _ at-u e in
    let at-w = box-tells-run fs _ _ at-v in
    rw at-w.world
    (box-agreement.above-complete l es fs e s d a out (rw (at-u.world, at-v.world, at-w.world) at c)
    (rw (at-v.world, at-w.world) at t))

below-complete : (l : Lent) (es fs : List BoxEvent) (e : BoxEvent) (i s d : ℕ) (a out : List ℕ) → i < 16 →
    let u = ran_driver l es in
    let v = box_driver_step u e in
    let w = run_box_driver v fs in
    CaughtUp (below u.told i) (below v.told i) (below w.told i) s d a out → UpToDate (below w.told i) s d
below-complete l es fs e i s d a out z c =
    let at-u = box-tells l es in
    let at-v = box-tells-one _ _ at-u e in
    let at-w = box-tells-run fs _ _ at-v in
    rw at-w.world
    (box-agreement.below-complete l es fs e i s d a out z (rw (at-u.world, at-v.world, at-w.world) at c))

-- An answer 0 of a seat's Send is none, and then the seat is one.
drained : (a : SendAnswer) → (seat_sent_numbers a).answer ≡ 0 → a ≡ (Ok None)
unfolding sent_for
drained a h = sym (answer-laws.seat-sent a) ∙ rw h refl

seat-drained : (b : Box) (i s : ℕ) (log out : List ℕ) → (send_seat_of b i s log out).answer ≡ (Ok None)
    → (send_of (server_at b i) s log out).answer ≡ (Ok None)
unfolding send_seat_of
seat-drained b i s log out = go (no_such_seat i)
  where
    go : (t : Bool) → (cond t (wrote b (Err NoSeat) out)
        (let r = send_of (server_at b i) s log out in wrote (with_seat b i r.end.seat) r.answer r.bytes)).answer
        ≡ (Ok None)
        → (send_of (server_at b i) s log out).answer ≡ (Ok None)
    go true e = cc
    go false e = e

none_left : (l : Lent) (es : List BoxEvent) (i s : ℕ) (out : List ℕ) →
    let d = ran_driver l es in
    let v = (below d.told i).serving in
    (seat_sent_numbers (send_seat_of (box_by d.box) i s v.log out).answer).answer ≡ 0
    → (send_of v.end s v.log out).answer ≡ (Ok None)
none_left l es i s out h =
    let d = ran_driver l es in
    let t = box-tells l es in
    let log = d.told.node.log in
    let same : box_by d.box ≡ box_of d.told.node =
    t.box.0 ∙ sym (ap (λ (w : BoxWorld). box_of w.node) t.world) in
    sym (ap (λ (y : Box). (send_of (server_at y i) s log out).answer) same)
    ∙ seat-drained (box_by d.box) i s log out (drained _ h)

-- ─── A bufferful ───

several-as : (places : List ℕ) (n : LoggedLent) (x : Logged) (bytes l : List ℕ) → LoggedIs places n x
    → receive_several_box_of (box_for (relay_for n.state) places) bytes n.log l
    ≡ receive_several_box_of x.box bytes x.log l
several-as places n x bytes l h = rw (h.1, h.0.0) refl

several-ends : (places : List ℕ) (n : LoggedLent) (x : Logged) (bytes l : List ℕ) → LoggedIs places n x
    → LoggedIs places (receive_several_box_with places n bytes l).end
    (receive_several_box_of x.box bytes x.log l).end
several-ends places n x bytes l h = (
  rw h.1 (box_laws.receives-several n.state places x.box h.0 bytes x.log l),
  ap (λ (z : Took Logged ReceivedSeveral). z.end.log) (several-as places n x bytes l h),
)

several-same : (places : List ℕ) (n : LoggedLent) (x : Logged) (bytes l : List ℕ) → LoggedIs places n x →
    let r = receive_several_box_with places n bytes l in
    let y = receive_several_box_of x.box bytes x.log l in
    (r.answer ≡ y.answer) × (r.bytes ≡ y.bytes) × (r.taken ≡ y.taken)
several-same places n x bytes l h =
    let r = receive_several_box_of (box_for (relay_for n.state) places) bytes n.log l in
    let same = several-as places n x bytes l h in (
      answer-laws.box-received-several r ∙ ap (λ (z : Took Logged ReceivedSeveral). z.answer) same,
      ap (λ (z : Took Logged ReceivedSeveral). z.bytes) same,
      answer-laws.box-taken r ∙ ap (λ (z : Took Logged ReceivedSeveral). z.taken) same,
    )

pub box-driver-laws : BoxDriverLaws
box-driver-laws =
    record {
      tells = box-tells;
      above-safe = λ l es s d. rw (box-tells l es).world (box-agreement.above-safe l es s d);
      below-safe = λ l es i s d z. rw (box-tells l es).world (box-agreement.below-safe l es i s d z);
      above-dated = λ l es. rw (box-tells l es).world (box-agreement.above-dated l es);
      below-dated = λ l es i z. rw (box-tells l es).world (box-agreement.below-dated l es i z);
      above-sent = λ l es. rw (box-tells l es).world (box-agreement.above-sent l es);
      below-sent = λ l es i z. rw (box-tells l es).world (box-agreement.below-sent l es i z);
      above-complete = above-complete;
      below-complete = below-complete;
      start_of = λ l es i s d z. rw (box-tells l es).world (box-agreement.start_of l es i s d z);
      whole = λ l es i s d z. rw (box-tells l es).world (box-agreement.whole l es i s d z);
      none_left = none_left;
      packets = λ places n x h most bytes buffer.
          through relaying (LoggedIs places) (receive_several_box_with places) (several-ends places)
          (several-same places) most n x h bytes buffer;
    }
