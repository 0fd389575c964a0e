-- The row: every event is at most one step of each line, and keeps what holds of each box and each line. By induction
-- over the boxes, below any serving side. Assumes nothing.
use Prim.Native.Nat.{ℕ, zero, suc}
use mathlib.Core.Path.{◌≡◌, refl, sym, ap, subst}
use mathlib.Core.List.{List, [], ◌∷◌, map}
use mathlib.Core.Bool.{false}
use mathlib.Core.Option.{Option, none, some}
use lib.ListN.{get_elem?, get_or-replicate}
use Rattle.flow.specs.declared.sender.Seat.{Seat}
use Rattle.flow.specs.declared.receiver.Receiver.{Receiver}
use Rattle.flow.specs.Types.{Restored}
use Rattle.flow.specs.Ends.{Left, fresh_sender, fresh_receiver, is_open, kept_series}
use Rattle.flow.specs.World
use Rattle.flow.specs.World.{Event, SenderSide, ReceiverSide, World, start, step}
use Rattle.flow.specs.Checkpoints.{fresh_checkpoints, restore_of}
use Rattle.flow.specs.Rewind.{RewindEvent, call, keep, restore, rewind_start, run_over, after_restore, rewind_step}
use Rattle.flow.proofs.common.Bools.{clash}
use Rattle.flow.proofs.common.Rows.{by-given}
use Rattle.flow.proofs.source.Served.{ServedSide}
use Rattle.flow.proofs.logins.Starts.{timely-start}
use Rattle.flow.proofs.first.Half.{start-safe}
use Rattle.flow.proofs.lines.Steps.{LineStep}
use Rattle.flow.proofs.rewind.Linked.{Restores-as, restore-as, restores}
use Rattle.flow.proofs.rewind.First.{SafeRewind, safe-start, safe-step, safe-on-line}
use Rattle.flow.proofs.rewind.Second.{TimelyRewind, timely-fresh, timely-next, timely-on-line, refused-opening}
use Rattle.relay.specs.Box.{server_of, no_seat}
use Rattle.relay.specs.World.{line, start_node}
use Rattle.relay.specs.Row.{RowBox, serving_of, NodeCall, node_step, LastEnd, returning, end_in, RowWorld, lower}
use Rattle.relay.specs.Row.{upper, LentNode, LentRow, start_row_box, start_row, RowEvent, at_exchange, at_box}
use Rattle.relay.specs.Row.{at_last, boxes_step, row_step, row_run}
use Rattle.relay.proofs.Above.{Stepped, called, rested, Fair}
use Rattle.relay.proofs.Below.{Any}
use Rattle.relay.proofs.Halves.{start-join}
use Rattle.relay.proofs.Books.{RightSeries, start-booked}
use Rattle.relay.proofs.Enough.{Checked}
use Rattle.relay.proofs.Nodes.{GoodLine, good-line, Whole, Changed, same-changed, under, node-turn}

-- ─── What holds of the row below x ───

-- Of the last line, with the named places of its end.
pub record GoodLast (x : SenderSide) (r : LastEnd) : Type 0 where
  pub timely : TimelyRewind (returning x r)
  pub safe : SafeRewind (returning x r)

abbrev pub GoodRow : SenderSide → List RowBox → LastEnd → Type 0
GoodRow x [] r = GoodLast x r
GoodRow x (n ∷ ns) r = Whole n × GoodLine (line x n.node.receiving) × GoodRow (serving_of n) ns r

abbrev pub Good : RowWorld → Type 0
Good w = GoodRow w.exchange w.boxes w.last

-- ─── A step of the row: one of each line ───

pub record NodeMoved (x y : SenderSide) (n m : RowBox) : Type 0 where
  pub moves : Stepped (line x n.node.receiving) (line y m.node.receiving) (Fair n.node m.node)
  pub whole : Whole m
  pub changed : Changed x n.node m.node

-- A line's step; or a return of its lower end that was taken, which counts like a connection.
pub data LineMoved (w v : World) (C : ℕ → ℕ → Type 0) : Type 0 where
  goes : Stepped w v C → LineMoved w v C
  returns : v.serving ≡ w.serving → v.receiving.restarts ≡ suc w.receiving.restarts → LineMoved w v C

pub data Moved : SenderSide → SenderSide → List RowBox → List RowBox → LastEnd → LastEnd → Type 0 where
  ends : {x y : SenderSide} {r t : LastEnd} → LineMoved (line x r.receiving) (line y t.receiving) Any
      → GoodLast y t → Moved x y [] [] r t
  joins : {x y : SenderSide} {n m : RowBox} {ns ms : List RowBox} {r t : LastEnd} → NodeMoved x y n m
      → Moved (serving_of n) (serving_of m) ns ms r t → Moved x y (n ∷ ns) (m ∷ ms) r t

abbrev pub RowMoved : RowWorld → RowWorld → Type 0
RowMoved w v = Moved w.exchange v.exchange w.boxes v.boxes w.last v.last

node_stays : (x y : SenderSide) (n : RowBox) → Whole n
    → Stepped (line x n.node.receiving) (line y n.node.receiving) Any → NodeMoved x y n n
node_stays x y n h t =
    record {
      moves = under (λ s d c. tt) t;
      whole = h;
      changed = same-changed x n.node;
    }

rests-node : (x : SenderSide) (n : RowBox) → Whole n → NodeMoved x x n n
rests-node x n h = node_stays x x n h (rested (line x n.node.receiving) Any)

rests-row : (x : SenderSide) (ns : List RowBox) (r : LastEnd) → GoodRow x ns r → Moved x x ns ns r r
rests-row x [] r g = ends (goes (rested (line x r.receiving) Any)) g
rests-row x (n ∷ ns) r g = joins (rests-node x n g.0) (rests-row (serving_of n) ns r g.2)

-- A step of the last line that leaves its end's named places.
last_line : (x y : SenderSide) (r : LastEnd) (v : ReceiverSide) → GoodLast x r
    → LineStep (line x r.receiving) (line y v)
    → GoodLast y (record { receiving = v; checkpoints = r.checkpoints; memories = r.memories; asked = r.asked })
last_line x y r v g l =
    record {
      timely = timely-on-line (returning x r) g.timely l;
      safe = safe-on-line (returning x r) g.safe l;
    }

-- What stands above moves: a step of the first line.
top-moves : (x y : SenderSide) (ns : List RowBox) (r : LastEnd) → GoodRow x ns r
    → Stepped (line x (lower ns r)) (line y (lower ns r)) Any → Moved x y ns ns r r
top-moves x y [] r g t = ends (goes t) (last_line x y r r.receiving g t.step_of)
top-moves x y (n ∷ ns) r g t =
    joins (node_stays x y n g.0 t) (rests-row (serving_of n) ns r g.2)

-- The exchange.
serving-side : (x : SenderSide) (r : ReceiverSide) (e : Event)
    → Stepped (line x r) (line (step (line x r) e).serving r) Any
serving-side x r (World.open_sender date ss rs) = called (line x r) _ Any (World.open_sender date ss rs) refl
serving-side x r (World.publish s tid content) = called (line x r) _ Any (World.publish s tid content) refl
serving-side x r (World.login s i content out) =
    go (get_elem? r.requests i) refl
  where
    go : (o : Option (List ℕ)) → get_elem? r.requests i ≡ o
        → Stepped (line x r) (line (step (line x r) (World.login s i content out)).serving r) Any
    go none q = rw q (rested (line x r) Any)
    go (some p) q = called (line x r) _ Any (World.login s i content out) (rw q)
serving-side x r (World.send s out) = called (line x r) _ Any (World.send s out) refl
serving-side x r (World.send_packet s out) = called (line x r) _ Any (World.send_packet s out) refl
serving-side x r (World.open_receiver ss) = rested (line x r) Any
serving-side x r World.connect = rested (line x r) Any
serving-side x r (World.request_login s content out) = rested (line x r) Any
serving-side x r (World.confirm_login i) =
    by-given (λ (v : World). Stepped (line x r) (line v.serving r) Any) (line x r) (get_elem? x.answers i)
    (rested (line x r) Any) λ a q. rested (line x r) Any
serving-side x r (World.receive i j) =
    by-given (λ (v : World). Stepped (line x r) (line v.serving r) Any) (line x r) (get_elem? x.transmissions i)
    (rested (line x r) Any) λ m q.
    by-given (λ (v : World). Stepped (line x r) (line v.serving r) Any) (line x r) (get_elem? m.packets j)
    (rested (line x r) Any) λ p z. rested (line x r) Any

-- The last end.
receiving-side : (x : SenderSide) (r : ReceiverSide) (e : Event)
    → Stepped (line x r) (line x (step (line x r) e).receiving) Any
receiving-side x r (World.open_sender date ss rs) = rested (line x r) Any
receiving-side x r (World.publish s tid content) = rested (line x r) Any
receiving-side x r (World.login s i content out) =
    by-given (λ (v : World). Stepped (line x r) (line x v.receiving) Any) (line x r) (get_elem? r.requests i)
    (rested (line x r) Any) λ a q. rested (line x r) Any
receiving-side x r (World.send s out) = rested (line x r) Any
receiving-side x r (World.send_packet s out) = rested (line x r) Any
receiving-side x r (World.open_receiver ss) = called (line x r) _ Any (World.open_receiver ss) refl
receiving-side x r World.connect = called (line x r) _ Any World.connect refl
receiving-side x r (World.request_login s content out) =
    called (line x r) _ Any (World.request_login s content out) refl
receiving-side x r (World.confirm_login i) =
    by-given (λ (v : World). Stepped (line x r) (line x v.receiving) Any) (line x r) (get_elem? x.answers i)
    (rested (line x r) Any) λ a q. called (line x r) _ Any (World.confirm_login i) (rw q)
receiving-side x r (World.receive i j) =
    by-given (λ (v : World). Stepped (line x r) (line x v.receiving) Any) (line x r) (get_elem? x.transmissions i)
    (rested (line x r) Any) λ m q.
    by-given (λ (v : World). Stepped (line x r) (line x v.receiving) Any) (line x r) (get_elem? m.packets j)
    (rested (line x r) Any) λ p z. called (line x r) _ Any (World.receive i j) (rw (q, z))

-- What stands above serves, by its line.
top-source : (x : SenderSide) (ns : List RowBox) (r : LastEnd) → GoodRow x ns r → ServedSide x
top-source x [] r g = g.timely.timely.source.served
top-source x (n ∷ ns) r g = g.1.timely.source.served

-- Box k.
box-moves : (x : SenderSide) (ns : List RowBox) (r : LastEnd) → GoodRow x ns r → (k : ℕ) (c : NodeCall)
    → Moved x x ns (boxes_step x ns r k c) r r
box-moves x [] r g k c = ends (goes (rested (line x r.receiving) Any)) g
box-moves x (n ∷ ns) r g zero c =
    let z = top-source (serving_of n) ns r g.2 in
    let t = node-turn x n g.0 g.1 z (lower ns r) c in
    joins (record { moves = t.up; whole = t.whole; changed = t.changed })
    (top-moves (serving_of n) (serving_of (node_step x n (lower ns r) c)) ns r g.2 t.down)
box-moves x (n ∷ ns) r g (suc k) c = joins (rests-node x n g.0) (box-moves (serving_of n) ns r g.2 k c)

-- Keeping, and a return that is refused: nothing, but a run is over, as by an opening without series.
run-over : (x : SenderSide) (v : ReceiverSide) → Stepped (line x v) (line x (run_over v)) Any
run-over x v = called (line x v) _ Any (World.open_receiver []) (refused-opening (line x v))

end-moves : (x : SenderSide) (r : LastEnd) → GoodLast x r → (e : RewindEvent)
    → Moved x x [] [] r (end_in (rewind_step (returning x r) e))
end-moves x r g (call e) =
    let t = receiving-side x r.receiving e in ends (goes t) (last_line x x r _ g t.step_of)
end-moves x r g (keep name) =
    ends (goes (run-over x r.receiving))
    (record {
      timely = timely-next (returning x r) g.timely (keep name);
      safe = safe-step (returning x r) g.safe (keep name);
    })
end-moves x r g (restore name) =
    go (restore_of r.checkpoints r.receiving.end name) (restore-as r.checkpoints r.receiving.end name)
    (timely-next (returning x r) g.timely (restore name)) (safe-step (returning x r) g.safe (restore name))
  where
    go : (q : Left Receiver Restored) → Restores-as r.checkpoints r.receiving.end name q
        → TimelyRewind (after_restore (returning x r) name q) → SafeRewind (after_restore (returning x r) name q)
        → Moved x x [] [] r (end_in (after_restore (returning x r) name q))
    go q (Restores-as.refuses z) a b =
        ends (goes (run-over x r.receiving)) (record { timely = a; safe = b })
    go q (restores f u) a b = ends (returns refl refl) (record { timely = a; safe = b })

last-moves : (x : SenderSide) (ns : List RowBox) (r : LastEnd) → GoodRow x ns r → (e : RewindEvent)
    → Moved x x ns ns r (end_in (rewind_step (returning (upper x ns) r) e))
last-moves x [] r g e = end-moves x r g e
last-moves x (n ∷ ns) r g e = joins (rests-node x n g.0) (last-moves (serving_of n) ns r g.2 e)

pub row-moves : (w : RowWorld) → Good w → (e : RowEvent) → RowMoved w (row_step w e)
row-moves w g (at_exchange e) =
    top-moves w.exchange _ w.boxes w.last g (serving-side w.exchange (lower w.boxes w.last) e)
row-moves w g (at_box k c) = box-moves w.exchange w.boxes w.last g k c
row-moves w g (at_last e) = last-moves w.exchange w.boxes w.last g e

-- ─── All is kept ───

pub moved-good : {x y : SenderSide} {ns ms : List RowBox} {r t : LastEnd} → Moved x y ns ms r t → GoodRow x ns r
    → GoodRow y ms t
moved-good (ends s h) g = h
moved-good (joins s m) g = (s.whole, good-line g.1 s.moves.step_of, moved-good m g.2)

pub good-step : (w : RowWorld) → Good w → (e : RowEvent) → Good (row_step w e)
good-step w g e = moved-good (row-moves w g e) g

pub good-run : (w : RowWorld) → Good w → (es : List RowEvent) → Good (row_run w es)
good-run w g [] = g
good-run w g (e ∷ es) = good-run (row_step w e) (good-step w g e) es

-- ─── The start ───

start_right : (log buffer : List ℕ) → RightSeries (start log buffer).receiving.end
unfolding start fresh_receiver is_open kept_series
start_right log buffer = λ s q. clash false q refl

start-checked : (log buffer : List ℕ) → Checked (start log buffer).serving
unfolding start
start-checked log buffer = tt

-- Above any fresh serving side.
fresh-line : (x : SenderSide) (log buffer : List ℕ) → x ≡ (start log []).serving
    → GoodLine (line x (start [] buffer).receiving)
unfolding start
fresh-line x log buffer q =
    rw q
    (record {
      timely = timely-start log buffer;
      safe = start-safe log buffer;
      right = start_right log buffer;
      checked = start-checked log buffer;
    })

abbrev fresh_last : List ℕ → LastEnd
fresh_last buffer =
    record {
      receiving = (start [] buffer).receiving;
      checkpoints = fresh_checkpoints;
      memories = [];
      asked = 0;
    }

fresh-last : (x : SenderSide) (log buffer : List ℕ) → x ≡ (start log []).serving → GoodLast x (fresh_last buffer)
unfolding start rewind_start
fresh-last x log buffer q = rw q (record { timely = timely-fresh log buffer; safe = safe-start log buffer })

start-serving : (l : LentNode) → serving_of (start_row_box l) ≡ (start l.log []).serving
unfolding start_node start fresh_sender
start-serving l =
    ap
    (λ (x : Seat). record {
      end = server_of fresh_sender.day x;
      log = l.log;
      day = fresh_sender.day.date;
      openings = 0;
      published = [];
      answers = [];
      transmissions = [];
      messages = [];
    })
    (get_or-replicate 16 l.seat no_seat no_seat l.there)

start-whole : (l : LentNode) → Whole (start_row_box l)
unfolding start_node start
start-whole l =
    record {
      there = l.there;
      sixteen = refl;
      joint = (start-join, refl);
      booked = start-booked l.buffer l.log;
      eight = refl;
    }

start-end : (l : LentNode) → (start_row_box l).node.receiving ≡ (start [] l.buffer).receiving
unfolding start_node
start-end l = refl

start-good : (x : SenderSide) (log : List ℕ) → x ≡ (start log []).serving → (ls : List LentNode) (buffer : List ℕ)
    → GoodRow x (map start_row_box ls) (fresh_last buffer)
start-good x log q [] buffer = fresh-last x log buffer q
start-good x log q (l ∷ ls) buffer = (
  start-whole l,
  subst (λ (r : ReceiverSide). GoodLine (line x r)) (sym (start-end l)) (fresh-line x log l.buffer q),
  start-good (serving_of (start_row_box l)) l.log (start-serving l) ls buffer,
)

pub good_start : (l : LentRow) → Good (start_row l)
good_start l = start-good (start l.exchange_log []).serving l.exchange_log refl l.boxes l.buffer
