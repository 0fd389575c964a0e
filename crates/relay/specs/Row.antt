-- Boxes in a row (02, No. 14): an exchange, any number of boxes, a last receiving end, and a line between each two.
-- What is there after a list of calls. Each box is the box of No. 3 between its two neighbours; each line's two ends
-- with what it carries are a world of `flow`, so that what `flow` says of a line is said of each of these, word for
-- word. The last end has named places to come back to (02, No. 13): the last line is `flow`'s RewindWorld
-- (`last_returns`), so what it handed on and reported is as counted there.
use Rattle.std.specs.Prelude.{ℕ, zero, suc, ◌<◌, List, [], ◌∷◌, map, cond, eqb}
use Rattle.ftd.specs.declared.refusal.Refusal.{Refusal}
use Rattle.flow.specs.declared.checkpoint.Checkpoints.{Checkpoints}
use Rattle.flow.specs.World.{Dated, Event, SenderSide, ReceiverSide, World, start, step}
use Rattle.flow.specs.Checkpoints.{fresh_checkpoints}
use Rattle.flow.specs.Rewind.{RewindEvent, Histories, Memory, RewindWorld, rewind_step}
use Rattle.relay.specs.State.{Box}
use Rattle.relay.specs.Box.{no_reserves, login_seat_of, send_seat_of, send_packet_seat_of}
use Rattle.relay.specs.World.{Node, SeatLine, BoxWorld, box_of, serving_at, line, start_node, seated, BoxEvent}
use Rattle.relay.specs.World.{open_box, connect_box, ask_box, answer_box, receive_box, login_seat, send_seat}
use Rattle.relay.specs.World.{send_packet_seat, box_step}

-- ─── A box of the row ───

pub record RowBox : Type 0 where
  -- The box; the seat at whose line the next of the row stands; and what Login and the Sends of that seat wrote.
  pub node : Node
  pub seat : ℕ
  pub written : SeatLine

-- Its serving side, at the row's seat.
abbrev pub serving_of : RowBox → SenderSide
serving_of n = serving_at n.node n.seat n.written

-- The box between its neighbours, as a world of No. 3: x is the serving side above it, r the receiving end below it.
-- (Of the lines there only that of the row's seat is looked at.)
abbrev pub between : SenderSide → RowBox → ReceiverSide → BoxWorld
between x n r = record { exchange = x; node = n.node; lines = λ i. n.written; ends = λ i. r }

abbrev pub box_in : ℕ → BoxWorld → RowBox
box_in i v = record { node = v.node; seat = i; written = v.lines i }

-- The calls of a box. What a line hands over is named by its place among all that this line was ever given.
pub data NodeCall : Type 0 where
  opening : List ℕ → List ℕ → NodeCall  -- series, reserves
  connect : NodeCall
  ask : ℕ → List ℕ → List ℕ → NodeCall
  answer : ℕ → NodeCall  -- place of the answer on the line above
  receive : ℕ → ℕ → NodeCall  -- place of the transmission there, and which of its packets
  -- of the row's seat; Login: series, place of the login packet of the end below
  login : ℕ → ℕ → List ℕ → List ℕ → NodeCall
  send : ℕ → List ℕ → NodeCall
  send_packet : ℕ → List ℕ → NodeCall
  -- of another seat, first: any bytes
  login_beside : ℕ → ℕ → List ℕ → List ℕ → List ℕ → NodeCall
  send_beside : ℕ → ℕ → List ℕ → NodeCall
  send_packet_beside : ℕ → ℕ → List ℕ → NodeCall

-- As a call of No. 3's world.
abbrev pub made : SenderSide → RowBox → ReceiverSide → BoxEvent → RowBox
made x n r e = box_in n.seat (box_step (between x n r) e)

-- Behind a call of another seat; what it wrote goes elsewhere. The row's own seat is handed nothing but what its line
-- was given.
abbrev pub beside : RowBox → ℕ → Box → RowBox
beside n i b =
    cond (eqb i n.seat) n (record { node = seated n.node b; seat = n.seat; written = n.written })

abbrev pub node_step : SenderSide → RowBox → ReceiverSide → NodeCall → RowBox
node_step x n r (opening ss rs) = made x n r (open_box ss rs)
node_step x n r connect = made x n r connect_box
node_step x n r (ask s content out) = made x n r (ask_box s content out)
node_step x n r (answer i) = made x n r (answer_box i)
node_step x n r (receive i j) = made x n r (receive_box i j)
node_step x n r (login s k content out) = made x n r (login_seat n.seat s k content out)
node_step x n r (send s out) = made x n r (send_seat n.seat s out)
node_step x n r (send_packet s out) = made x n r (send_packet_seat n.seat s out)
node_step x n r (login_beside i s p content out) = beside n i (login_seat_of (box_of n.node) i s p content out).end
node_step x n r (send_beside i s out) = beside n i (send_seat_of (box_of n.node) i s n.node.log out).end
node_step x n r (send_packet_beside i s out) = beside n i (send_packet_seat_of (box_of n.node) i s n.node.log out).end

-- ─── The row ───

-- The last end, with its named places and what is remembered with them (`flow`'s RewindWorld, but for the serving
-- side).
pub record LastEnd : Type 0 where
  pub receiving : ReceiverSide
  pub checkpoints : Checkpoints
  pub memories : List (Memory Histories)
  pub asked : ℕ  -- how many login packets of Ask there were at the last return that was taken

-- Below a serving side.
abbrev pub returning : SenderSide → LastEnd → RewindWorld
returning x r =
    record {
      now = line x r.receiving;
      checkpoints = r.checkpoints;
      memories = r.memories;
      asked = r.asked;
    }

abbrev pub end_in : RewindWorld → LastEnd
end_in u =
    record {
      receiving = u.now.receiving;
      checkpoints = u.checkpoints;
      memories = u.memories;
      asked = u.asked;
    }

pub record RowWorld : Type 0 where
  pub exchange : SenderSide
  pub boxes : List RowBox  -- from the exchange down
  pub last : LastEnd

-- The receiving end below x, and the serving side above the last end: x is what stands above the boxes ns.
abbrev pub lower : List RowBox → LastEnd → ReceiverSide
lower [] r = r.receiving
lower (n ∷ ns) r = n.node.receiving

abbrev pub upper : SenderSide → List RowBox → SenderSide
upper x [] = x
upper x (n ∷ ns) = upper (serving_of n) ns

-- Line k, from 0: the one into box k, and behind the boxes the last one.
abbrev pub line_in : SenderSide → List RowBox → LastEnd → ℕ → World
line_in x [] r k = line x r.receiving
line_in x (n ∷ ns) r zero = line x n.node.receiving
line_in x (n ∷ ns) r (suc k) = line_in (serving_of n) ns r k

abbrev pub line_at : RowWorld → ℕ → World
line_at w k = line_in w.exchange w.boxes w.last k

abbrev pub last_line : RowWorld → World
last_line w = line (upper w.exchange w.boxes) w.last.receiving

abbrev pub last_returns : RowWorld → RewindWorld
last_returns w = returning (upper w.exchange w.boxes) w.last

-- How many login packets the lower end of line k had asked for at its last return. No box returns.
abbrev pub asked_in : List RowBox → LastEnd → ℕ → ℕ
asked_in [] r k = r.asked
asked_in (n ∷ ns) r zero = 0
asked_in (n ∷ ns) r (suc k) = asked_in ns r k

abbrev pub asked_at : RowWorld → ℕ → ℕ
asked_at w k = asked_in w.boxes w.last k

-- What the log of the box below line k turned away; the last end has no log.
abbrev pub refused_in : List RowBox → ℕ → List (Dated Refusal)
refused_in [] k = []
refused_in (n ∷ ns) zero = n.node.refused
refused_in (n ∷ ns) (suc k) = refused_in ns k

-- The reserves of that box (02, No. 11).
abbrev pub reserves_in : List RowBox → ℕ → List ℕ
reserves_in [] k = no_reserves
reserves_in (n ∷ ns) zero = n.node.reserves
reserves_in (n ∷ ns) (suc k) = reserves_in ns k

-- ─── The start: all fresh; logs and chain buffers of any length and content; N is the number of the boxes ───

pub record LentNode : Type 0 where
  pub seat : ℕ
  pub there : seat < 16
  pub log : List ℕ
  pub buffer : List ℕ

pub record LentRow : Type 0 where
  pub exchange_log : List ℕ
  pub boxes : List LentNode
  pub buffer : List ℕ  -- of the last end

abbrev pub start_row_box : LentNode → RowBox
start_row_box l =
    record {
      node = start_node l.buffer l.log;
      seat = l.seat;
      written = record { answers = []; transmissions = []; messages = [] };
    }

abbrev pub start_row : LentRow → RowWorld
start_row l =
    record {
      exchange = (start l.exchange_log []).serving;
      boxes = map start_row_box l.boxes;
      last =
          record {
            receiving = (start [] l.buffer).receiving;
            checkpoints = fresh_checkpoints;
            memories = [];
            asked = 0;
          };
    }

-- ─── The events ───

-- A call of the exchange or of the last end is one of its line in `flow`, of which that end's side is taken: a call of
-- the other side is none here.
pub data RowEvent : Type 0 where
  at_exchange : Event → RowEvent
  at_box : ℕ → NodeCall → RowEvent  -- box k, from 0
  at_last : RewindEvent → RowEvent

abbrev pub boxes_step : SenderSide → List RowBox → LastEnd → ℕ → NodeCall → List RowBox
boxes_step x [] r k c = []
boxes_step x (n ∷ ns) r zero c = node_step x n (lower ns r) c ∷ ns
boxes_step x (n ∷ ns) r (suc k) c = n ∷ boxes_step (serving_of n) ns r k c

abbrev pub row_step : RowWorld → RowEvent → RowWorld
row_step w (at_exchange e) =
    record {
      exchange = (step (line w.exchange (lower w.boxes w.last)) e).serving;
      boxes = w.boxes;
      last = w.last;
    }
row_step w (at_box k c) =
    record { exchange = w.exchange; boxes = boxes_step w.exchange w.boxes w.last k c; last = w.last }
row_step w (at_last e) =
    record { exchange = w.exchange; boxes = w.boxes; last = end_in (rewind_step (last_returns w) e) }

abbrev pub row_run : RowWorld → List RowEvent → RowWorld
row_run w [] = w
row_run w (e ∷ es) = row_run (row_step w e) es
