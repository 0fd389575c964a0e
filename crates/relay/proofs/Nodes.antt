-- One box of a row between any two neighbours: each of its calls is at most one step of the line above it and of the
-- line below it, and keeps its two sides joined and its books. Of the serving side above it is used only that it is a
-- genuine source (`GoodLine`); it may be any, and change between the box's calls. Assumes nothing.
use Prim.Native.Nat.{ℕ, ◌<◌, ◌≤◌}
use mathlib.Core.Path.{◌≡◌, refl, sym, subst}
use mathlib.Core.List.{List}
use mathlib.Core.Bool.{Bool, true, false}
use mathlib.Core.Logic.{inr}
use borrow.Author.Tests.{eqb-false}
use lib.ListN.{length, get_elem?}
use lib.Dec.{eqb}
use Rattle.flow.specs.World.{SenderSide, ReceiverSide, World}
use Rattle.flow.proofs.common.Extends.{Extends, extends-same}
use Rattle.flow.proofs.packets.Genuine.{AllBegun}
use Rattle.flow.proofs.source.Served.{ServedSide}
use Rattle.flow.proofs.lines.Steps.{LineStep}
use Rattle.flow.proofs.lines.Moves.{line-moves}
use Rattle.flow.proofs.logins.Consistent.{is_link, line-turn}
use Rattle.flow.proofs.logins.Starts.{Timely, timely-line}
use Rattle.flow.proofs.first.Half.{SafeWorld, line-safe}
use Rattle.relay.specs.State.{Box}
use Rattle.relay.specs.Box.{no_such_seat, login_seat_of, send_seat_of, send_packet_seat_of}
use Rattle.relay.specs.World.{Node, BoxWorld, box_of, line, above, below, seated, BoxEvent, open_box, connect_box}
use Rattle.relay.specs.World.{ask_box, answer_box, receive_box, login_seat, send_seat, send_packet_seat, box_step}
use Rattle.relay.specs.Agreement.{LogTakes, needed_by}
use Rattle.relay.specs.Row.{RowBox, serving_of, between, box_in, made, beside, node_step, NodeCall, opening}
use Rattle.relay.specs.Row.{connect, ask, answer, receive, login, send, send_packet, login_beside, send_beside}
use Rattle.relay.specs.Row.{send_packet_beside}
use Rattle.relay.proofs.Above.{Stepped, rested, by-box, Fair, above_step}
use Rattle.relay.proofs.Below.{Any, Sixteen, sixteen-login, sixteen-send, sixteen-packet, sixteen-step}
use Rattle.relay.proofs.Below.{below_step, login-away, send-away, packet-away}
use Rattle.relay.proofs.Joint.{Joint, joint-step, Rests, login-rests, send-rests, packet-rests, rests-joint}
use Rattle.relay.proofs.Halves.{AtSeat, refuses-step}
use Rattle.relay.proofs.Books.{Booked, along, Keeps, keeps-step, RightSeries, turn-right, EightReserves}
use Rattle.relay.proofs.Enough.{Checked, move-checked, Fine, fine-step, takes_step, log-long, no_more}

-- ─── What holds of a line, and of a box by itself ───

pub record GoodLine (w : World) : Type 0 where
  pub timely : Timely 0 w
  pub safe : SafeWorld w
  pub right : RightSeries w.receiving.end
  pub checked : Checked w.serving

-- A step keeps it.
pub good-line : {w v : World} → GoodLine w → LineStep w v → GoodLine v
good-line {w} {v} g x =
    record {
      timely = timely-line g.timely x;
      safe = line-safe x g.timely.source.begun g.safe;
      right =
          turn-right w.serving.day (is_link x) w.receiving.end g.timely.receiving.eight g.right
          v.receiving.end _ _ (line-turn g.timely.source.answers x).turn;
      checked = move-checked w.serving v.serving (line-moves x) g.checked;
    }

pub record Whole (n : RowBox) : Type 0 where
  pub there : n.seat < 16
  pub sixteen : Sixteen n.node
  pub joint : Joint n.node
  pub booked : Booked n.node
  pub eight : EightReserves n.node

-- Spares under less.
pub under : {w v : World} {C D : ℕ → ℕ → Type 0} → ((s d : ℕ) → D s d → C s d) → Stepped w v C → Stepped w v D
under f x = record { step_of = x.step_of; spares = λ s d c. x.spares s d (f s d c) }

-- ─── A call ───

-- Of the box alone.
pub record Changed (v : SenderSide) (n m : Node) : Type 0 where
  pub refuses : Extends n.refused m.refused
  pub long : length m.log ≡ length n.log
  pub keeps : Keeps n m
  -- A log that holds what the box's series take of what is published above of day d turns no message of that day away.
  pub takes : (s d : ℕ) → needed_by n d v.published ≤ length n.log → LogTakes n m s d

pub same-changed : (v : SenderSide) (n : Node) → Changed v n n
same-changed v n =
    record {
      refuses = extends-same n.refused;
      long = refl;
      keeps = inr (refl, refl);
      takes = λ s d f. no_more s d n.refused n.refused refl;
    }

pub record Turned (x : SenderSide) (n m : RowBox) (r : ReceiverSide) : Type 0 where
  pub up : Stepped (line x n.node.receiving) (line x m.node.receiving) (Fair n.node m.node)
  pub down : Stepped (line (serving_of n) r) (line (serving_of m) r) Any
  pub whole : Whole m
  pub changed : Changed x n.node m.node

module _ (x : SenderSide) (n : RowBox) (h : Whole n) (g : GoodLine (line x n.node.receiving))
    (z : ServedSide (serving_of n)) (r : ReceiverSide) where
  abbrev b : BoxWorld
  b = between x n r

  abbrev begun : AllBegun x
  begun = g.timely.source.begun

  at-seat : AtSeat b
  at-seat =
      record {
        above-timely = g.timely;
        above-safe = g.safe;
        joint = h.joint;
        seat = n.seat;
        served = z;
      }

  fine : Fine b
  fine = record { right = g.right; checked = g.checked; booked = h.booked; eight = h.eight }

  -- ─── Its own calls, and those of the row's seat ───

  -- Both neighbours stay.
  abbrev Apart : BoxWorld → Type 0
  Apart v = (v.exchange ≡ x) × (v.ends n.seat ≡ r)

  by_call : (e : BoxEvent) → Apart (box_step b e) → Turned x n (made x n r e) r
  by_call e q =
      let v = box_step b e in
      let f = fine-step b at-seat e fine in
      record {
        up =
            subst (λ (y : SenderSide). Stepped (above b) (line y v.node.receiving) (Fair b.node v.node))
            q.0 (above_step b begun e);
        down =
            subst (λ (y : ReceiverSide). Stepped (below b n.seat) (line (serving_of (box_in n.seat v)) y) Any)
            q.1 (below_step b h.sixteen n.seat h.there e);
        whole =
            record {
              there = h.there;
              sixteen = sixteen-step b h.sixteen e;
              joint = joint-step b begun g.timely.receiving h.joint e;
              booked = f.booked;
              eight = f.eight;
            };
        changed =
            record {
              refuses = refuses-step b e;
              long = log-long b e;
              keeps = keeps-step b at-seat e;
              takes = λ s d c. takes_step s d b at-seat g.right g.checked h.booked h.eight c e;
            };
      }

  login-apart : (s k : ℕ) (content out : List ℕ) → Apart (box_step b (login_seat n.seat s k content out))
  login-apart s k content out =
      by-box Apart b (get_elem? r.requests k) (refl, refl) λ p q. (refl, refl)

  -- ─── Calls of other seats ───

  -- All but seats stays, and the row's seat.
  by-other : (i : ℕ) (c : Box) → Rests (box_of n.node) c → length c.seats ≡ 16
      → ((n.seat ≡ i → ⊥)
      → Stepped (line (serving_of n) r)
      (line (serving_of (record { node = seated n.node c; seat = n.seat; written = n.written })) r) Any)
      → Turned x n (beside n i c) r
  by-other i c rests sixteen stays = go (eqb i n.seat) refl
    where
      keeps : Keeps n.node (seated n.node c)
      keeps = inr (refl, rests.reserves)

      go : (t : Bool) → eqb i n.seat ≡ t → Turned x n (beside n i c) r
      go true q =
          rw q
          (record {
            up = rested (line x n.node.receiving) _;
            down = rested (line (serving_of n) r) Any;
            whole = h;
            changed = same-changed x n.node;
          })
      go false q =
          let apart = eqb-false i n.seat q in
          rw q
          (record {
            up = rested (line x n.node.receiving) _;
            down = stays (λ e. apart (sym e));
            whole =
                record {
                  there = h.there;
                  sixteen = sixteen;
                  joint = rests-joint x begun n.node g.timely.receiving h.joint c rests;
                  booked = along b at-seat h.booked (seated n.node c) rests.day refl keeps;
                  eight = rw rests.reserves h.eight;
                };
            changed =
                record {
                  refuses = extends-same n.node.refused;
                  long = refl;
                  keeps = keeps;
                  takes = λ s d f. no_more s d n.node.refused n.node.refused refl;
                };
          })

  -- ─── Every call ───

  pub node-turn : (c : NodeCall) → Turned x n (node_step x n r c) r
  node-turn (opening ss rs) = by_call (open_box ss rs) (refl, refl)
  node-turn connect = by_call connect_box (refl, refl)
  node-turn (ask s content out) = by_call (ask_box s content out) (refl, refl)
  node-turn (answer i) =
      by_call (answer_box i) (by-box Apart b (get_elem? x.answers i) (refl, refl) λ a q. (refl, refl))
  node-turn (receive i j) =
      by_call (receive_box i j)
      (by-box Apart b (get_elem? x.transmissions i) (refl, refl) λ m q.
      by-box Apart b (get_elem? m.packets j) (refl, refl) λ p z. (refl, refl))
  node-turn (login s k content out) =
      by_call (login_seat n.seat s k content out) (login-apart s k content out)
  node-turn (send s out) = by_call (send_seat n.seat s out) (refl, refl)
  node-turn (send_packet s out) = by_call (send_packet_seat n.seat s out) (refl, refl)
  node-turn (login_beside i s p content out) =
      by-other i (login_seat_of (box_of n.node) i s p content out).end
      (login-rests (box_of n.node) i s p content out (no_such_seat i) refl)
      (sixteen-login n.node h.sixteen i s p content out (no_such_seat i) refl)
      (λ o. login-away n.node h.sixteen n.seat h.there n.written r i o (no_such_seat i) refl s p content
      out)
  node-turn (send_beside i s out) =
      by-other i (send_seat_of (box_of n.node) i s n.node.log out).end
      (send-rests (box_of n.node) i s n.node.log out (no_such_seat i) refl)
      (sixteen-send n.node h.sixteen i s out (no_such_seat i) refl)
      (λ o. send-away n.node h.sixteen n.seat h.there n.written r i o (no_such_seat i) refl s out)
  node-turn (send_packet_beside i s out) =
      by-other i (send_packet_seat_of (box_of n.node) i s n.node.log out).end
      (packet-rests (box_of n.node) i s n.node.log out (no_such_seat i) refl)
      (sixteen-packet n.node h.sixteen i s out (no_such_seat i) refl)
      (λ o. packet-away n.node h.sixteen n.seat h.there n.written r i o (no_such_seat i) refl s out)
