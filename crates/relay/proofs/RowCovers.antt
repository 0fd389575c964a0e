-- A row of no box is No. 13's world, and so demand 3's; a row of one is No. 3's at a seat: each event there is an event
-- here, or none. Assumes nothing.
use Prim.Native.Nat.{ℕ, zero, suc, ◌<◌}
use mathlib.Core.Path.{◌≡◌, refl, sym, ap, ◌∙◌, subst}
use mathlib.Core.List.{List, [], ◌∷◌, ◌++◌, map}
use mathlib.Core.Bool.{Bool, true, false}
use mathlib.Core.Option.{Option, none, some}
use borrow.Author.Tests.{eqb-true, eqb-false, eq-eqb, ne_eqb}
use lib.ListN.{get_elem?}
use lib.Dec.{eqb}
use Rattle.flow.specs.World
use Rattle.flow.specs.World.{Event, SenderSide, World, start, run}
use Rattle.flow.specs.Checkpoints.{fresh_checkpoints}
use Rattle.flow.specs.Rewind.{RewindEvent, call, keep, restore, RewindWorld, rewind_start, rewind_step, rewind_run}
use Rattle.flow.proofs.RewindAgreement.{rewind-agreement}
use Rattle.flow.proofs.common.Extends.{none-some}
use Rattle.flow.proofs.common.Rows.{by-given}
use Rattle.relay.specs.World.{Lent, BoxWorld, above, below, start_node, start_box, BoxEvent, open_exchange}
use Rattle.relay.specs.World.{publish_exchange, login_exchange, send_exchange, send_packet_exchange, open_box}
use Rattle.relay.specs.World.{connect_box, ask_box, answer_box, receive_box, login_seat, send_seat, send_packet_seat}
use Rattle.relay.specs.World.{open_end, connect_end, ask_end, answer_end, receive_end, box_step, box_run}
use Rattle.relay.specs.Agreement.{ran}
use Rattle.relay.specs.Row.{RowBox, serving_of, NodeCall, node_step, LastEnd, lower, line_in, boxes_step, box_in}
use Rattle.relay.specs.Row.{end_in, RowWorld, line_at, last_returns, start_row, RowEvent, at_exchange, at_box, at_last}
use Rattle.relay.specs.Row.{row_step, row_run, opening, connect, ask, answer, receive, login, send, send_packet}
use Rattle.relay.specs.Row.{login_beside, send_beside, send_packet_beside}
use Rattle.relay.specs.RowAgreement.{ran_row, no_box, one_box}
use Rattle.relay.proofs.RowHalves.{row-append}

-- ─── No box ───

abbrev of_line : RewindWorld → RowWorld
of_line w = record { exchange = w.now.serving; boxes = []; last = end_in w }

abbrev as_row : RewindEvent → RowEvent
as_row (call (World.open_sender date ss rs)) = at_exchange (World.open_sender date ss rs)
as_row (call (World.publish s tid content)) = at_exchange (World.publish s tid content)
as_row (call (World.login s i content out)) = at_exchange (World.login s i content out)
as_row (call (World.send s out)) = at_exchange (World.send s out)
as_row (call (World.send_packet s out)) = at_exchange (World.send_packet s out)
as_row (call (World.open_receiver ss)) = at_last (call (World.open_receiver ss))
as_row (call World.connect) = at_last (call World.connect)
as_row (call (World.request_login s content out)) = at_last (call (World.request_login s content out))
as_row (call (World.confirm_login i)) = at_last (call (World.confirm_login i))
as_row (call (World.receive i j)) = at_last (call (World.receive i j))
as_row (keep name) = at_last (keep name)
as_row (restore name) = at_last (restore name)

-- Both ends behind a call of one of them.
abbrev Apart : RewindWorld → World → Type 0
Apart w v =
    record {
      exchange = w.now.serving;
      boxes = [];
      last =
          record {
            receiving = v.receiving;
            checkpoints = w.checkpoints;
            memories = w.memories;
            asked = w.asked;
          };
    } ≡ of_line (record { now = v; checkpoints = w.checkpoints; memories = w.memories; asked = w.asked })

line_step : (w : RewindWorld) (e : RewindEvent) → row_step (of_line w) (as_row e) ≡ of_line (rewind_step w e)
line_step w (call (World.open_sender date ss rs)) = refl
line_step w (call (World.publish s tid content)) = refl
line_step w (call (World.login s i content out)) = go (get_elem? w.now.receiving.requests i) refl
  where
    go : (o : Option (List ℕ)) → get_elem? w.now.receiving.requests i ≡ o
        → row_step (of_line w) (at_exchange (World.login s i content out))
        ≡ of_line (rewind_step w (call (World.login s i content out)))
    go none q = rw q
    go (some p) q = rw q
line_step w (call (World.send s out)) = refl
line_step w (call (World.send_packet s out)) = refl
line_step w (call (World.open_receiver ss)) = refl
line_step w (call World.connect) = refl
line_step w (call (World.request_login s content out)) = refl
line_step w (call (World.confirm_login i)) =
    by-given (Apart w) w.now (get_elem? w.now.serving.answers i) refl λ a q. refl
line_step w (call (World.receive i j)) =
    by-given (Apart w) w.now (get_elem? w.now.serving.transmissions i) refl λ m q.
    by-given (Apart w) w.now (get_elem? m.packets j) refl λ p z. refl
line_step w (keep name) = refl
line_step w (restore name) = refl

line-run : (w : RewindWorld) (es : List RewindEvent) → row_run (of_line w) (map as_row es) ≡ of_line (rewind_run w es)
line-run w [] = refl
line-run w (e ∷ es) =
    ap (λ (v : RowWorld). row_run v (map as_row es)) (line_step w e) ∙ line-run (rewind_step w e) es

start_none : (log buffer : List ℕ) → start_row (no_box log buffer) ≡ of_line (rewind_start log buffer)
unfolding start rewind_start
start_none log buffer = refl

all_none : (log buffer : List ℕ) (es : List RewindEvent)
    → ran_row (no_box log buffer) (map as_row es) ≡ of_line (rewind_run (rewind_start log buffer) es)
all_none log buffer es =
    ap (λ (v : RowWorld). row_run v (map as_row es)) (start_none log buffer) ∙ line-run (rewind_start log buffer) es

pub no-box-returns : (log buffer : List ℕ) (es : List RewindEvent)
    → (fs : List RowEvent) × (last_returns (ran_row (no_box log buffer) fs) ≡ rewind_run (rewind_start log buffer) es)
no-box-returns log buffer es = (map as_row es, ap last_returns (all_none log buffer es))

pub no-box : (log buffer : List ℕ) (es : List Event)
    → (fs : List RowEvent) × (line_at (ran_row (no_box log buffer) fs) 0 ≡ run (start log buffer) es)
no-box log buffer es = (
  map as_row (map call es),
  ap (λ (v : RowWorld). line_at v 0) (all_none log buffer (map call es)) ∙ rewind-agreement.plain log buffer es,
)

-- ─── A box at any place ───

lower-is : (x : SenderSide) (ns : List RowBox) (r : LastEnd) → (line_in x ns r 0).receiving ≡ lower ns r
lower-is x [] r = refl
lower-is x (n ∷ ns) r = refl

-- All but place k stays.
abbrev Others : List RowBox → List RowBox → ℕ → Type 0
Others ms ns k = (j : ℕ) → (j ≡ k → ⊥) → get_elem? ms j ≡ get_elem? ns j

others-here : (m n : RowBox) (ns : List RowBox) → Others (m ∷ ns) (n ∷ ns) zero
others-here m n ns zero f = absurd (f refl)
others-here m n ns (suc j) f = refl

others-behind : (n : RowBox) (ms ns : List RowBox) (k : ℕ) → Others ms ns k → Others (n ∷ ms) (n ∷ ns) (suc k)
others-behind n ms ns k h zero f = refl
others-behind n ms ns k h (suc j) f = h j (λ e. f (ap suc e))

pub boxes-called : (x : SenderSide) (ns : List RowBox) (r : LastEnd) (k : ℕ) (c : NodeCall) (n : RowBox)
    → get_elem? ns k ≡ some n →
    (get_elem? (boxes_step x ns r k c) k
    ≡ some (node_step (line_in x ns r k).serving n (line_in x ns r (suc k)).receiving c))
    × Others (boxes_step x ns r k c) ns k
boxes-called x [] r k c n q = absurd (none-some n q)
boxes-called x (m ∷ ns) r zero c n q =
    let same : m ≡ n = cc in
    (rw (same, lower-is (serving_of n) ns r), others-here (node_step x m (lower ns r) c) m ns)
boxes-called x (m ∷ ns) r (suc k) c n q =
    let h = boxes-called (serving_of m) ns r k c n q in
    (h.0, others-behind m (boxes_step (serving_of m) ns r k c) ns k h.1)

-- ─── One box, at seat i ───

module _ (i : ℕ) where
  abbrev row_of : BoxWorld → RowWorld
  row_of w =
      record {
        exchange = w.exchange;
        boxes = box_in i w ∷ [];
        last =
            record {
              receiving = w.ends i;
              checkpoints = fresh_checkpoints;
              memories = [];
              asked = 0;
            };
      }

  record Covers (w v : BoxWorld) : Type 0 where
    events : List RowEvent
    same : row_run (row_of w) events ≡ row_of v

  by : (w v : BoxWorld) (e : RowEvent) → row_step (row_of w) e ≡ row_of v → Covers w v
  by w v e q = record { events = e ∷ []; same = q }

  nothing : (w v : BoxWorld) → row_of w ≡ row_of v → Covers w v
  nothing w v q = record { events = []; same = q }

  -- This seat's, or another's.
  by-seat : (P : ℕ → Type 0) → P i → ((j : ℕ) → (i ≡ j → ⊥) → P j) → (j : ℕ) → P j
  by-seat P f g j = go (eqb i j) refl
    where
      go : (b : Bool) → eqb i j ≡ b → P j
      go true q = subst P (eqb-true i j q) f
      go false q = g j (eqb-false i j q)

  module _ (w : BoxWorld) where
    abbrev C : BoxEvent → Type 0
    C e = Covers w (box_step w e)

    -- By what is at a place.
    by_place : {A : Type 0} (P : Type 0) (o : Option A) → (o ≡ none → P) → ((x : A) → o ≡ some x → P) → P
    by_place P none f g = f refl
    by_place P (some x) f g = g x refl

    self : eqb i i ≡ true
    self = eq-eqb i i refl

    covers : (e : BoxEvent) → C e
    covers (open_exchange date ss rs) = by w _ (at_exchange (World.open_sender date ss rs)) refl
    covers (publish_exchange s tid content) = by w _ (at_exchange (World.publish s tid content)) refl
    covers (login_exchange s k content out) =
        by w _ (at_exchange (World.login s k content out))
        (by_place _ (get_elem? w.node.receiving.requests k) (λ q. rw q) (λ p q. rw q))
    covers (send_exchange s out) = by w _ (at_exchange (World.send s out)) refl
    covers (send_packet_exchange s out) = by w _ (at_exchange (World.send_packet s out)) refl
    covers (open_box ss rs) = by w _ (at_box 0 (opening ss rs)) refl
    covers connect_box = by w _ (at_box 0 connect) refl
    covers (ask_box s content out) = by w _ (at_box 0 (ask s content out)) refl
    covers (answer_box k) =
        by w _ (at_box 0 (answer k)) (by_place _ (get_elem? w.exchange.answers k) (λ q. rw q) (λ p q. rw q))
    covers (receive_box k j) =
        by w _ (at_box 0 (receive k j))
        (by_place _ (get_elem? w.exchange.transmissions k) (λ q. rw q)
        (λ m q. by_place _ (get_elem? m.packets j) (λ z. rw (q, z)) (λ p z. rw (q, z))))
    covers (login_seat j s k content out) =
        by-seat (λ (j : ℕ). C (login_seat j s k content out))
        (by w _ (at_box 0 (login s k content out))
        (by_place _ (get_elem? (w.ends i).requests k) (λ q. rw q) (λ p q. rw (q, self))))
        (λ j o. by_place _ (get_elem? (w.ends j).requests k) (λ q. nothing w _ (rw q))
        (λ p q. by w _ (at_box 0 (login_beside j s p content out))
        (rw (q, ne_eqb i j o, ne_eqb j i (λ e. o (sym e)))))) j
    covers (send_seat j s out) =
        by-seat (λ (j : ℕ). C (send_seat j s out)) (by w _ (at_box 0 (send s out)) (rw self))
        (λ j o. by w _ (at_box 0 (send_beside j s out)) (rw (ne_eqb i j o, ne_eqb j i (λ e. o (sym e))))) j
    covers (send_packet_seat j s out) =
        by-seat (λ (j : ℕ). C (send_packet_seat j s out)) (by w _ (at_box 0 (send_packet s out)) (rw self))
        (λ j o. by w _ (at_box 0 (send_packet_beside j s out)) (rw (ne_eqb i j o, ne_eqb j i (λ e. o (sym e))))) j
    covers (open_end j ss) =
        by-seat (λ (j : ℕ). C (open_end j ss)) (by w _ (at_last (call (World.open_receiver ss))) (rw self))
        (λ j o. nothing w _ (rw (ne_eqb i j o))) j
    covers (connect_end j) =
        by-seat (λ (j : ℕ). C (connect_end j)) (by w _ (at_last (call World.connect)) (rw self))
        (λ j o. nothing w _ (rw (ne_eqb i j o))) j
    covers (ask_end j s content out) =
        by-seat (λ (j : ℕ). C (ask_end j s content out))
        (by w _ (at_last (call (World.request_login s content out))) (rw self))
        (λ j o. nothing w _ (rw (ne_eqb i j o))) j
    covers (answer_end j k) =
        by-seat (λ (j : ℕ). C (answer_end j k))
        (by w _ (at_last (call (World.confirm_login k)))
        (by_place _ (get_elem? (w.lines i).answers k) (λ q. rw q) (λ p q. rw (q, self))))
        (λ j o. nothing w _
        (by_place _ (get_elem? (w.lines j).answers k) (λ q. rw q) (λ p q. rw (q, ne_eqb i j o)))) j
    covers (receive_end j k n) =
        by-seat (λ (j : ℕ). C (receive_end j k n))
        (by w _ (at_last (call (World.receive k n)))
        (by_place _ (get_elem? (w.lines i).transmissions k) (λ q. rw q)
        (λ m q. by_place _ (get_elem? m.packets n) (λ z. rw (q, z)) (λ p z. rw (q, z, self)))))
        (λ j o. nothing w _
        (by_place _ (get_elem? (w.lines j).transmissions k) (λ q. rw q)
        (λ m q. by_place _ (get_elem? m.packets n) (λ z. rw (q, z)) (λ p z. rw (q, z, ne_eqb i j o))))) j

  covers-run : (w : BoxWorld) (es : List BoxEvent) → Covers w (box_run w es)
  covers-run w [] = nothing w w refl
  covers-run w (e ∷ es) =
      let a = covers w e in
      let b = covers-run (box_step w e) es in
      record {
        events = a.events ++ b.events;
        same =
            row-append (row_of w) a.events b.events
            ∙ ap (λ (v : RowWorld). row_run v b.events) a.same ∙ b.same;
      }

  start-one : (l : Lent) (f : i < 16) → start_row (one_box l i f) ≡ row_of (start_box l)
  unfolding start_box start_node start
  start-one l f = refl

  pub one-box : (l : Lent) (f : i < 16) (es : List BoxEvent)
      → (fs : List RowEvent)
      × (line_at (ran_row (one_box l i f) fs) 0 ≡ above (ran l es))
      × (line_at (ran_row (one_box l i f) fs) 1 ≡ below (ran l es) i)
  one-box l f es =
      let c = covers-run (start_box l) es in
      let all : ran_row (one_box l i f) c.events ≡ row_of (ran l es) =
      ap (λ (v : RowWorld). row_run v c.events) (start-one l f) ∙ c.same in (
        c.events,
        ap (λ (v : RowWorld). line_at v 0) all,
        ap (λ (v : RowWorld). line_at v 1) all,
      )
