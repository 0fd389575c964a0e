-- What holds of the whole after every list of events: on each line what `flow` proves of it, and the join. Both halves of
-- demand 3 on each line. Assumes nothing.
use Prim.Native.Nat.{ℕ, ◌<◌}
use native.Mathlib.Omega.{arith}
use mathlib.Core.Path.{◌≡◌, refl, sym, ap, ◌∙◌, subst}
use mathlib.Core.List.{List, [], ◌∷◌}
use lib.ListN.{get_elem?, get_or-replicate}
use Rattle.flow.specs.declared.sender.Seat.{Seat}
use Rattle.ftd.specs.Types.{TradeDate}
use Rattle.flow.specs.Ends.{fresh_sender, fresh_receiver, kept_of, kept_series}
use Rattle.flow.specs.World.{SenderSide, World, start}
use Rattle.flow.specs.Agreement.{of, since, CaughtUp}
use Rattle.flow.proofs.common.Days.{Upto, upto-along, upto-same}
use Rattle.flow.proofs.common.Extends.{Extends, extends-same, extends-append, extends-along}
use Rattle.flow.proofs.common.Lists.{since-along, append-empty}
use Rattle.flow.proofs.common.Histories.{of-append}
use Rattle.flow.proofs.source.Served.{ServedSide}
use Rattle.flow.proofs.source.Sources.{Source, move-source}
use Rattle.flow.proofs.source.Days.{day-rises, day-stays, openings-grow}
use Rattle.flow.proofs.lines.Steps.{Steps, none, then, SparesAll}
use Rattle.flow.proofs.lines.Moves.{line-moves, steps-keep, openings-steps}
use Rattle.flow.proofs.logins.Starts.{Timely, timely-line, timely-start}
use Rattle.flow.proofs.first.Half.{SafeWorld, line-safe, start-safe}
use Rattle.flow.proofs.second.Half.{line-complete}
use Rattle.relay.specs.Box.{server_of, no_seat}
use Rattle.relay.specs.World.{Lent, BoxWorld, above, below, serving_at, start_node, start_box, BoxEvent, open_exchange}
use Rattle.relay.specs.World.{publish_exchange, login_exchange, send_exchange, send_packet_exchange, open_box, connect_box}
use Rattle.relay.specs.World.{ask_box, answer_box, receive_box, login_seat, send_seat, send_packet_seat, open_end}
use Rattle.relay.specs.World.{connect_end, ask_end, answer_end, receive_end, box_step, box_run}
use Rattle.relay.specs.Agreement.{LogTakes, UpToDate}
use Rattle.relay.proofs.Above.{above_step, by-box}
use Rattle.relay.proofs.Below.{Sixteen, sixteen-step, below_step}
use Rattle.relay.proofs.Join.{DayJoin}
use Rattle.relay.proofs.Joint.{Joint, joint-step}
use Rattle.std.specs.Prelude.{Some, None}

pub record Good (w : BoxWorld) : Type 0 where
  pub sixteen : Sixteen w.node
  pub above-timely : Timely 0 (above w)
  pub above-safe : SafeWorld (above w)
  pub below-timely : (i : ℕ) → i < 16 → Timely 0 (below w i)
  pub below-safe : (i : ℕ) → i < 16 → SafeWorld (below w i)
  pub joint : Joint w.node

-- The line from above, and one seat: all that the day's books and a log's length need.
pub record AtSeat (w : BoxWorld) : Type 0 where
  pub above-timely : Timely 0 (above w)
  pub above-safe : SafeWorld (above w)
  pub joint : Joint w.node
  pub seat : ℕ
  pub served : ServedSide (serving_at w.node seat (w.lines seat))

pub first-seat : (w : BoxWorld) → Good w → AtSeat w
first-seat w g =
    record {
      above-timely = g.above-timely;
      above-safe = g.above-safe;
      joint = g.joint;
      seat = 0;
      served = (g.below-timely 0 (omega arith)).source.served;
    }

pub good-step : (w : BoxWorld) → Good w → (e : BoxEvent) → Good (box_step w e)
good-step w g e =
    let a = (above_step w g.above-timely.source.begun e).step_of in
    record {
      sixteen = sixteen-step w g.sixteen e;
      above-timely = timely-line g.above-timely a;
      above-safe = line-safe a g.above-timely.source.begun g.above-safe;
      below-timely = λ i f. timely-line (g.below-timely i f) (below_step w g.sixteen i f e).step_of;
      below-safe = λ i f.
          line-safe (below_step w g.sixteen i f e).step_of (g.below-timely i f).source.begun (g.below-safe i f);
      joint = joint-step w g.above-timely.source.begun g.above-timely.receiving g.joint e;
    }

pub good-run : (w : BoxWorld) → Good w → (es : List BoxEvent) → Good (box_run w es)
good-run w g [] = g
good-run w g (e ∷ es) = good-run (box_step w e) (good-step w g e) es

-- ─── The start ───

above-start : (l : Lent) → above (start_box l) ≡ start l.exchange_log l.buffer
unfolding start_box start_node start
above-start l = refl

seat-start : (l : Lent) (i : ℕ) → i < 16
    → below (start_box l) i ≡ record {
      serving =
          record {
            end = server_of fresh_sender.day fresh_sender.seat;
            log = l.log;
            day = fresh_sender.day.date;
            openings = 0;
            published = [];
            answers = [];
            transmissions = [];
            messages = [];
          };
      receiving = (start [] (l.buffers i)).receiving;
    }
unfolding start_box start_node
seat-start l i f =
    ap
    (λ (x : Seat). record {
      serving =
          record {
            end = server_of fresh_sender.day x;
            log = l.log;
            day = fresh_sender.day.date;
            openings = 0;
            published = [];
            answers = [];
            transmissions = [];
            messages = [];
          };
      receiving = (start [] (l.buffers i)).receiving;
    })
    (get_or-replicate 16 i no_seat no_seat f)

below-start : (l : Lent) (i : ℕ) → i < 16 → below (start_box l) i ≡ start l.log (l.buffers i)
unfolding start fresh_sender
below-start l i f = seat-start l i f

pub start-join : DayJoin fresh_sender.day fresh_receiver
unfolding fresh_sender fresh_receiver kept_of kept_series
start-join = record { behind = λ s. tt; series = λ d q. none-at d q; someone = λ d q. none-at d q }
  where
    none-at : {A : Type 0} (d : ℕ) → None ≡ Some d → A
    none-at d q = let z : ◌≡◌ {A = ℕ} 0 1 = cc in absurd (omega arith)

start-joint : (l : Lent) → Joint (start_box l).node
unfolding start_box start_node start
start-joint l = (start-join, refl)

start-sixteen : (l : Lent) → Sixteen (start_box l).node
unfolding start_box start_node
start-sixteen l = refl

pub good_start : (l : Lent) → Good (start_box l)
good_start l =
    record {
      sixteen = start-sixteen l;
      above-timely = subst (Timely 0) (sym (above-start l)) (timely-start l.exchange_log l.buffer);
      above-safe = subst SafeWorld (sym (above-start l)) (start-safe l.exchange_log l.buffer);
      below-timely = λ i f. subst (Timely 0) (sym (below-start l i f)) (timely-start l.log (l.buffers i));
      below-safe = λ i f. subst SafeWorld (sym (below-start l i f)) (start-safe l.log (l.buffers i));
      joint = start-joint l;
    }

-- ─── Days never run ahead ───

pub ahead : (w : BoxWorld) → Good w → Upto w.node.day.date w.exchange.day
ahead w g = go w.node.day.date refl
  where
    go : (o : TradeDate) → w.node.day.date ≡ o → Upto o w.exchange.day
    go None q = tt
    go (Some d) q =
        let x = g.joint.0.someone d q in rw x.2 at (g.above-timely.behind x.0)

-- Over a list of steps the serving day rises, and stays while no opening comes.
pub rises : {w v : World} → Steps w v → Source w.serving → Upto w.serving.day v.serving.day
rises {w} ls z =
    (steps-keep (λ (v : SenderSide). Source v × Upto w.serving.day v.day)
    (λ v u m x. (
      move-source v u m x.0,
      upto-along w.serving.day v.day u.day x.1
          (day-rises v u m x.0.served),
    )) ls (z, upto-same w.serving.day)).1

pub steps-day : {w v : World} → Steps w v → v.serving.openings ≡ w.serving.openings → v.serving.day ≡ w.serving.day
steps-day none q = refl
steps-day {w} {v} (then {v = x} l ls) q =
    let a = openings-grow w.serving x.serving (line-moves l) in
    let b = openings-steps ls in
    steps-day ls (omega arith) ∙ day-stays w.serving x.serving (line-moves l) (omega arith)

-- ─── What was refused only grows ───

abbrev pub Refuses : BoxWorld → BoxWorld → Type 0
Refuses w v = Extends w.node.refused v.node.refused

pub refuses-step : (w : BoxWorld) (e : BoxEvent) → Refuses w (box_step w e)
refuses-step w e = go e
  where
    same : Refuses w w
    same = extends-same w.node.refused

    go : (e : BoxEvent) → Refuses w (box_step w e)
    go (open_exchange date ss rs) = same
    go (publish_exchange s tid content) = same
    go (login_exchange s i content out) =
        by-box (Refuses w) w (get_elem? w.node.receiving.requests i) same λ p q. same
    go (send_exchange s out) = same
    go (send_packet_exchange s out) = same
    go (open_box ss rs) = same
    go connect_box = same
    go (ask_box s content out) = same
    go (answer_box i) =
        by-box (Refuses w) w (get_elem? w.exchange.answers i) same λ p q. extends-append w.node.refused _
    go (receive_box i j) =
        by-box (Refuses w) w (get_elem? w.exchange.transmissions i) same λ m q.
        by-box (Refuses w) w (get_elem? m.packets j) same λ p z. extends-append w.node.refused _
    go (login_seat i s k content out) = by-box (Refuses w) w (get_elem? (w.ends i).requests k) same λ p q. same
    go (send_seat i s out) = same
    go (send_packet_seat i s out) = same
    go (open_end i ss) = same
    go (connect_end i) = same
    go (ask_end i s content out) = same
    go (answer_end i k) = by-box (Refuses w) w (get_elem? (w.lines i).answers k) same λ p q. same
    go (receive_end i k j) =
        by-box (Refuses w) w (get_elem? (w.lines i).transmissions k) same λ m q.
        by-box (Refuses w) w (get_elem? m.packets j) same λ p z. same

pub refuses-run : (w : BoxWorld) (es : List BoxEvent) → Refuses w (box_run w es)
refuses-run w [] = extends-same w.node.refused
refuses-run w (e ∷ es) =
    extends-along w.node.refused (box_step w e).node.refused (box_run (box_step w e) es).node.refused
    (refuses-step w e) (refuses-run (box_step w e) es)

-- None in all: none in the first step, none behind it.
pub takes-parts : (w : BoxWorld) (e : BoxEvent) (es : List BoxEvent) (s d : ℕ)
    → LogTakes w.node (box_run (box_step w e) es).node s d
    → LogTakes w.node (box_step w e).node s d
    × LogTakes (box_step w e).node (box_run (box_step w e) es).node s d
takes-parts w e es s d t =
    let a = w.node.refused in
    let b = (box_step w e).node.refused in
    let c = (box_run (box_step w e) es).node.refused in
    append-empty (of s d (since a b)) (of s d (since b c))
    (sym (of-append s d (since a b) (since b c))
    ∙ ap (of s d) (sym (since-along a b c (refuses-step w e) (refuses-run (box_step w e) es))) ∙ t)

-- ─── The steps of each line ───

pub record AboveRun (w v : BoxWorld) : Type 0 where
  pub steps : Steps (above w) (above v)
  pub spares : (s d : ℕ) → v.exchange.day ≡ Some d → LogTakes w.node v.node s d → SparesAll s d steps

pub above-run : (w : BoxWorld) → Good w → (es : List BoxEvent) → AboveRun w (box_run w es)
above-run w g [] = record { steps = none; spares = λ s d q t. tt }
above-run w g (e ∷ es) =
    let x = above_step w g.above-timely.source.begun e in
    let r = above-run (box_step w e) (good-step w g e) es in
    record {
      steps = then x.step_of r.steps;
      spares = λ s d q t.
          let p = takes-parts w e es s d t in
          let up = rises (then x.step_of r.steps) g.above-timely.source in (
            x.spares s d
                (record {
                  ahead = upto-along w.node.day.date w.exchange.day (Some d) (ahead w g) (rw q at up);
                  takes = p.0;
                }),
            r.spares s d q p.1,
          );
    }

pub record BelowRun (w v : BoxWorld) (i : ℕ) : Type 0 where
  pub steps : Steps (below w i) (below v i)
  pub spares : (s d : ℕ) → SparesAll s d steps

pub below-run : (w : BoxWorld) → Good w → (i : ℕ) → i < 16 → (es : List BoxEvent) → BelowRun w (box_run w es) i
below-run w g i f [] = record { steps = none; spares = λ s d. tt }
below-run w g i f (e ∷ es) =
    let x = below_step w g.sixteen i f e in
    let r = below-run (box_step w e) (good-step w g e) i f es in
    record { steps = then x.step_of r.steps; spares = λ s d. (x.spares s d tt, r.spares s d) }

-- ─── The second half on each line ───

module _ (o : BoxWorld) (g : Good o) (es fs : List BoxEvent) (e : BoxEvent) (s d : ℕ) (a out : List ℕ) where
  abbrev u : BoxWorld
  u = box_run o es

  abbrev v : BoxWorld
  v = box_step u e

  abbrev w : BoxWorld
  w = box_run v fs

  good-u : Good u
  good-u = good-run o g es

  good-v : Good v
  good-v = good-step u good-u e

  pub above-complete : CaughtUp (above u) (above v) (above w) s d a out → LogTakes v.node w.node s d
      → UpToDate (above w) s d
  above-complete c t =
      let r = above-run v good-v fs in
      line-complete g.above-timely g.above-safe (above-run o g es).steps
      (above_step u good-u.above-timely.source.begun e).step_of r.steps s d a out
      (r.spares s d (steps-day r.steps c.no-opening ∙ c.day) t) c

  pub below-complete : (i : ℕ) → i < 16 → CaughtUp (below u i) (below v i) (below w i) s d a out
      → UpToDate (below w i) s d
  below-complete i f c =
      let r = below-run v good-v i f fs in
      line-complete (g.below-timely i f) (g.below-safe i f) (below-run o g i f es).steps
      (below_step u good-u.sixteen i f e).step_of r.steps s d a out (r.spares s d) c
