-- The line from above: each call of the box is at most one step of it, and each event of the whole; what the box refuses
-- beyond its receiving end is turned away. Assumes nothing.
use Prim.Native.Nat.{ℕ, suc}
use native.Mathlib.Omega.{arith}
use mathlib.Core.Path.{◌≡◌, refl, sym, ap, ◌∙◌, subst}
use mathlib.Core.List.{List, [], ◌∷◌}
use mathlib.Core.Bool.{Bool, true, false, not, ◌||◌}
use mathlib.Core.Option.{Option, none, some}
use borrow.Author.Tests.{ltb-true, eq-eqb}
use lib.ListN.{length, get_elem?}
use lib.Dec.{eqb}
use Rattle.ftd.specs.Packet.{dated_of}
use Rattle.ftd.specs.declared.refusal.Refusal.{Refusal}
use Rattle.ftd.specs.declared.refusal.Refusal.TheVariants.{Opening, OtherDay}
use Rattle.ftd.specs.Types.{TradeDate}
use Rattle.flow.specs.Types.{Opened}
use Rattle.flow.specs.declared.receiver.Receiver.{Receiver}
use Rattle.flow.specs.Ends.{Left, left, before, wrong_series}
use Rattle.flow.specs.Receiving.{open_end_of, confirm_login_of, receive_of}
use Rattle.flow.specs.World.{InSeries, dated, Transmission, SenderSide, World, series_in, step, after_reopen}
use Rattle.flow.specs.World
use Rattle.flow.specs.Agreement.{of, since}
use Rattle.flow.proofs.common.Bools.{clash}
use Rattle.flow.proofs.common.Days.{Upto}
use Rattle.flow.proofs.common.Extends.{place_kept}
use Rattle.flow.proofs.common.Lists.{every-at, since-is}
use Rattle.flow.proofs.packets.Genuine.{BegunIn, AllBegun}
use Rattle.flow.proofs.pieces.Takes.{PacketAt, take-series, take-date}
use Rattle.flow.proofs.lines.Steps.{LineStep, calls, rests, turns-answer, turns-receive, Spares}
use Rattle.relay.specs.Box.{AnswerWay, ReceiveWay, answer_way, answer_by, answer_of, receive_way, receive_by, receive_box_of}
use Rattle.relay.specs.Box.{open_box_of, connect_box_of, ask_of}
use Rattle.relay.specs.World.{Node, BoxWorld, box_of, line, above, BoxEvent, open_exchange, publish_exchange}
use Rattle.relay.specs.World.{login_exchange, send_exchange, send_packet_exchange, open_box, connect_box, ask_box}
use Rattle.relay.specs.World.{answer_box, receive_box, login_seat, send_seat, send_packet_seat, open_end, connect_end}
use Rattle.relay.specs.World.{ask_end, answer_end, receive_end, open_node, connect_node, ask_node, after_answer, after_relay}
use Rattle.relay.specs.World.{with_box, box_step}
use Rattle.relay.proofs.Ways.{AnswerDone, comes-late, not_taken, same-day, not_opened, opened, answer-done}
use Rattle.relay.proofs.Ways.{ReceiveDone, hands_none, not-published, published, receive-done, hands-past}
use Rattle.relay.proofs.Ways.{past-online}
use Rattle.std.specs.Prelude.{Some, None, Err}

-- ─── A step of a line, and what it spares ───

pub record Stepped (w v : World) (C : ℕ → ℕ → Type 0) : Type 0 where
  pub step_of : LineStep w v
  pub spares : (s d : ℕ) → C s d → Spares s d step_of

pub called : (w v : World) (C : ℕ → ℕ → Type 0) (e : World.Event) → step w e ≡ v → Stepped w v C
called w v C e q =
    subst (λ (u : World). Stepped w u C) q (record { step_of = calls e; spares = λ s d c. tt })

pub rested : (w : World) (C : ℕ → ℕ → Type 0) → Stepped w w C
rested w C = record { step_of = rests; spares = λ s d c. tt }

-- What is at a place goes on; where nothing is, the whole stays.
pub by-box : {A : Type 0} (P : BoxWorld → Type 0) (w : BoxWorld) (o : Option A) {f : A → BoxWorld} → P w
    → ((x : A) → o ≡ some x → P (f x)) → P (with_box w o f)
by-box P w none h k = h
by-box P w (some x) h k = k x refl

-- ─── When it spares series s and day d ───

-- The box's day is not above d, and no message of series s and day d was turned away by publishing.
pub record Fair (n m : Node) (s d : ℕ) : Type 0 where
  pub ahead : Upto n.day.date (Some d)
  pub takes : of s d (since n.refused m.refused) ≡ []

not-before : (d : ℕ) (o : TradeDate) → Upto o (Some d) → before (Some d) o ≡ true → ⊥
not-before d None u q = clash false q refl
not-before d (Some c) u q = let l = ltb-true d c q in omega arith

one-there : (s d : ℕ) (x : Refusal) → of s d (dated s (Some d) x ∷ []) ≡ [] → ⊥
one-there s d x q =
    let f : of s d (dated s (Some d) x ∷ []) ≡ x ∷ [] = rw (eq-eqb s s refl, eq-eqb d d refl) in
    let g : x ∷ [] ≡ [] = sym f ∙ q in
    let z : ◌≡◌ {A = ℕ} 0 1 = cc in
    omega arith

-- An opening without series is refused.
pub no-opening : (e : Receiver) → open_end_of e [] ≡ left e (Err Opening)
unfolding open_end_of wrong_series
no-opening e = rw (either (not (eqb e.kept.count 0)))
  where
    either : (b : Bool) → (b || true) ≡ true
    either true = refl
    either false = refl

-- ─── The box below a serving side v ───

module _ (v : SenderSide) (begun : AllBegun v) (n : Node) where
  abbrev W : World
  W = line v n.receiving

  abbrev To : Node → Type 0
  To m = Stepped W (line v m.receiving) (Fair n m)

  -- ─── Opening, Connect, Ask ───

  pub opening-step : (ss rs : List ℕ) → To (open_node n ss rs)
  unfolding open_box_of
  opening-step ss rs = go (not (eqb (length rs) (length ss))) refl
    where
      go : (b : Bool) → not (eqb (length rs) (length ss)) ≡ b → To (open_node n ss rs)
      go true q =
          called W _ _ (World.open_receiver [])
          (rw q
          (ap (λ (r : Left Receiver Opened). line v (after_reopen n.receiving r)) (no-opening n.receiving.end)))
      go false q = called W _ _ (World.open_receiver ss) (rw q)

  pub connect-step : To (connect_node n)
  unfolding connect_box_of
  connect-step = called W _ _ World.connect refl

  pub ask-step : (s : ℕ) (content out : List ℕ) → To (ask_node n s content out)
  unfolding ask_of
  ask-step s content out = called W _ _ (World.request_login s content out) refl

  -- ─── Answer ───

  module _ (i : ℕ) (a : InSeries (List ℕ)) (at : get_elem? v.answers i ≡ some a) where
    abbrev s : ℕ
    s = a.series

    abbrev p : List ℕ
    p = a.what

    answered : (y : AnswerWay) → AnswerDone (box_of n) s p n.log y
        → To (after_answer n s p (answer_by (box_of n) (confirm_login_of n.receiving.end s p) y) y)
    answered y (comes-late l) =
        record {
          step_of = turns-answer i a at OtherDay;
          spares = λ t d c f g. not-before d n.day.date c.ahead (rw g at l);
        }
    answered y (not_taken x q) = called W _ _ (World.confirm_login i) (rw at)
    answered y (same-day k d q f l u) = called W _ _ (World.confirm_login i) (rw at)
    answered y (not_opened k d q f u x e) =
        record {
          step_of = turns-answer i a at x;
          spares = λ t d c f g.
              one-there t d x
              (rw (f, g) at (ap (of t d) (sym (since-is n.refused _ _ refl)) ∙ c.takes));
        }
    answered y (opened k d q f u e) = called W _ _ (World.confirm_login i) (rw at)

    pub answer-step : To (after_answer n s p (answer_of (box_of n) s p n.log) (answer_way (box_of n) s p n.log))
    unfolding answer_of
    answer-step = answered (answer_way (box_of n) s p n.log) (answer-done (box_of n) s p n.log)

  -- ─── Receive ───

  module _ (i j : ℕ) (m : Transmission) (p : List ℕ) (at : get_elem? v.transmissions i ≡ some m)
      (here : get_elem? m.packets j ≡ some p) where
    abbrev t : ℕ
    t = series_in (dated_of p).packet

    -- The packet is of the transmission's series, and of a day.
    pub packet-of : (t ≡ m.series) × ((d : ℕ) × ((dated_of p).date ≡ Some d))
    packet-of =
        let g = every-at (BegunIn v.published) v.transmissions i m begun at in
        let a : PacketAt m.series g.what.tid (suc g.place) g.day g.what.content j p =
        record { good = g.good; here = place_kept m.packets _ g.packets j p here } in
        (take-series a, (g.day, take-date a))

    received : (y : ReceiveWay) → ReceiveDone (box_of n) p n.log n.receiving.buffer y
        → To (after_relay n m i j p
        (receive_by (box_of n) t n.log n.receiving.buffer
        (receive_of n.receiving.end p n.receiving.buffer) y) y)
    received y (ReceiveDone.comes-late q l) =
        let o = past-online n.receiving.end p n.receiving.buffer q in
        record {
          step_of = turns-receive i j m p at here o.0 o.1 OtherDay;
          spares = λ s d c f g. not-before d n.day.date c.ahead (rw (packet-of.0 ∙ f, g) at l);
        }
    received y (hands_none q) = called W _ _ (World.receive i j) (rw (at, here))
    received y (not-published x xs q l z e) =
        let o =
        past-online n.receiving.end p n.receiving.buffer
        (hands-past p (receive_of n.receiving.end p n.receiving.buffer).bytes
        (receive_of n.receiving.end p n.receiving.buffer).answer x xs q) in
        record {
          step_of = turns-receive i j m p at here o.0 o.1 z;
          spares = λ s d c f g.
              one-there s d z
              (rw (packet-of.0 ∙ f, g) at (ap (of s d) (sym (since-is n.refused _ _ refl)) ∙ c.takes));
        }
    received y (published x xs q l k e) = called W _ _ (World.receive i j) (rw (at, here))

    pub receive-step : To (after_relay n m i j p (receive_box_of (box_of n) p n.log n.receiving.buffer)
        (receive_way (box_of n) p n.log n.receiving.buffer))
    unfolding receive_box_of
    receive-step =
        received (receive_way (box_of n) p n.log n.receiving.buffer)
        (receive-done (box_of n) p n.log n.receiving.buffer)

-- ─── Every event ───

module _ (w : BoxWorld) (begun : AllBegun w.exchange) where
  abbrev On : BoxWorld → Type 0
  On u = Stepped (above w) (above u) (Fair w.node u.node)

  stays : On w
  stays = rested (above w) _

  pub above_step : (e : BoxEvent) → On (box_step w e)
  above_step (open_exchange date ss rs) = called (above w) _ _ (World.open_sender date ss rs) refl
  above_step (publish_exchange s tid content) = called (above w) _ _ (World.publish s tid content) refl
  above_step (login_exchange s i content out) =
      by-box On w (get_elem? w.node.receiving.requests i) stays λ p q.
      called (above w) _ _ (World.login s i content out) (rw q)
  above_step (send_exchange s out) = called (above w) _ _ (World.send s out) refl
  above_step (send_packet_exchange s out) = called (above w) _ _ (World.send_packet s out) refl
  above_step (open_box ss rs) = opening-step w.exchange begun w.node ss rs
  above_step connect_box = connect-step w.exchange begun w.node
  above_step (ask_box s content out) = ask-step w.exchange begun w.node s content out
  above_step (answer_box i) =
      by-box On w (get_elem? w.exchange.answers i) stays λ a q. answer-step w.exchange begun w.node i a q
  above_step (receive_box i j) =
      by-box On w (get_elem? w.exchange.transmissions i) stays λ m q. by-box On w (get_elem? m.packets j) stays
      λ p h. receive-step w.exchange begun w.node i j m p q h
  above_step (login_seat i s k content out) =
      by-box On w (get_elem? (w.ends i).requests k) stays λ p q. rested (above w) _
  above_step (send_seat i s out) = rested (above w) _
  above_step (send_packet_seat i s out) = rested (above w) _
  above_step (open_end i ss) = rested (above w) _
  above_step (connect_end i) = rested (above w) _
  above_step (ask_end i s content out) = rested (above w) _
  above_step (answer_end i k) = by-box On w (get_elem? (w.lines i).answers k) stays λ p q. rested (above w) _
  above_step (receive_end i k j) =
      by-box On w (get_elem? (w.lines i).transmissions k) stays λ m q. by-box On w (get_elem? m.packets j) stays
      λ p h. rested (above w) _
