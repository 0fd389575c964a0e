-- A seat's line: each call of the box is at most one step of it, and each event of the whole; none is turned away. What is
-- published and opened below is published and opened at each seat; other seats' calls are nothing here. Assumes nothing.
use Prim.Native.Nat.{ℕ, suc, ◌<◌}
use native.Mathlib.Omega.{arith}
use mathlib.Core.Path.{◌≡◌, refl, sym, ap, ◌∙◌, subst}
use mathlib.Core.List.{List, append-nil}
use mathlib.Core.Bool.{Bool, true, false, not}
use mathlib.Core.Option.{some}
use borrow.Author.Tests.{eqb-true, eqb-false, eq-eqb, ne_eqb, lt-ltb}
use lib.ListN.{length, get_elem?, get_or, set, length-set, get_or-replicate}
use lib.Seq.{get_or-set_same, get_or-set_other}
use lib.Dec.{eqb}
use Rattle.ftd.specs.Packet.{dated_of}
use Rattle.flow.specs.declared.sender.Seat.{Seat}
use Rattle.flow.specs.declared.sender.Sender.{Sender}
use Rattle.flow.specs.Types.{Opened}
use Rattle.flow.specs.Types.{Published}
use Rattle.flow.specs.Ends.{Left, Wrote, wrote, kept_series}
use Rattle.flow.specs.Answers.{Message}
use Rattle.flow.specs.Serving.{open_day_of, publish_of, login_of, send_of, send_packet_of}
use Rattle.flow.specs.Receiving.{confirm_login_of, receive_of}
use Rattle.flow.specs.World.{Transmission, ended_all, ReceiverSide, World, serves, series_in, after_open}
use Rattle.flow.specs.World.{after_publish, after_login, after_send, after_send_packet}
use Rattle.flow.specs.World
use Rattle.flow.proofs.calls.Serving.{OpenDone, open-refused, open-taken, open-cases}
use Rattle.relay.specs.Box.{AnswerWay, ReceiveWay, answer_way, answer_by, answer_of, receive_way, receive_by, receive_box_of}
use Rattle.relay.specs.Box.{open_box_of, connect_box_of, ask_of, login_seat_of, send_seat_of, send_packet_seat_of, server_of}
use Rattle.relay.specs.Box.{server_at, serving, no_seat, no_such_seat, reserves_of}
use Rattle.relay.specs.World.{Node, SeatLine, BoxWorld, box_of, line, below, serving_at, line_of, BoxEvent}
use Rattle.relay.specs.World.{open_exchange, publish_exchange, login_exchange, send_exchange, send_packet_exchange}
use Rattle.relay.specs.World.{open_box, connect_box, ask_box, answer_box, receive_box, login_seat, send_seat}
use Rattle.relay.specs.World.{send_packet_seat, open_end, connect_end, ask_end, answer_end, receive_end, open_node, seated}
use Rattle.relay.specs.World.{line_by, after_answer, after_relay, box_step}
use Rattle.relay.proofs.Calls.{reseated, publish-seat, publish-date, open-seat, login-end, send-end, packet-end}
use Rattle.relay.proofs.Ways.{AnswerDone, comes-late, not_taken, same-day, not_opened, opened, answer-done}
use Rattle.relay.proofs.Ways.{opening_of, ReceiveDone, hands_none, not-published, published, receive-done}
use Rattle.relay.proofs.Above.{Stepped, called, rested, by-box}
use Rattle.std.specs.Prelude.{Some, Ok}

abbrev pub Any : ℕ → ℕ → Type 0
Any s d = Unit {0}

-- ─── There are 16 seats ───

abbrev pub Sixteen : Node → Type 0
Sixteen n = length n.seats ≡ 16

module _ (n : Node) (h : Sixteen n) where
  pub sixteen-open : (ss rs : List ℕ) → Sixteen (open_node n ss rs)
  unfolding open_box_of
  sixteen-open ss rs = go (not (eqb (length rs) (length ss))) refl
    where
      go : (b : Bool) → not (eqb (length rs) (length ss)) ≡ b → Sixteen (open_node n ss rs)
      go true q = rw q h
      go false q = rw q h

  sixteen-answer : (s : ℕ) (p : List ℕ) (y : AnswerWay)
      → length (answer_by (box_of n) (confirm_login_of n.receiving.end s p) y).end.seats ≡ 16
  sixteen-answer s p AnswerWay.late = h
  sixteen-answer s p (AnswerWay.refuses x) = h
  sixteen-answer s p AnswerWay.through = h
  sixteen-answer s p (AnswerWay.opens q) = refl

  sixteen-receive : (s : ℕ) (p : List ℕ) (y : ReceiveWay)
      → length (receive_by (box_of n) s n.log n.receiving.buffer
      (receive_of n.receiving.end p n.receiving.buffer) y).end.seats ≡ 16
  sixteen-receive s p ReceiveWay.late = h
  sixteen-receive s p (ReceiveWay.refuses x) = h
  sixteen-receive s p ReceiveWay.through = h
  sixteen-receive s p (ReceiveWay.publishes m q) = h

  -- The seats behind a Login or a Send.
  set-sixteen : (i : ℕ) (x : Seat) → length (set n.seats i x) ≡ 16
  set-sixteen i x = length-set n.seats i x ∙ h

  pub sixteen-login : (i s : ℕ) (p content out : List ℕ) (b : Bool) → no_such_seat i ≡ b
      → length (login_seat_of (box_of n) i s p content out).end.seats ≡ 16
  unfolding login_seat_of
  sixteen-login i s p content out true q = rw q h
  sixteen-login i s p content out false q = rw q (set-sixteen i _)

  pub sixteen-send : (i s : ℕ) (out : List ℕ) (b : Bool) → no_such_seat i ≡ b
      → length (send_seat_of (box_of n) i s n.log out).end.seats ≡ 16
  unfolding send_seat_of
  sixteen-send i s out true q = rw q h
  sixteen-send i s out false q = rw q (set-sixteen i _)

  pub sixteen-packet : (i s : ℕ) (out : List ℕ) (b : Bool) → no_such_seat i ≡ b
      → length (send_packet_seat_of (box_of n) i s n.log out).end.seats ≡ 16
  unfolding send_packet_seat_of
  sixteen-packet i s out true q = rw q h
  sixteen-packet i s out false q = rw q (set-sixteen i _)

module _ (w : BoxWorld) (h : Sixteen w.node) where
  abbrev N : Node
  N = w.node

  abbrev Has : BoxWorld → Type 0
  Has v = Sixteen v.node

  pub sixteen-step : (e : BoxEvent) → Has (box_step w e)
  unfolding connect_box_of ask_of answer_of receive_box_of
  sixteen-step (open_exchange date ss rs) = h
  sixteen-step (publish_exchange s tid content) = h
  sixteen-step (login_exchange s i content out) = by-box Has w (get_elem? N.receiving.requests i) h λ p q. h
  sixteen-step (send_exchange s out) = h
  sixteen-step (send_packet_exchange s out) = h
  sixteen-step (open_box ss rs) = sixteen-open N h ss rs
  sixteen-step connect_box = h
  sixteen-step (ask_box s content out) = h
  sixteen-step (answer_box i) =
      by-box Has w (get_elem? w.exchange.answers i) h λ a q.
      sixteen-answer N h a.series a.what (answer_way (box_of N) a.series a.what N.log)
  sixteen-step (receive_box i j) =
      by-box Has w (get_elem? w.exchange.transmissions i) h λ m q. by-box Has w (get_elem? m.packets j) h λ p z.
      sixteen-receive N h (series_in (dated_of p).packet) p (receive_way (box_of N) p N.log N.receiving.buffer)
  sixteen-step (login_seat i s k content out) =
      by-box Has w (get_elem? (w.ends i).requests k) h λ p q. sixteen-login N h i s p content out (no_such_seat i) refl
  sixteen-step (send_seat i s out) = sixteen-send N h i s out (no_such_seat i) refl
  sixteen-step (send_packet_seat i s out) = sixteen-packet N h i s out (no_such_seat i) refl
  sixteen-step (open_end i ss) = h
  sixteen-step (connect_end i) = h
  sixteen-step (ask_end i s content out) = h
  sixteen-step (answer_end i k) = by-box Has w (get_elem? (w.lines i).answers k) h λ p q. h
  sixteen-step (receive_end i k j) =
      by-box Has w (get_elem? (w.lines i).transmissions k) h λ m q. by-box Has w (get_elem? m.packets j) h λ p z. h

-- ─── The step of seat i's line, x, with the end r at it ───

module _ (n : Node) (h : Sixteen n) (i : ℕ) (few : i < 16) (x : SeatLine) (r : ReceiverSide) where
  abbrev W : World
  W = line (serving_at n i x) r

  abbrev To : Node → SeatLine → Type 0
  To m y = Stepped W (line (serving_at m i y) r) Any

  abbrev X : Seat
  X = get_or n.seats i no_seat

  -- ─── Opening, Connect, Ask ───

  pub open-below : (ss rs : List ℕ) → To (open_node n ss rs) x
  unfolding open_box_of
  open-below ss rs = go (not (eqb (length rs) (length ss))) refl
    where
      go : (b : Bool) → not (eqb (length rs) (length ss)) ≡ b → To (open_node n ss rs) x
      go true q = rw q (rested W Any)
      go false q = rw q (rested W Any)

  -- ─── Answer: a day that is opened is opened here ───

  abbrev ss : List ℕ
  ss = kept_series n.receiving.end

  abbrev rs : List ℕ
  rs = reserves_of n.receiving.end n.reserves

  abbrev then : ℕ → List ℕ → AnswerWay → Type 0
  then s p y = To (after_answer n s p (answer_by (box_of n) (confirm_login_of n.receiving.end s p) y) y) (line_by y x)

  opened-here : (s : ℕ) (p : List ℕ) (d : ℕ) (q : Left Sender Opened)
      → OpenDone (serving (box_of n)) d ss rs n.log q
      → open_day_of (serving (box_of n)) d ss rs n.log ≡ q → q.answer ≡ (Ok tt) → then s p (AnswerWay.opens q)
  opened-here s p d q (open-refused y) e f = let z : ◌≡◌ {A = ℕ} 0 1 = cc in absurd (omega arith)
  opened-here s p d q (open-taken a b c k) e f =
      let g : open_day_of (server_of n.day X) d ss rs n.log ≡ q =
      open-seat n.day no_seat X d ss rs n.log (ap (λ (o : Left Sender Opened). o.answer) e ∙ f) ∙ e in
      called W _ _ (World.open_sender d ss rs)
      (ap (λ (o : Left Sender Opened). serves W (after_open (serving_at n i x) d o)) g
      ∙ ap
      (λ (y : Seat). serves W
      (record {
        end = server_of q.end.day y;
        log = n.log;
        day = Some d;
        openings = suc n.openings;
        published = n.published;
        answers = x.answers;
        transmissions = ended_all x.transmissions;
        messages = x.messages;
      }))
      (sym (get_or-replicate 16 i q.end.seat no_seat few)))

  answered : (s : ℕ) (p : List ℕ) (y : AnswerWay) → AnswerDone (box_of n) s p n.log y → then s p y
  answered s p y (comes-late l) = rested W Any
  answered s p y (not_taken z q) = rested W Any
  answered s p y (same-day k d q f l u) = rested W Any
  answered s p y (not_opened k d q f u z e) = rested W Any
  answered s p y (opened k d q f u e) =
      opened-here s p d (opening_of (box_of n) d n.log) (open-cases (serving (box_of n)) d ss rs n.log) refl e

  pub answer-below : (s : ℕ) (p : List ℕ) →
      let y = answer_way (box_of n) s p n.log in
      To (after_answer n s p (answer_of (box_of n) s p n.log) y) (line_by y x)
  unfolding answer_of
  answer-below s p = answered s p (answer_way (box_of n) s p n.log) (answer-done (box_of n) s p n.log)

  -- ─── Receive: what is published is published here ───

  module _ (m : Transmission) (k j : ℕ) (p : List ℕ) where
    abbrev t : ℕ
    t = series_in (dated_of p).packet

    abbrev on : ReceiveWay → Node
    on y =
        after_relay n m k j p
        (receive_by (box_of n) t n.log n.receiving.buffer
        (receive_of n.receiving.end p n.receiving.buffer) y) y

    published-here : (y : Message) (c : ℕ) (q : Wrote Sender Published)
        → publish_of (server_of n.day X) t y.tid y.content n.log ≡ reseated X q
        → q.answer ≡ Ok c → q.end.day.date ≡ n.day.date → To (on (ReceiveWay.publishes y q)) x
    published-here y c q e f g =
        called W _ _ (World.publish t y.tid y.content)
        (ap
        (λ (o : Wrote Sender Published). serves W
        (after_publish (serving_at n i x) t y.tid y.content o)) e
        ∙ rw (f, g))

    received : (y : ReceiveWay) → ReceiveDone (box_of n) p n.log n.receiving.buffer y → To (on y) x
    received y (ReceiveDone.comes-late q l) = rw (append-nil n.published) (rested W Any)
    received y (hands_none q) = rw (append-nil n.published) (rested W Any)
    received y (not-published z zs q l o e) = rw (append-nil n.published) (rested W Any)
    received y (published z zs q l c e) =
        published-here z c (publish_of (serving (box_of n)) t z.tid z.content n.log)
        (publish-seat n.day X no_seat t z.tid z.content n.log) e
        (publish-date (serving (box_of n)) t z.tid z.content n.log)

    pub receive-below : To (after_relay n m k j p (receive_box_of (box_of n) p n.log n.receiving.buffer)
        (receive_way (box_of n) p n.log n.receiving.buffer)) x
    unfolding receive_box_of
    receive-below =
        received (receive_way (box_of n) p n.log n.receiving.buffer)
        (receive-done (box_of n) p n.log n.receiving.buffer)

  -- ─── The box towards this seat ───

  seat-there : no_such_seat i ≡ false
  seat-there = rw (lt-ltb i 16 few)

  inside : i < length n.seats
  inside = rw h few

  -- The side with another end.
  abbrev with_end : Sender → SeatLine → World
  with_end e y =
      line
      (record {
        end = e;
        log = n.log;
        day = n.day.date;
        openings = n.openings;
        published = n.published;
        answers = y.answers;
        transmissions = y.transmissions;
        messages = y.messages;
      })
      r

  pub login-here : (s k : ℕ) (p content out : List ℕ) → get_elem? r.requests k ≡ some p →
      let o = login_seat_of (box_of n) i s p content out in
      To (seated n o.end)
      (line_of (after_login (serving_at n i x) s (wrote (server_at o.end i) o.answer o.bytes)))
  unfolding login_seat_of
  login-here s k p content out q =
      let o = login_of (server_of n.day X) s p content out in
      called W _ _ (World.login s k content out)
      (rw (q, seat-there, get_or-set_same n.seats i o.end.seat no_seat inside)
      (ap (λ (e : Sender). with_end e (line_of (after_login (serving_at n i x) s o)))
      (sym (login-end n.day X s p content out))))

  pub send-here : (s : ℕ) (out : List ℕ) →
      let o = send_seat_of (box_of n) i s n.log out in
      To (seated n o.end)
      (line_of (after_send (serving_at n i x) s (wrote (server_at o.end i) o.answer o.bytes)))
  unfolding send_seat_of
  send-here s out =
      let o = send_of (server_of n.day X) s n.log out in
      called W _ _ (World.send s out)
      (rw (seat-there, get_or-set_same n.seats i o.end.seat no_seat inside)
      (ap (λ (e : Sender). with_end e (line_of (after_send (serving_at n i x) s o)))
      (sym (send-end n.day X s n.log out))))

  pub packet-here : (s : ℕ) (out : List ℕ) →
      let o = send_packet_seat_of (box_of n) i s n.log out in
      To (seated n o.end)
      (line_of (after_send_packet (serving_at n i x) s (wrote (server_at o.end i) o.answer o.bytes)))
  unfolding send_packet_seat_of
  packet-here s out =
      let o = send_packet_of (server_of n.day X) s n.log out in
      called W _ _ (World.send_packet s out)
      (rw (seat-there, get_or-set_same n.seats i o.end.seat no_seat inside)
      (ap (λ (e : Sender). with_end e (line_of (after_send_packet (serving_at n i x) s o)))
      (sym (packet-end n.day X s n.log out))))

  -- ─── The box towards another seat ───

  module _ (j : ℕ) (o : i ≡ j → ⊥) where
    -- A seat that is set is not this one.
    away : (y : Seat) → get_or (set n.seats j y) i no_seat ≡ X
    away y = get_or-set_other n.seats j i y no_seat o

    pub login-away : (b : Bool) → no_such_seat j ≡ b → (s : ℕ) (p content out : List ℕ)
        → To (seated n (login_seat_of (box_of n) j s p content out).end) x
    unfolding login_seat_of
    login-away true b s p content out = rw b (rested W Any)
    login-away false b s p content out = rw (b, away _) (rested W Any)

    pub send-away : (b : Bool) → no_such_seat j ≡ b → (s : ℕ) (out : List ℕ)
        → To (seated n (send_seat_of (box_of n) j s n.log out).end) x
    unfolding send_seat_of
    send-away true b s out = rw b (rested W Any)
    send-away false b s out = rw (b, away _) (rested W Any)

    pub packet-away : (b : Bool) → no_such_seat j ≡ b → (s : ℕ) (out : List ℕ)
        → To (seated n (send_packet_seat_of (box_of n) j s n.log out).end) x
    unfolding send_packet_seat_of
    packet-away true b s out = rw b (rested W Any)
    packet-away false b s out = rw (b, away _) (rested W Any)

-- ─── Every event ───

module _ (w : BoxWorld) (h : Sixteen w.node) (i : ℕ) (few : i < 16) where
  abbrev On : BoxWorld → Type 0
  On v = Stepped (below w i) (below v i) Any

  stays : On w
  stays = rested (below w i) Any

  -- By seat: this one's, or another's.
  by-seat : (P : ℕ → Type 0) → P i → ((j : ℕ) → (i ≡ j → ⊥) → P j) → (j : ℕ) → P j
  by-seat P f g j = go (eqb i j) refl
    where
      go : (b : Bool) → eqb i j ≡ b → P j
      go true q = subst P (eqb-true i j q) f
      go false q = g j (eqb-false i j q)

  pub below_step : (e : BoxEvent) → On (box_step w e)
  unfolding connect_box_of ask_of
  below_step (open_exchange date ss rs) = rested (below w i) Any
  below_step (publish_exchange s tid content) = rested (below w i) Any
  below_step (login_exchange s k content out) =
      by-box On w (get_elem? w.node.receiving.requests k) stays λ p q. rested (below w i) Any
  below_step (send_exchange s out) = rested (below w i) Any
  below_step (send_packet_exchange s out) = rested (below w i) Any
  below_step (open_box ss rs) = open-below w.node h i few (w.lines i) (w.ends i) ss rs
  below_step connect_box = rested (below w i) Any
  below_step (ask_box s content out) = rested (below w i) Any
  below_step (answer_box k) =
      by-box On w (get_elem? w.exchange.answers k) stays λ a q.
      answer-below w.node h i few (w.lines i) (w.ends i) a.series a.what
  below_step (receive_box k j) =
      by-box On w (get_elem? w.exchange.transmissions k) stays λ m q. by-box On w (get_elem? m.packets j) stays
      λ p z. receive-below w.node h i few (w.lines i) (w.ends i) m k j p
  below_step (login_seat j s k content out) =
      by-seat (λ (j : ℕ). On (box_step w (login_seat j s k content out)))
      (by-box On w (get_elem? (w.ends i).requests k) stays λ p q.
      rw (eq-eqb i i refl) (login-here w.node h i few (w.lines i) (w.ends i) s k p content out q))
      (λ j o. by-box On w (get_elem? (w.ends j).requests k) stays λ p q.
      rw (ne_eqb i j o)
      (login-away w.node h i few (w.lines i) (w.ends i) j o (no_such_seat j) refl s p content out)) j
  below_step (send_seat j s out) =
      by-seat (λ (j : ℕ). On (box_step w (send_seat j s out)))
      (rw (eq-eqb i i refl) (send-here w.node h i few (w.lines i) (w.ends i) s out))
      (λ j o. rw (ne_eqb i j o)
      (send-away w.node h i few (w.lines i) (w.ends i) j o (no_such_seat j) refl s out)) j
  below_step (send_packet_seat j s out) =
      by-seat (λ (j : ℕ). On (box_step w (send_packet_seat j s out)))
      (rw (eq-eqb i i refl) (packet-here w.node h i few (w.lines i) (w.ends i) s out))
      (λ j o. rw (ne_eqb i j o)
      (packet-away w.node h i few (w.lines i) (w.ends i) j o (no_such_seat j) refl s out)) j
  below_step (open_end j ss) =
      by-seat (λ (j : ℕ). On (box_step w (open_end j ss)))
      (called (below w i) _ _ (World.open_receiver ss) (rw (eq-eqb i i refl)))
      (λ j o. rw (ne_eqb i j o) (rested (below w i) Any)) j
  below_step (connect_end j) =
      by-seat (λ (j : ℕ). On (box_step w (connect_end j)))
      (called (below w i) _ _ World.connect (rw (eq-eqb i i refl)))
      (λ j o. rw (ne_eqb i j o) (rested (below w i) Any)) j
  below_step (ask_end j s content out) =
      by-seat (λ (j : ℕ). On (box_step w (ask_end j s content out)))
      (called (below w i) _ _ (World.request_login s content out) (rw (eq-eqb i i refl)))
      (λ j o. rw (ne_eqb i j o) (rested (below w i) Any)) j
  below_step (answer_end j k) =
      by-seat (λ (j : ℕ). On (box_step w (answer_end j k)))
      (by-box On w (get_elem? (w.lines i).answers k) stays λ a q.
      called (below w i) _ _ (World.confirm_login k) (rw (q, eq-eqb i i refl)))
      (λ j o. by-box On w (get_elem? (w.lines j).answers k) stays λ a q.
      rw (ne_eqb i j o) (rested (below w i) Any)) j
  below_step (receive_end j k c) =
      by-seat (λ (j : ℕ). On (box_step w (receive_end j k c)))
      (by-box On w (get_elem? (w.lines i).transmissions k) stays λ m q. by-box On w (get_elem? m.packets c) stays
      λ p z. called (below w i) _ _ (World.receive k c) (rw (q, z, eq-eqb i i refl)))
      (λ j o. by-box On w (get_elem? (w.lines j).transmissions k) stays λ m q.
      by-box On w (get_elem? m.packets c) stays λ p z. rw (ne_eqb i j o) (rested (below w i) Any)) j
