-- Every event of the whole keeps the two sides of the box joined. Assumes nothing.
use Prim.Native.Nat.{ℕ}
use mathlib.Core.Path.{◌≡◌, refl, ap, ◌∙◌}
use mathlib.Core.List.{List, [], ◌∷◌, ◌++◌, map}
use mathlib.Core.Bool.{Bool, true, false, not}
use mathlib.Core.Option.{some}
use lib.ListN.{length, get_elem?}
use lib.Dec.{eqb}
use Rattle.ftd.specs.Packet.{dated_of}
use Rattle.ftd.specs.Types.{TradeDate}
use Rattle.flow.specs.declared.receiver.Receiver.{Receiver}
use Rattle.flow.specs.Ends.{before, kept_of, kept_series}
use Rattle.flow.specs.Answers.{Message, received_said, message_in}
use Rattle.flow.specs.Serving.{publish_of}
use Rattle.flow.specs.Receiving.{confirm_login_of, receive_of}
use Rattle.flow.specs.World.{Dated, dated, Transmission, SenderSide, series_in, borne}
use Rattle.flow.proofs.common.Days.{upto-test}
use Rattle.flow.proofs.calls.Serving.{open-cases}
use Rattle.flow.proofs.packets.Genuine.{AllBegun}
use Rattle.flow.proofs.steps.Turns.{connects, receives, refused, open_turn, request-turn, confirm-turn, receive-turn}
use Rattle.flow.proofs.logins.Consistent.{Consistent, Turned, turned}
use Rattle.relay.specs.State.{Box}
use Rattle.relay.specs.Box.{AnswerWay, ReceiveWay, answer_way, answer_by, answer_of, receive_way, receive_by, receive_box_of}
use Rattle.relay.specs.Box.{open_box_of, connect_box_of, ask_of, login_seat_of, send_seat_of, send_packet_seat_of, serving, no_seat}
use Rattle.relay.specs.Box.{no_such_seat, reserves_of}
use Rattle.relay.specs.World.{Node, BoxWorld, box_of, BoxEvent, open_exchange, publish_exchange, login_exchange}
use Rattle.relay.specs.World.{send_exchange, send_packet_exchange, open_box, connect_box, ask_box, answer_box, receive_box}
use Rattle.relay.specs.World.{login_seat, send_seat, send_packet_seat, open_end, connect_end, ask_end, answer_end, receive_end}
use Rattle.relay.specs.World.{seated, open_node, connect_node, ask_node, after_answer, after_relay, box_step}
use Rattle.relay.proofs.Calls.{publish-date}
use Rattle.relay.proofs.Ways.{AnswerDone, comes-late, not_taken, same-day, not_opened, opened, answer-done}
use Rattle.relay.proofs.Ways.{opening_of}
use Rattle.relay.proofs.Ways.{ReceiveDone, hands_none, not-published, published, receive-done, hands-past}
use Rattle.relay.proofs.Ways.{past-online}
use Rattle.relay.proofs.Above.{by-box, packet-of}
use Rattle.relay.proofs.Join.{DayJoin, join-turn, join-day, join-opens, refused_end, publish-series, seat-series}
use Rattle.relay.proofs.Join.{hands-one, same_kept, kept-dated}
use Rattle.std.specs.Prelude.{Some}

-- The day below fits what is kept; what was published below is what was handed on, in one order.
abbrev pub Joint : Node → Type 0
Joint n = DayJoin n.day n.receiving.end × (n.published ≡ n.receiving.handed)

one_more : (P H : List (Dated Message)) (t : ℕ) (day date kept : TradeDate) (d : ℕ) (x : Message)
    (xs ms : List Message) → P ≡ H → day ≡ Some d → date ≡ Some d → ms ≡ x ∷ xs → xs ≡ []
    → P ++ (dated t day x ∷ []) ≡ H ++ map (dated t (borne date kept)) ms
one_more P H t day date kept d x xs ms a b c e f = rw (a, b, c, e, f)

-- ─── Login and the Sends of a seat leave all but the seat ───

-- Receiving end, reserves and day.
pub record Rests (b c : Box) : Type 0 where
  pub reserves : c.reserves ≡ b.reserves
  pub day : c.day ≡ b.day

module _ (b : Box) (i s : ℕ) where
  pub login-rests : (p content out : List ℕ) (x : Bool) → no_such_seat i ≡ x
      → Rests b (login_seat_of b i s p content out).end
  unfolding login_seat_of
  login-rests p content out true q = rw q (record { reserves = refl; day = refl })
  login-rests p content out false q = rw q (record { reserves = refl; day = refl })

  pub send-rests : (log out : List ℕ) (x : Bool) → no_such_seat i ≡ x → Rests b (send_seat_of b i s log out).end
  unfolding send_seat_of
  send-rests log out true q = rw q (record { reserves = refl; day = refl })
  send-rests log out false q = rw q (record { reserves = refl; day = refl })

  pub packet-rests : (log out : List ℕ) (x : Bool) → no_such_seat i ≡ x → Rests b (send_packet_seat_of b i s log out).end
  unfolding send_packet_seat_of
  packet-rests log out true q = rw q (record { reserves = refl; day = refl })
  packet-rests log out false q = rw q (record { reserves = refl; day = refl })

-- ─── The box below a serving side v ───

module _ (v : SenderSide) (begun : AllBegun v) (n : Node) (h : Consistent n.receiving.end) (j : Joint n) where
  abbrev R : Receiver
  R = n.receiving.end

  turns : (c : Bool) (after : Receiver) → Turned n.day.date c R after → DayJoin n.day after
  turns c after t = join-turn n.day R h j.0 c after t

  -- ─── Opening, Connect, Ask; a seat's call ───

  pub opening-joint : (ss rs : List ℕ) → Joint (open_node n ss rs)
  unfolding open_box_of
  opening-joint ss rs = go (not (eqb (length rs) (length ss))) refl
    where
      go : (b : Bool) → not (eqb (length rs) (length ss)) ≡ b → Joint (open_node n ss rs)
      go true q = rw q j
      go false q = rw q (turns false _ (turned (open_turn n.day.date false R ss)), j.1)

  pub connect-joint : Joint (connect_node n)
  unfolding connect_box_of
  connect-joint = (turns true _ (turned (connects refl)), j.1)

  pub ask-joint : (s : ℕ) (content out : List ℕ) → Joint (ask_node n s content out)
  unfolding ask_of
  ask-joint s content out = (turns false _ (turned (request-turn n.day.date false R s content out)), j.1)

  pub rests-joint : (b : Box) → Rests (box_of n) b → Joint (seated n b)
  rests-joint b z = (rw z.day j.0, j.1)

  -- ─── Answer ───

  answered : (s : ℕ) (p : List ℕ) (y : AnswerWay) → AnswerDone (box_of n) s p n.log y
      → Joint (after_answer n s p (answer_by (box_of n) (confirm_login_of R s p) y) y)
  answered s p y (comes-late l) = j
  answered s p y (not_taken x q) = (rw (refused_end R s p x q) j.0, j.1)
  answered s p y (same-day k d q f l u) =
      (turns false _ (turned (confirm-turn n.day.date false R s p (rw f (upto-test d n.day.date u)))), j.1)
  answered s p y (not_opened k d q f u x e) = j
  answered s p y (opened k d q f u e) = (
    join-opens n.day R h j.0 s p k d q f u (reserves_of R n.reserves) n.log (opening_of (box_of n) d n.log)
        (open-cases (serving (box_of n)) d (kept_series R) (reserves_of R n.reserves) n.log) e,
    j.1,
  )

  pub answer-joint : (s : ℕ) (p : List ℕ)
      → Joint (after_answer n s p (answer_of (box_of n) s p n.log) (answer_way (box_of n) s p n.log))
  unfolding answer_of
  answer-joint s p = answered s p (answer_way (box_of n) s p n.log) (answer-done (box_of n) s p n.log)

  -- ─── Receive ───

  module _ (i k : ℕ) (m : Transmission) (p : List ℕ)
      (at : get_elem? v.transmissions i ≡ some m) (here : get_elem? m.packets k ≡ some p) where
    abbrev t : ℕ
    t = series_in (dated_of p).packet

    -- What is handed on is of the open day.
    pub handed-day : (x : Message) (xs : List Message)
        → message_in (received_said p (receive_of R p n.receiving.buffer).bytes
        (receive_of R p n.receiving.buffer).answer) ≡ x ∷ xs
        → before (kept_of R t).date n.day.date ≡ false
        → (d : ℕ) × ((dated_of p).date ≡ Some d) × ((kept_of R t).date ≡ Some d) × (n.day.date ≡ Some d)
    handed-day x xs q l =
        let o = hands-one R p n.receiving.buffer x xs q in
        let z = (packet-of v begun n i k m p at here).1 in
        let f = kept-dated z.0 (dated_of p).date (kept_of R t).date z.1 o.day in
        (z.0, z.1, f, same_kept z.0 (kept_of R t).date n.day.date f (j.0.behind t) l)

    received : (y : ReceiveWay) → ReceiveDone (box_of n) p n.log n.receiving.buffer y
        → Joint (after_relay n m i k p
        (receive_by (box_of n) t n.log n.receiving.buffer (receive_of R p n.receiving.buffer) y) y)
    received y (ReceiveDone.comes-late q l) =
        let o = past-online R p n.receiving.buffer q in
        (turns false _ (turned (receives t o.0 o.1 refused)), ap (λ (z : List (Dated Message)). z ++ []) j.1)
    received y (hands_none q) = (
      turns false _ (turned (receive-turn n.day.date false R p n.receiving.buffer)),
      rw q (ap (λ (z : List (Dated Message)). z ++ []) j.1),
    )
    received y (not-published x xs q l z e) =
        let o =
        past-online R p n.receiving.buffer
        (hands-past p (receive_of R p n.receiving.buffer).bytes (receive_of R p n.receiving.buffer).answer x xs
        q) in
        (turns false _ (turned (receives t o.0 o.1 refused)), ap (λ (z : List (Dated Message)). z ++ []) j.1)
    received y (published x xs q l c e) =
        let o = hands-one R p n.receiving.buffer x xs q in
        let z = handed-day x xs q l in
        let b = publish_of (serving (box_of n)) t x.tid x.content n.log in
        let R' = (receive_of R p n.receiving.buffer).end in (
          join-day n.day b.end.day R'
              (turns false R' (turned (receive-turn n.day.date false R p n.receiving.buffer)))
              (publish-date (serving (box_of n)) t x.tid x.content n.log)
              (seat-series b.end.day no_seat b.end.seat
              ∙ publish-series (serving (box_of n)) t x.tid x.content n.log),
          one_more n.published n.receiving.handed t n.day.date (dated_of p).date _ z.0 x xs _ j.1 z.3
              z.1 q o.one,
        )

    pub receive-joint : Joint (after_relay n m i k p (receive_box_of (box_of n) p n.log n.receiving.buffer)
        (receive_way (box_of n) p n.log n.receiving.buffer))
    unfolding receive_box_of
    receive-joint =
        received (receive_way (box_of n) p n.log n.receiving.buffer)
        (receive-done (box_of n) p n.log n.receiving.buffer)

-- ─── Every event ───

module _ (w : BoxWorld) (begun : AllBegun w.exchange) (h : Consistent w.node.receiving.end) (j : Joint w.node)
  where
    abbrev On : BoxWorld → Type 0
    On u = Joint u.node

    abbrev N : Node
    N = w.node

    pub joint-step : (e : BoxEvent) → On (box_step w e)
    joint-step (open_exchange date ss rs) = j
    joint-step (publish_exchange s tid content) = j
    joint-step (login_exchange s i content out) = by-box On w (get_elem? N.receiving.requests i) j λ p q. j
    joint-step (send_exchange s out) = j
    joint-step (send_packet_exchange s out) = j
    joint-step (open_box ss rs) = opening-joint w.exchange begun N h j ss rs
    joint-step connect_box = connect-joint w.exchange begun N h j
    joint-step (ask_box s content out) = ask-joint w.exchange begun N h j s content out
    joint-step (answer_box i) =
        by-box On w (get_elem? w.exchange.answers i) j λ a q.
        answer-joint w.exchange begun N h j a.series a.what
    joint-step (receive_box i k) =
        by-box On w (get_elem? w.exchange.transmissions i) j λ m q. by-box On w (get_elem? m.packets k) j λ p z.
        receive-joint w.exchange begun N h j i k m p q z
    joint-step (login_seat i s k content out) =
        by-box On w (get_elem? (w.ends i).requests k) j λ p q.
        rests-joint w.exchange begun N h j _ (login-rests (box_of N) i s p content out (no_such_seat i) refl)
    joint-step (send_seat i s out) =
        rests-joint w.exchange begun N h j _ (send-rests (box_of N) i s N.log out (no_such_seat i) refl)
    joint-step (send_packet_seat i s out) =
        rests-joint w.exchange begun N h j _ (packet-rests (box_of N) i s N.log out (no_such_seat i) refl)
    joint-step (open_end i ss) = j
    joint-step (connect_end i) = j
    joint-step (ask_end i s content out) = j
    joint-step (answer_end i k) = by-box On w (get_elem? (w.lines i).answers k) j λ p q. j
    joint-step (receive_end i k n) =
        by-box On w (get_elem? (w.lines i).transmissions k) j λ m q. by-box On w (get_elem? m.packets n) j λ p z. j
