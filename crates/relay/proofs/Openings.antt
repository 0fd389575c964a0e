-- What opens a day below and what publishes there, of each event in any state. Assumes nothing.
use Prim.Native.Nat.{ℕ, zero, suc, ◌<◌}
use native.Mathlib.Omega.{arith}
use mathlib.Core.Path.{◌≡◌, refl, sym, ap, ◌∙◌}
use mathlib.Core.List.{List, [], ◌∷◌, map}
use mathlib.Core.Bool.{Bool, true, false, not, ◌&&◌, ◌||◌}
use mathlib.Core.Option.{some}
use borrow.Author.Tests.{lt-ltb, le-ltb, leb-false}
use lib.ListN.{length, get_elem?, get_or, replicate}
use lib.Dec.{eqb}
use Rattle.ftd.specs.Packet.{dated_of}
use Rattle.ftd.specs.declared.refusal.Refusal.TheVariants.{Opening}
use Rattle.ftd.specs.Types.{TradeDate}
use Rattle.flow.specs.declared.sender.Day.{Day}
use Rattle.flow.specs.declared.sender.DaySeries.{DaySeries}
use Rattle.flow.specs.declared.sender.Seat.{Seat}
use Rattle.flow.specs.declared.sender.Sender.{Sender}
use Rattle.flow.specs.Types.{Opened}
use Rattle.flow.specs.declared.receiver.Receiver.{Receiver}
use Rattle.flow.specs.Types.{Confirmed}
use Rattle.flow.specs.Ends.{◌when◌else◌, Left, before, up_to, wrong_series, opened_series, fresh_sender, day_series, published_of, place_of}
use Rattle.flow.specs.Ends.{kept_series, sum_of}
use Rattle.flow.specs.Answers.{is_taken, confirmed_said}
use Rattle.flow.specs.Serving.{open_day_of, publish_of}
use Rattle.flow.specs.Receiving.{confirm_login_of, receive_of}
use Rattle.flow.specs.Shares.{reserves}
use Rattle.flow.specs.World.{InSeries, Transmission, series_in}
use Rattle.flow.proofs.common.Bools.{clash}
use Rattle.flow.proofs.calls.Serving.{OpenDone, open-refused, open-taken, open-cases}
use Rattle.flow.proofs.ends.SenderOpened.{opened_sender, opened-series, opened-published, opened-place, opened-taken}
use Rattle.relay.specs.State.{Box, most_seats}
use Rattle.relay.specs.Box.{AnswerWay, ReceiveWay, answer_way, answer_by, answer_of, receive_way, receive_by, receive_box_of}
use Rattle.relay.specs.Box.{open_box_of, connect_box_of, ask_of, server_of, serving, no_seat, no_such_seat}
use Rattle.relay.specs.Box.{reserves_of, confirm_past, opening_way, taken_way, confirmed_way}
use Rattle.relay.specs.World.{Node, BoxWorld, box_of, BoxEvent, open_exchange, publish_exchange}
use Rattle.relay.specs.World.{login_exchange, send_exchange, send_packet_exchange, open_box, connect_box, ask_box}
use Rattle.relay.specs.World.{answer_box, receive_box, login_seat, send_seat, send_packet_seat, open_end, connect_end}
use Rattle.relay.specs.World.{ask_end, answer_end, receive_end, seated, open_node, after_answer, line_by, after_relay}
use Rattle.relay.specs.World.{box_step}
use Rattle.relay.specs.Agreement.{OpenedBelow, SameDay, is_answer, is_receive, Openings}
use Rattle.relay.proofs.Calls.{publish-date}
use Rattle.relay.proofs.Ways.{AnswerDone, comes-late, not_taken, same-day, not_opened, opened, answer-done}
use Rattle.relay.proofs.Ways.{opening_of, ReceiveDone, hands_none, not-published, published, receive-done}
use Rattle.relay.proofs.Above.{by-box}
use Rattle.relay.proofs.Join.{seat-series, publish-series, refused_end}
use Rattle.relay.proofs.Joint.{Rests, login-rests, send-rests, packet-rests}
use Rattle.std.specs.Prelude.{Some, None, Ok, Err}

-- ─── A day that was opened ───

all_same : {A : Type 0} (n i : ℕ) (x : A) → get_or (replicate n x) i x ≡ x
all_same zero i x = refl
all_same (suc n) zero x = refl
all_same (suc n) (suc i) x = all_same n i x

same-dates : (o : TradeDate) (a b : ℕ) → o ≡ Some a → o ≡ Some b → a ≡ b
same-dates o a b p q = cc

-- Counts and places are those of the day with its seat.
seat-published : (D : Day) (X Y : Seat) (s : ℕ) → published_of (server_of D X) s ≡ published_of (server_of D Y) s
unfolding published_of day_series
seat-published D X Y s = refl

-- The seat of an opening is a fresh one's.
fresh-seat : (d : ℕ) (ss rs : List ℕ) → (opened_sender d ss rs).seat ≡ no_seat
unfolding fresh_sender
fresh-seat d ss rs = refl

-- The reserves of an opening are those given.
given : (ss rs : List ℕ) → length rs ≡ length ss → map (λ (x : DaySeries). x.reserve) (opened_series ss rs) ≡ rs
given [] [] q = refl
given [] (r ∷ rs) q = absurd (omega arith)
given (s ∷ ss) [] q = absurd (omega arith)
given (s ∷ ss) (r ∷ rs) q = ap (λ (l : List ℕ). r ∷ l) (given ss rs (omega arith))

pub opened-reserves : (d : ℕ) (ss rs : List ℕ) → length rs ≡ length ss → reserves (opened_sender d ss rs) ≡ rs
opened-reserves d ss rs q =
    ap (map (λ (x : DaySeries). x.reserve)) (opened-taken ss rs) ∙ given ss rs q

module _ (w : BoxWorld) (s : ℕ) (p : List ℕ) where
  abbrev N : Node
  N = w.node

  abbrev ss : List ℕ
  ss = kept_series N.receiving.end

  abbrev rs : List ℕ
  rs = reserves_of N.receiving.end N.reserves

  -- The whole behind it.
  abbrev after : AnswerWay → BoxWorld
  after y =
      record {
        exchange = w.exchange;
        node = after_answer N s p (answer_by (box_of N) (confirm_login_of N.receiving.end s p) y) y;
        lines = λ i. line_by y (w.lines i);
        ends = w.ends;
      }

  abbrev said : AnswerWay → Confirmed
  said y = (answer_by (box_of N) (confirm_login_of N.receiving.end s p) y).answer

  opened-day : (d : ℕ) (q : Left Sender Opened) → OpenDone (serving (box_of N)) d ss rs N.log q
      → q.answer ≡ (Ok tt) → OpenedBelow w (after (AnswerWay.opens q)) d
  opened-day d q (open-refused x) f = let z : ◌≡◌ {A = ℕ} 0 1 = cc in absurd (omega arith)
  opened-day d q (open-taken a b c k) f =
      let day = q.end.day in
      record {
        day = refl;
        series = seat-series day no_seat q.end.seat ∙ opened-series d ss rs;
        shares = opened-reserves d ss rs k;
        empty = λ t. seat-published day no_seat q.end.seat t ∙ opened-published d ss rs t;
        used = refl;
        places = λ i t.
            ap (λ (x : Seat). place_of (server_of day (get_or (replicate most_seats x) i no_seat)) t) (fresh-seat d ss rs)
            ∙ ap (λ (x : Seat). place_of (server_of day x) t) (all_same most_seats i no_seat ∙ sym (fresh-seat d ss rs))
            ∙ opened-place d ss rs t;
        counted = omega arith;
        broken = λ i. refl;
      }

  answer-opens : (d : ℕ) → (dated_of p).date ≡ Some d → up_to d N.day.date ≡ false → (y : AnswerWay)
      → AnswerDone (box_of N) s p N.log y → is_taken (confirmed_said (said y)) ≡ true → OpenedBelow w (after y) d
  answer-opens d f u y (comes-late l) t = clash false t refl
  answer-opens d f u y (not_taken x q) t = clash false (rw q at t) refl
  answer-opens d f u y (same-day n c q g l z) t =
      clash (up_to d N.day.date) (rw (same-dates (dated_of p).date c d g f) at z) u
  answer-opens d f u y (not_opened n c q g z x e) t = clash false t refl
  answer-opens d f u y (opened n c q g z e) t =
      rw (same-dates (dated_of p).date d c f g)
      (opened-day c (opening_of (box_of N) c N.log) (open-cases (serving (box_of N)) c ss rs N.log) e)

  answer_keeps : (d : ℕ) → (dated_of p).date ≡ Some d → up_to d N.day.date ≡ true → (y : AnswerWay)
      → AnswerDone (box_of N) s p N.log y → SameDay N (after y).node
  answer_keeps d f u y (comes-late l) = record { day = refl; series = refl; counted = refl }
  answer_keeps d f u y (not_taken x q) = record { day = refl; series = refl; counted = refl }
  answer_keeps d f u y (same-day n c q g l z) = record { day = refl; series = refl; counted = refl }
  answer_keeps d f u y (not_opened n c q g z x e) = record { day = refl; series = refl; counted = refl }
  answer_keeps d f u y (opened n c q g z e) =
      clash (up_to d N.day.date) u (rw (same-dates (dated_of p).date c d g f) at z)

  answer-refuses : (y : AnswerWay) → AnswerDone (box_of N) s p N.log y → is_taken (confirmed_said (said y)) ≡ false
      → (box_of (after y).node ≡ box_of N) × ((i : ℕ) → (after y).lines i ≡ w.lines i)
  answer-refuses y (comes-late l) t = (refl, λ i. refl)
  answer-refuses y (not_taken x q) t = (rw (refused_end N.receiving.end s p x q), λ i. refl)
  answer-refuses y (same-day n c q g l z) t = clash true refl (rw q at t)
  answer-refuses y (not_opened n c q g z x e) t = (refl, λ i. refl)
  answer-refuses y (opened n c q g z e) t = clash true refl (rw q at t)

-- ─── 11: the opening that the reserves forbid ───

not_late : (d : ℕ) (o : TradeDate) → up_to d o ≡ false → before (Some d) o ≡ false
not_late d None q = refl
not_late d (Some e) q = le-ltb d e (let l = leb-false d e q in omega arith)

some_or : (b : Bool) → (b || true) ≡ true
some_or true = refl
some_or false = refl

forbids : (b : Box) (s : ℕ) (p log : List ℕ) (n d : ℕ) → (confirm_login_of b.receiver s p).answer ≡ Ok n
    → (dated_of p).date ≡ Some d → up_to d b.day.date ≡ false
    → length log < sum_of (reserves_of b.receiver b.reserves)
    → (answer_of b s p log).answer ≡ Err Opening
unfolding answer_of answer_way open_day_of
forbids b s p log n d q f u l =
    rw (
      q,
      f,
      not_late d b.day.date u,
      u,
      lt-ltb (length log) (sum_of (reserves_of b.receiver b.reserves)) l,
      some_or (not (eqb (length (reserves_of b.receiver b.reserves)) (length (kept_series b.receiver)))),
      some_or (wrong_series (kept_series b.receiver) || false),
    )

-- The log's length alone counts.
module _ (log more : List ℕ) (q : length log ≡ length more) where
  open-length : (e : Sender) (d : ℕ) (ss rs : List ℕ) → open_day_of e d ss rs log ≡ open_day_of e d ss rs more
  unfolding open_day_of
  open-length e d ss rs = rw q

  taken-length : (e : Receiver) (rs : List ℕ) (day : Day) (date : TradeDate)
      → taken_way e rs day log date ≡ taken_way e rs day more date
  taken-length e rs day None = refl
  taken-length e rs day (Some d) =
      ap (λ (o : Left Sender Opened). AnswerWay.through when up_to d day.date else opening_way o o.answer)
      (open-length (server_of day no_seat) d (kept_series e) (reserves_of e rs))

  confirmed-length : (e : Receiver) (rs : List ℕ) (day : Day) (date : TradeDate) (a : Confirmed)
      → confirmed_way e rs day log date a ≡ confirmed_way e rs day more date a
  confirmed-length e rs day date (Ok n) = taken-length e rs day date
  confirmed-length e rs day date (Err x) = refl

  way-length : (b : Box) (s : ℕ) (p : List ℕ) → answer_way b s p log ≡ answer_way b s p more
  unfolding answer_way
  way-length b s p =
      let r = confirm_login_of b.receiver s p in
      ap (λ (y : AnswerWay). AnswerWay.late when confirm_past r.answer && before (dated_of p).date b.day.date else y)
      (confirmed-length b.receiver b.reserves b.day (dated_of p).date r.answer)

  same_length : (b : Box) (s : ℕ) (p : List ℕ) → answer_of b s p log ≡ answer_of b s p more
  unfolding answer_of
  same_length b s p = ap (answer_by b (confirm_login_of b.receiver s p)) (way-length b s p)

-- ─── Every other event ───

module _ (w : BoxWorld) where
  abbrev M : Node
  M = w.node

  abbrev Same : BoxWorld → Type 0
  Same v = SameDay M v.node

  still : SameDay M M
  still = record { day = refl; series = refl; counted = refl }

  received : (t : Transmission) (i j : ℕ) (p : List ℕ) (y : ReceiveWay)
      → ReceiveDone (box_of M) p M.log M.receiving.buffer y
      → SameDay M (after_relay M t i j p
      (receive_by (box_of M) (series_in (dated_of p).packet) M.log M.receiving.buffer
      (receive_of M.receiving.end p M.receiving.buffer) y) y)
  received t i j p y (ReceiveDone.comes-late q l) = record { day = refl; series = refl; counted = refl }
  received t i j p y (hands_none q) = record { day = refl; series = refl; counted = refl }
  received t i j p y (not-published x xs q l z e) = record { day = refl; series = refl; counted = refl }
  received t i j p y (published x xs q l n e) =
      let s = series_in (dated_of p).packet in
      let b = publish_of (serving (box_of M)) s x.tid x.content M.log in
      record {
        day = publish-date (serving (box_of M)) s x.tid x.content M.log;
        series =
            seat-series b.end.day no_seat b.end.seat
            ∙ publish-series (serving (box_of M)) s x.tid x.content M.log;
        counted = refl;
      }

  reopened : (ss rs : List ℕ) (b : Bool) → not (eqb (length rs) (length ss)) ≡ b → SameDay M (open_node M ss rs)
  unfolding open_box_of
  reopened ss rs true q = rw q (record { day = refl; series = refl; counted = refl })
  reopened ss rs false q = rw q (record { day = refl; series = refl; counted = refl })

  rested : (b : Box) → Rests (box_of M) b → SameDay M (seated M b)
  rested b z =
      record {
        day = ap (λ (D : Day). D.date) z.day;
        series = ap (λ (D : Day). day_series (server_of D no_seat)) z.day;
        counted = refl;
      }

  only-answers : (e : BoxEvent) → is_answer e ≡ false → SameDay M (box_step w e).node
  unfolding connect_box_of ask_of receive_box_of
  only-answers (open_exchange date ss rs) q = still
  only-answers (publish_exchange s tid content) q = still
  only-answers (login_exchange s i content out) q =
      by-box Same w (get_elem? M.receiving.requests i) still λ p z. still
  only-answers (send_exchange s out) q = still
  only-answers (send_packet_exchange s out) q = still
  only-answers (open_box ss rs) q = reopened ss rs (not (eqb (length rs) (length ss))) refl
  only-answers connect_box q = record { day = refl; series = refl; counted = refl }
  only-answers (ask_box s content out) q = record { day = refl; series = refl; counted = refl }
  only-answers (answer_box i) q = clash true refl q
  only-answers (receive_box i j) q =
      by-box Same w (get_elem? w.exchange.transmissions i) still λ m z.
      by-box Same w (get_elem? m.packets j) still λ p f.
      received m i j p (receive_way (box_of M) p M.log M.receiving.buffer)
      (receive-done (box_of M) p M.log M.receiving.buffer)
  only-answers (login_seat i s k content out) q =
      by-box Same w (get_elem? (w.ends i).requests k) still λ p z.
      rested _ (login-rests (box_of M) i s p content out (no_such_seat i) refl)
  only-answers (send_seat i s out) q = rested _ (send-rests (box_of M) i s M.log out (no_such_seat i) refl)
  only-answers (send_packet_seat i s out) q = rested _ (packet-rests (box_of M) i s M.log out (no_such_seat i) refl)
  only-answers (open_end i ss) q = still
  only-answers (connect_end i) q = still
  only-answers (ask_end i s content out) q = still
  only-answers (answer_end i k) q = by-box Same w (get_elem? (w.lines i).answers k) still λ p z. still
  only-answers (receive_end i k j) q =
      by-box Same w (get_elem? (w.lines i).transmissions k) still λ m z.
      by-box Same w (get_elem? m.packets j) still λ p f. still

  abbrev Quiet : BoxWorld → Type 0
  Quiet v = v.node.published ≡ M.published

  only-receives : (e : BoxEvent) → is_receive e ≡ false → (box_step w e).node.published ≡ M.published
  only-receives (open_exchange date ss rs) q = refl
  only-receives (publish_exchange s tid content) q = refl
  only-receives (login_exchange s i content out) q =
      by-box Quiet w (get_elem? M.receiving.requests i) refl λ p z. refl
  only-receives (send_exchange s out) q = refl
  only-receives (send_packet_exchange s out) q = refl
  only-receives (open_box ss rs) q = refl
  only-receives connect_box q = refl
  only-receives (ask_box s content out) q = refl
  only-receives (answer_box i) q = by-box Quiet w (get_elem? w.exchange.answers i) refl λ p z. refl
  only-receives (receive_box i j) q = clash true refl q
  only-receives (login_seat i s k content out) q = by-box Quiet w (get_elem? (w.ends i).requests k) refl λ p z. refl
  only-receives (send_seat i s out) q = refl
  only-receives (send_packet_seat i s out) q = refl
  only-receives (open_end i ss) q = refl
  only-receives (connect_end i) q = refl
  only-receives (ask_end i s content out) q = refl
  only-receives (answer_end i k) q = by-box Quiet w (get_elem? (w.lines i).answers k) refl λ p z. refl
  only-receives (receive_end i k j) q =
      by-box Quiet w (get_elem? (w.lines i).transmissions k) refl λ m z.
      by-box Quiet w (get_elem? m.packets j) refl λ p f. refl

  -- ─── The answer at a place ───

  module _ (k : ℕ) (a : InSeries (List ℕ)) (at : get_elem? w.exchange.answers k ≡ some a) where
    abbrev way : AnswerWay
    way = answer_way (box_of M) a.series a.what M.log

    is : box_step w (answer_box k) ≡ after w a.series a.what way
    unfolding answer_of
    is = rw at

    said-is : (answer_of (box_of M) a.series a.what M.log).answer ≡ said w a.series a.what way
    unfolding answer_of
    said-is = refl

    done : AnswerDone (box_of M) a.series a.what M.log way
    done = answer-done (box_of M) a.series a.what M.log

pub openings : Openings
openings =
    record {
      opens = λ w k a d at f t u.
          rw (is w k a at)
          (answer-opens w a.series a.what d f u (way w k a at) (done w k a at) (rw (said-is w k a at) at t));
      keeps = λ w k a d at f u.
          rw (is w k a at) (answer_keeps w a.series a.what d f u (way w k a at) (done w k a at));
      refuses = λ w k a at t.
          rw (is w k a at)
          (answer-refuses w a.series a.what (way w k a at) (done w k a at) (rw (said-is w k a at) at t));
      forbids = forbids;
      length-only = λ b s p log more q. same_length log more q b s p;
      only-answers = only-answers;
      only-receives = only-receives;
    }
