-- The books of the day below: each series has the box's reserve, and its bytes are those of what was published of it.
-- Assumes nothing.
use Prim.Native.Nat.{ℕ, zero, suc, ◌+◌, ◌≤◌}
use native.Mathlib.Omega.{arith}
use mathlib.Core.Path.{◌≡◌, refl, sym, ap, ◌∙◌}
use mathlib.Core.List.{List, [], ◌∷◌, ◌++◌, map, append-nil}
use mathlib.Core.Bool.{Bool, true, false, cond, not, ◌||◌}
use mathlib.Core.Logic.{◌⊎◌, inl, inr}
use mathlib.Core.Option.{some}
use borrow.Author.Tests.{eqb-true, eqb-false, not-true, not-false}
use lib.ListN.{length, get_elem?, get_or, set, take, length-append, length-replicate}
use lib.Dec.{eqb, ltb}
use borrow.Author.Tests.{ltb-false}
use Rattle.ftd.specs.Packet.{dated_of}
use Rattle.ftd.specs.Types.{TradeDate}
use Rattle.flow.specs.declared.sender.Day.{Day}
use Rattle.flow.specs.declared.sender.DaySeries.{DaySeries}
use Rattle.flow.specs.declared.sender.Sender.{Sender}
use Rattle.flow.specs.Types.{Opened}
use Rattle.flow.specs.Types.{Published}
use Rattle.flow.specs.declared.receiver.Receiver.{Receiver}
use Rattle.flow.specs.Types.{Confirmed}
use Rattle.flow.specs.declared.receiver.Received.{Received}
use Rattle.flow.specs.Ends.{Left, Wrote, member, index_of, differing, wrong_series, most_series, up_to, no_series, grown_series}
use Rattle.flow.specs.Ends.{opened_series, fresh_sender, day_series, is_served, reserve_of, used_of, with_entry}
use Rattle.flow.specs.Ends.{share_of, sum_of, is_open, kept_of, kept_series, logged_in}
use Rattle.flow.specs.Answers.{Message}
use Rattle.flow.specs.Serving.{publish_of}
use Rattle.flow.specs.Receiving.{open_end_of, connect_of, confirm_login_of, receive_of, last_after}
use Rattle.flow.specs.World.{Dated, dated, Transmission, series_in}
use Rattle.flow.specs.Agreement.{of}
use Rattle.flow.proofs.common.Bools.{and_both, clash, or-neither}
use Rattle.flow.proofs.common.Histories.{of-here, of-else}
use Rattle.flow.proofs.ends.ReceiverLookups.{Eight, series-stay}
use Rattle.flow.proofs.ends.ReceiverOpened.{opened-series, connect-open}
use Rattle.flow.proofs.ends.SenderOpened.{opened-taken}
use Rattle.flow.proofs.calls.Serving.{OpenDone, open-refused, open-taken, open-cases, PublishDone, publish-refused}
use Rattle.flow.proofs.calls.Serving.{publish-taken, publish-cases}
use Rattle.flow.proofs.calls.Receiving.{Opened-as, open-as}
use Rattle.flow.proofs.calls.Receiving
use Rattle.flow.proofs.source.Histories.{of_is, messages_of}
use Rattle.flow.proofs.steps.Turns.{Turn}
use Rattle.flow.proofs.steps.Turns
use Rattle.flow.proofs.logins.Consistent.{is_link, line-turn}
use Rattle.flow.proofs.Shares.{Accounts, entry-accounts, opened-accounts}
use Rattle.relay.specs.State.{Box}
use Rattle.relay.specs.Box.{AnswerWay, ReceiveWay, answer_way, answer_by, answer_of, receive_way, receive_by, receive_box_of}
use Rattle.relay.specs.Box.{open_box_of, connect_box_of, ask_of, serving, no_such_seat, reserves_of}
use Rattle.relay.specs.Box.{reserves_by}
use Rattle.relay.specs.World.{Node, BoxWorld, box_of, start_node, BoxEvent, open_exchange}
use Rattle.relay.specs.World.{publish_exchange, login_exchange, send_exchange, send_packet_exchange, open_box, connect_box}
use Rattle.relay.specs.World.{ask_box, answer_box, receive_box, login_seat, send_seat, send_packet_seat, open_end}
use Rattle.relay.specs.World.{connect_end, ask_end, answer_end, receive_end, open_node, seated, after_answer, after_relay}
use Rattle.relay.specs.World.{box_step}
use Rattle.relay.specs.Agreement.{bytes_of, needed}
use Rattle.relay.proofs.Ways.{AnswerDone, comes-late, not_taken, same-day, not_opened, opened, answer-done}
use Rattle.relay.proofs.Ways.{opening_of, ReceiveDone, hands_none, not-published, published, receive-done}
use Rattle.relay.proofs.Above.{above_step, by-box}
use Rattle.relay.proofs.Calls.{publish-date}
use Rattle.relay.proofs.Join.{hands-one}
use Rattle.relay.proofs.Joint.{Rests, login-rests, send-rests, packet-rests, handed-day}
use Rattle.relay.proofs.Halves.{AtSeat}
use Rattle.relay.proofs.Sums.{bytes-append}
use Rattle.std.specs.Prelude.{Some, Ok}

-- ─── Series with their reserves, and what was published ───

abbrev pub Books : List DaySeries → List ℕ → ℕ → List (Dated Message) → Type 0
Books [] [] d P = Unit {0}
Books [] (r ∷ rs) d P = ⊥
Books (x ∷ xs) [] d P = ⊥
Books (x ∷ xs) (r ∷ rs) d P = (x.reserve ≡ r) × (x.used ≡ bytes_of (of x.series d P)) × Books xs rs d P

abbrev number_in : DaySeries → ℕ
number_in x = x.series

-- The shares are what the series take together.
pub books-shares : (xs : List DaySeries) (rs : List ℕ) (d : ℕ) (P : List (Dated Message)) → Books xs rs d P
    → sum_of (map share_of xs) ≡ needed (map number_in xs) rs d P
books-shares [] [] d P h = refl
books-shares [] (r ∷ rs) d P h = absurd h
books-shares (x ∷ xs) [] d P h = absurd h
books-shares (x ∷ xs) (r ∷ rs) d P h =
    let a = books-shares xs rs d P h.2 in
    rw (h.0, h.1) (omega arith)

-- Nothing is published: those of an opening.
opened-books : (ss rs : List ℕ) (d : ℕ) (P : List (Dated Message)) → length rs ≡ length ss
    → ((u : ℕ) → of u d P ≡ []) → Books (opened_series ss rs) rs d P
opened-books [] [] d P q f = tt
opened-books [] (r ∷ rs) d P q f = absurd (omega arith)
opened-books (s ∷ ss) [] d P q f = absurd (omega arith)
opened-books (s ∷ ss) (r ∷ rs) d P q f =
    (refl, sym (ap bytes_of (f s)), opened-books ss rs d P (omega arith) f)

-- One is published.
module _ (d s : ℕ) (m : Message) (P : List (Dated Message)) where
  abbrev Q : List (Dated Message)
  Q = P ++ (dated s (Some d) m ∷ [])

  abbrev size : ℕ
  size = 16 + length m.content

  here : bytes_of (of s d Q) ≡ bytes_of (of s d P) + size
  here =
      ap bytes_of (of-here s d P (m ∷ []))
      ∙ bytes-append (of s d P) (m ∷ []) ∙ omega arith

  there : (u : ℕ) → (u ≡ s → ⊥) → bytes_of (of u d Q) ≡ bytes_of (of u d P)
  there u n = ap bytes_of (of-else u s d (Some d) P (m ∷ []) n)

  others : (xs : List DaySeries) (rs : List ℕ) → member s (map number_in xs) ≡ false → Books xs rs d P → Books xs rs d Q
  others [] [] q h = tt
  others [] (r ∷ rs) q h = h
  others (x ∷ xs) [] q h = h
  others (x ∷ xs) (r ∷ rs) q h =
      let a = or-neither (eqb x.series s) (member s (map number_in xs)) q in
      (h.0, h.1 ∙ sym (there x.series (eqb-false x.series s a.0)), others xs rs a.1 h.2)

  -- At the place of series s, with its bytes and those of the entry.
  entry-books : (n : ℕ) (l : List DaySeries) (rs : List ℕ) (y : DaySeries)
      → differing (map number_in (take n l)) ≡ true → member s (map number_in (take n l)) ≡ true
      → y.series ≡ s → y.reserve ≡ (get_or l (index_of s (map number_in (take n l))) no_series).reserve
      → y.used ≡ (get_or l (index_of s (map number_in (take n l))) no_series).used + size
      → Books (take n l) rs d P → Books (take n (set l (index_of s (map number_in (take n l))) y)) rs d Q
  entry-books zero l rs y p q a b c h = clash false q refl
  entry-books (suc n) [] rs y p q a b c h = clash false q refl
  entry-books (suc n) (x ∷ l) [] y p q a b c h = absurd h
  entry-books (suc n) (x ∷ l) (r ∷ rs) y p q a b c h =
      go (eqb x.series s) refl q b c (entry-books n l rs y parts.1)
    where
      parts : (not (member x.series (map number_in (take n l))) ≡ true) × (differing (map number_in (take n l)) ≡ true)
      parts = and_both (not (member x.series (map number_in (take n l)))) (differing (map number_in (take n l))) p

      go : (e : Bool) → eqb x.series s ≡ e → (e || member s (map number_in (take n l))) ≡ true
          → y.reserve ≡ (get_or (x ∷ l) (cond e 0 (suc (index_of s (map number_in (take n l))))) no_series).reserve
          → y.used ≡ (get_or (x ∷ l) (cond e 0 (suc (index_of s (map number_in (take n l))))) no_series).used + size
          → (member s (map number_in (take n l)) ≡ true → y.series ≡ s → y.reserve ≡ (get_or l (index_of s (map number_in (take n l))) no_series).reserve
          → y.used ≡ (get_or l (index_of s (map number_in (take n l))) no_series).used + size → Books (take n l) rs d P
          → Books (take n (set l (index_of s (map number_in (take n l))) y)) rs d Q)
          → Books (take (suc n) (set (x ∷ l) (cond e 0 (suc (index_of s (map number_in (take n l))))) y)) (r ∷ rs) d Q
      go true e q b c ih =
          let f : x.series ≡ s = eqb-true x.series s e in
          let o : member s (map number_in (take n l)) ≡ false =
          rw f at (not-true (member x.series (map number_in (take n l))) parts.0) in
          let k : x.used ≡ bytes_of (of s d P) = rw f at h.1 in
          (b ∙ h.0, c ∙ (let z = here in rw a (omega arith)), others (take n l) rs o h.2)
      go false e q b c ih = (
        h.0,
        h.1 ∙ sym (there x.series (eqb-false x.series s e)),
        ih q a b c h.2,
      )

-- ─── Which series are open, and their reserves: set once ───

abbrev pub Keeps : Node → Node → Type 0
Keeps n m =
    (kept_series n.receiving.end ≡ [])
    ⊎ ((kept_series m.receiving.end ≡ kept_series n.receiving.end) × (m.reserves ≡ n.reserves))

none_kept : (e : Receiver) → e.kept.count ≡ 0 → kept_series e ≡ []
unfolding kept_series
none_kept e q = rw q

connect-series : (e : Receiver) → kept_series (connect_of e) ≡ kept_series e
unfolding connect_of kept_series
connect-series e = refl

turn-kept : (o : TradeDate) (c : Bool) (e : Receiver) → Eight e → (after : Receiver) (ms : List Message) (ks : List ℕ)
    → Turn o c e after ms ks → (kept_series e ≡ []) ⊎ (kept_series after ≡ kept_series e)
turn-kept o c e z after ms ks Turns.stays = inr refl
turn-kept o c e z after ms ks (Turns.opens ss a b) = inl (none_kept e a)
turn-kept o c e z after ms ks (Turns.connects x) = inr (connect-series e)
turn-kept o c e z after ms ks (Turns.confirms t d r b x) =
    inr (series-stay e z t r (Some d) (last_after e t (Some d)) logged_in)
turn-kept o c e z after ms ks (Turns.receives {last} {live} t r h g) =
    inr (series-stay e z t r (kept_of e t).date last live)

module _ (w : BoxWorld) (g : AtSeat w) where
  abbrev N : Node
  N = w.node

  abbrev Same : BoxWorld → Type 0
  Same v = v.node.reserves ≡ N.reserves

  answered-same : (s : ℕ) (p : List ℕ) (y : AnswerWay)
      → (answer_by (box_of N) (confirm_login_of N.receiving.end s p) y).end.reserves ≡ N.reserves
  answered-same s p AnswerWay.late = refl
  answered-same s p (AnswerWay.refuses x) = refl
  answered-same s p AnswerWay.through = refl
  answered-same s p (AnswerWay.opens q) = refl

  received-same : (s : ℕ) (p : List ℕ) (y : ReceiveWay)
      → (receive_by (box_of N) s N.log N.receiving.buffer
      (receive_of N.receiving.end p N.receiving.buffer) y).end.reserves ≡ N.reserves
  received-same s p ReceiveWay.late = refl
  received-same s p (ReceiveWay.refuses x) = refl
  received-same s p ReceiveWay.through = refl
  received-same s p (ReceiveWay.publishes m q) = refl

  -- The rest is by the line's step.
  kept : (e : BoxEvent) → (box_step w e).node.reserves ≡ N.reserves → Keeps N (box_step w e).node
  kept e q =
      let l = (above_step w g.above-timely.source.begun e).step_of in
      elim (turn-kept w.exchange.day (is_link l) N.receiving.end g.above-timely.receiving.eight
      (box_step w e).node.receiving.end _ _ (line-turn g.above-timely.source.answers l).turn) [
        | inl x ↦ inl x
        | inr x ↦ inr (x, q)
      ]

  opening-keeps : (ss rs : List ℕ) (b : Bool) → not (eqb (length rs) (length ss)) ≡ b → Keeps N (open_node N ss rs)
  unfolding open_box_of
  opening-keeps ss rs true q = rw q (inr (refl, refl))
  opening-keeps ss rs false q =
      rw q (go (open_end_of N.receiving.end ss) (open-as N.receiving.end ss))
    where
      go : (r : Left Receiver Opened) → Opened-as N.receiving.end ss r
          → (kept_series N.receiving.end ≡ [])
          ⊎ ((kept_series r.end ≡ kept_series N.receiving.end) × (reserves_by rs N.reserves r.answer ≡ N.reserves))
      go r Opened-as.refuses = inr (refl, refl)
      go r (Opened-as.opens z x) = inl (none_kept N.receiving.end z)

  pub keeps-step : (e : BoxEvent) → Keeps N (box_step w e).node
  unfolding connect_box_of ask_of answer_of receive_box_of
  keeps-step (open_exchange date ss rs) = inr (refl, refl)
  keeps-step (publish_exchange s tid content) = inr (refl, refl)
  keeps-step (login_exchange s i content out) =
      kept (login_exchange s i content out) (by-box Same w (get_elem? N.receiving.requests i) refl λ p q. refl)
  keeps-step (send_exchange s out) = inr (refl, refl)
  keeps-step (send_packet_exchange s out) = inr (refl, refl)
  keeps-step (open_box ss rs) = opening-keeps ss rs (not (eqb (length rs) (length ss))) refl
  keeps-step connect_box = kept connect_box refl
  keeps-step (ask_box s content out) = kept (ask_box s content out) refl
  keeps-step (answer_box i) =
      kept (answer_box i)
      (by-box Same w (get_elem? w.exchange.answers i) refl λ a q.
      answered-same a.series a.what (answer_way (box_of N) a.series a.what N.log))
  keeps-step (receive_box i j) =
      kept (receive_box i j)
      (by-box Same w (get_elem? w.exchange.transmissions i) refl λ m q.
      by-box Same w (get_elem? m.packets j) refl λ p z.
      received-same (series_in (dated_of p).packet) p (receive_way (box_of N) p N.log N.receiving.buffer))
  keeps-step (login_seat i s k content out) =
      kept (login_seat i s k content out)
      (by-box Same w (get_elem? (w.ends i).requests k) refl λ p q.
      (login-rests (box_of N) i s p content out (no_such_seat i) refl).reserves)
  keeps-step (send_seat i s out) =
      kept (send_seat i s out) (send-rests (box_of N) i s N.log out (no_such_seat i) refl).reserves
  keeps-step (send_packet_seat i s out) =
      kept (send_packet_seat i s out) (packet-rests (box_of N) i s N.log out (no_such_seat i) refl).reserves
  keeps-step (open_end i ss) = inr (refl, refl)
  keeps-step (connect_end i) = inr (refl, refl)
  keeps-step (ask_end i s content out) = inr (refl, refl)
  keeps-step (answer_end i k) =
      kept (answer_end i k) (by-box Same w (get_elem? (w.lines i).answers k) refl λ p q. refl)
  keeps-step (receive_end i k j) =
      kept (receive_end i k j)
      (by-box Same w (get_elem? (w.lines i).transmissions k) refl λ m q.
      by-box Same w (get_elem? m.packets j) refl λ p z. refl)

-- ─── The node's books ───

abbrev pub reserves_at : Node → List ℕ
reserves_at n = reserves_of n.receiving.end n.reserves

pub record Booked (n : Node) : Type 0 where
  pub sum : Accounts (serving (box_of n))
  pub books : (d : ℕ) → n.day.date ≡ Some d
      → Books (take n.day.count n.day.series) (reserves_at n) d n.published

none-member : (e : Receiver) (s : ℕ) → kept_series e ≡ [] → is_open e s ≡ false
unfolding is_open
none-member e s q = rw q

-- Where a day is open, series and reserves stay.
module _ (w : BoxWorld) (g : AtSeat w) (h : Booked w.node) where
  abbrev K : Node
  K = w.node

  at-day : (d : ℕ) → K.day.date ≡ Some d → (m : Node) → Keeps K m → reserves_at m ≡ reserves_at K
  at-day d q m (inl z) =
      let x = g.joint.0.someone d q in clash _ x.1 (none-member K.receiving.end x.0 z)
  at-day d q m (inr z) = rw (z.0, z.1)

  -- Day and publications as they were.
  pub along : (m : Node) → m.day ≡ K.day → m.published ≡ K.published → Keeps K m → Booked m
  along m a b k =
      record {
        sum = record { sum = rw a h.sum.sum };
        books = λ d q.
            let f : K.day.date ≡ Some d = ap (λ (D : Day). D.date) (sym a) ∙ q in
            rw (a, b, at-day d f m k) (h.books d f);
      }

  abbrev Then : BoxWorld → Type 0
  Then v = Keeps K v.node → Booked v.node

  -- ─── Answer ───

  nothing : (d : ℕ) → up_to d K.day.date ≡ false → (u : ℕ) → of u d K.published ≡ []
  nothing d q u =
      of_is u d K.published
      ∙ ap (messages_of u) (g.served.not-later d q)

  opened-booked : (s : ℕ) (p : List ℕ) (d : ℕ) → up_to d K.day.date ≡ false → (q : Left Sender Opened)
      → OpenDone (serving (box_of K)) d (kept_series K.receiving.end) (reserves_at K) K.log q → q.answer ≡ (Ok tt)
      → (m : Node) → m.day ≡ q.end.day → m.published ≡ K.published → reserves_at m ≡ reserves_at K → Booked m
  opened-booked s p d u q (open-refused x) f m a b c = let z : ◌≡◌ {A = ℕ} 0 1 = cc in absurd (omega arith)
  opened-booked s p d u q (open-taken x y z k) f m a b c =
      let ss = kept_series K.receiving.end in
      record {
        sum = record { sum = rw a (opened-accounts d ss (reserves_at K)).sum };
        books = λ o j.
            let i : o ≡ d = same_at m.day.date o d j (ap (λ (D : Day). D.date) a) in
            rw (a, b, c, i, opened-taken ss (reserves_at K))
            (opened-books ss (reserves_at K) d K.published k (nothing d u));
      }
    where
      same_at : (o : TradeDate) (a b : ℕ) → o ≡ Some a → o ≡ Some b → a ≡ b
      same_at o a b p q = cc

  confirm-series : (s : ℕ) (p : List ℕ)
      → kept_series (confirm_login_of K.receiving.end s p).end ≡ kept_series K.receiving.end
  confirm-series s p = go (confirm_login_of K.receiving.end s p) (Receiving.confirm-as K.receiving.end s p)
    where
      go : (r : Left Receiver Confirmed) → Receiving.Confirmed-as K.receiving.end s (dated_of p).date r
          → kept_series r.end ≡ kept_series K.receiving.end
      go r (Receiving.refuses x) = refl
      go r (Receiving.confirms d i o b) =
          series-stay K.receiving.end g.above-timely.receiving.eight s o (dated_of p).date _ logged_in

  answered : (s : ℕ) (p : List ℕ) (y : AnswerWay) → AnswerDone (box_of K) s p K.log y →
      let m = after_answer K s p (answer_by (box_of K) (confirm_login_of K.receiving.end s p) y) y in
      Keeps K m → Booked m
  answered s p y (comes-late l) k = along _ refl refl k
  answered s p y (not_taken x q) k = along _ refl refl k
  answered s p y (same-day n d q f l u) k = along _ refl refl k
  answered s p y (not_opened n d q f u x e) k = along _ refl refl k
  answered s p y (opened n d q f u e) k =
      opened-booked s p d u (opening_of (box_of K) d K.log)
      (open-cases (serving (box_of K)) d (kept_series K.receiving.end) (reserves_at K) K.log) e _ refl refl
      (ap (λ (l : List ℕ). take (length l) K.reserves) (confirm-series s p))

  -- ─── Receive ───

  -- With one more published.
  pub entered : (t : ℕ) (x : Message) (d : ℕ) → K.day.date ≡ Some d → is_served (serving (box_of K)) t ≡ true
      → differing (day_series (serving (box_of K))) ≡ true →
      let e = with_entry (serving (box_of K)) t (16 + length x.content) in
      Books (take e.day.count e.day.series) (reserves_at K) d (K.published ++ (dated t (Some d) x ∷ []))
  unfolding with_entry is_served day_series reserve_of used_of
  entered t x d q o f =
      entry-books d t x K.published K.day.count K.day.series (reserves_at K)
      (grown_series (serving (box_of K)) t (16 + length x.content)) f o refl refl refl (h.books d q)

  published-booked : (t : ℕ) (x : Message) (d : ℕ) → K.day.date ≡ Some d
      → differing (day_series (serving (box_of K))) ≡ true → (q : Wrote Sender Published)
      → PublishDone (serving (box_of K)) t x.tid x.content K.log q → (c : ℕ) → q.answer ≡ Ok c
      → (m : Node) → m.day ≡ q.end.day → m.published ≡ K.published ++ (dated t (Some d) x ∷ [])
      → Keeps K m → q.end.day.date ≡ K.day.date → Booked m
  published-booked t x d u i q (publish-refused z) c f m a b k o = let z : ◌≡◌ {A = ℕ} 0 1 = cc in absurd (omega arith)
  published-booked t x d u i q (publish-taken z) c f m a b k o =
      record {
        sum =
            record {
              sum = rw a (entry-accounts (serving (box_of K)) t z.served (16 + length x.content) h.sum).sum;
            };
        books = λ v j.
            let y : v ≡ d = same_at K.day.date v d (sym o ∙ ap (λ (D : Day). D.date) (sym a) ∙ j) u in
            rw (a, b, at-day d u m k, y) (entered t x d u z.served i);
      }
    where
      same_at : (o : TradeDate) (a b : ℕ) → o ≡ Some a → o ≡ Some b → a ≡ b
      same_at o a b p q = cc

-- ─── The series of the receiving end are right ───

abbrev pub RightSeries : Receiver → Type 0
RightSeries e = (s : ℕ) → is_open e s ≡ true → wrong_series (kept_series e) ≡ false

pub turn-right : (o : TradeDate) (c : Bool) (e : Receiver) → Eight e → RightSeries e → (after : Receiver)
    (ms : List Message) (ks : List ℕ) → Turn o c e after ms ks → RightSeries after
turn-right o c e z h after ms ks Turns.stays = h
turn-right o c e z h after ms ks (Turns.opens ss a b) = λ s q. rw (opened-series ss) b
turn-right o c e z h after ms ks (Turns.connects x) =
    λ s q. rw (connect-series e) (h s (sym (connect-open e s) ∙ q))
turn-right o c e z h after ms ks (Turns.confirms t d r b x) = λ s q.
    rw (series-stay e z t r (Some d) (last_after e t (Some d)) logged_in) (h t r)
turn-right o c e z h after ms ks (Turns.receives {last} {live} t r l g) = λ s q.
    rw (series-stay e z t r (kept_of e t).date last live) (h t r)

right-parts : (ss : List ℕ) → wrong_series ss ≡ false → (differing ss ≡ true) × (length ss ≤ 8)
unfolding wrong_series
right-parts ss q =
    let a = or-neither (eqb (length ss) 0 || ltb most_series (length ss) || member 0 ss) (not (differing ss)) q in
    let b = or-neither (eqb (length ss) 0 || ltb most_series (length ss)) (member 0 ss) a.0 in
    let c = or-neither (eqb (length ss) 0) (ltb most_series (length ss)) b.0 in
    (not-false (differing ss) a.1, ltb-false most_series (length ss) c.1)

pub right-differing : (ss : List ℕ) → wrong_series ss ≡ false → differing ss ≡ true
right-differing ss q = (right-parts ss q).0

pub right-few : (ss : List ℕ) → wrong_series ss ≡ false → length ss ≤ 8
right-few ss q = (right-parts ss q).1

-- ─── Every event ───

module _ (w : BoxWorld) (g : AtSeat w) (h : Booked w.node) (right : RightSeries w.node.receiving.end) where
  abbrev L : Node
  L = w.node

  abbrev After : BoxWorld → Type 0
  After v = Keeps L v.node → Booked v.node

  same : Booked L → Keeps L L → Booked L
  same b k = b

  received : (i j : ℕ) (m : Transmission) (p : List ℕ) → get_elem? w.exchange.transmissions i ≡ some m
      → get_elem? m.packets j ≡ some p → (y : ReceiveWay) → ReceiveDone (box_of L) p L.log L.receiving.buffer y →
      let v = after_relay L m i j p
      (receive_by (box_of L) (series_in (dated_of p).packet) L.log L.receiving.buffer
      (receive_of L.receiving.end p L.receiving.buffer) y) y in
      Keeps L v → Booked v
  received i j m p at here y (ReceiveDone.comes-late q l) k = along w g h _ refl (append-nil L.published) k
  received i j m p at here y (hands_none q) k = along w g h _ refl (append-nil L.published) k
  received i j m p at here y (not-published x xs q l z e) k = along w g h _ refl (append-nil L.published) k
  received i j m p at here y (published x xs q l c e) k =
      let t = series_in (dated_of p).packet in
      let z =
      handed-day w.exchange g.above-timely.source.begun L g.above-timely.receiving g.joint i j m p at here
      x xs q l in
      let o = (hands-one L.receiving.end p L.receiving.buffer x xs q).opens in
      let s = g.joint.0.series z.0 z.3 in
      published-booked w g h t x z.0 z.3 (rw s (right-differing _ (right t o)))
      (publish_of (serving (box_of L)) t x.tid x.content L.log)
      (publish-cases (serving (box_of L)) t x.tid x.content L.log) c e _ refl
      (ap (λ (u : TradeDate). L.published ++ (dated t u x ∷ [])) z.3) k
      (publish-date (serving (box_of L)) t x.tid x.content L.log)

  reopened : (ss rs : List ℕ) (b : Bool) → not (eqb (length rs) (length ss)) ≡ b → Keeps L (open_node L ss rs)
      → Booked (open_node L ss rs)
  unfolding open_box_of
  reopened ss rs true q = rw q (along w g h _ refl refl)
  reopened ss rs false q = rw q (along w g h _ refl refl)

  rested : (b : Box) → Rests (box_of L) b → Keeps L (seated L b) → Booked (seated L b)
  rested b z = along w g h _ z.day refl

  booked : (e : BoxEvent) → After (box_step w e)
  unfolding connect_box_of ask_of answer_of receive_box_of
  booked (open_exchange date ss rs) = same h
  booked (publish_exchange s tid content) = same h
  booked (login_exchange s i content out) =
      by-box After w (get_elem? L.receiving.requests i) (same h) λ p q. same h
  booked (send_exchange s out) = same h
  booked (send_packet_exchange s out) = same h
  booked (open_box ss rs) = reopened ss rs (not (eqb (length rs) (length ss))) refl
  booked connect_box = along w g h _ refl refl
  booked (ask_box s content out) = along w g h _ refl refl
  booked (answer_box i) =
      by-box After w (get_elem? w.exchange.answers i) (same h) λ a q.
      answered w g h a.series a.what (answer_way (box_of L) a.series a.what L.log)
      (answer-done (box_of L) a.series a.what L.log)
  booked (receive_box i j) =
      by-box After w (get_elem? w.exchange.transmissions i) (same h) λ m q.
      by-box After w (get_elem? m.packets j) (same h) λ p z.
      received i j m p q z (receive_way (box_of L) p L.log L.receiving.buffer)
      (receive-done (box_of L) p L.log L.receiving.buffer)
  booked (login_seat i s k content out) =
      by-box After w (get_elem? (w.ends i).requests k) (same h) λ p q.
      rested _ (login-rests (box_of L) i s p content out (no_such_seat i) refl)
  booked (send_seat i s out) = rested _ (send-rests (box_of L) i s L.log out (no_such_seat i) refl)
  booked (send_packet_seat i s out) = rested _ (packet-rests (box_of L) i s L.log out (no_such_seat i) refl)
  booked (open_end i ss) = same h
  booked (connect_end i) = same h
  booked (ask_end i s content out) = same h
  booked (answer_end i k) = by-box After w (get_elem? (w.lines i).answers k) (same h) λ p q. same h
  booked (receive_end i k j) =
      by-box After w (get_elem? (w.lines i).transmissions k) (same h) λ m q.
      by-box After w (get_elem? m.packets j) (same h) λ p z. same h

  pub booked-step : (e : BoxEvent) → Booked (box_step w e).node
  booked-step e = booked e (keeps-step w g e)

pub start-booked : (buffer log : List ℕ) → Booked (start_node buffer log)
unfolding start_node fresh_sender
start-booked buffer log =
    record {
      sum = record { sum = refl };
      books = λ d q. let z : ◌≡◌ {A = ℕ} 0 1 = cc in absurd (omega arith);
    }

-- ─── There are 8 reserves ───

abbrev pub EightReserves : Node → Type 0
EightReserves n = length n.reserves ≡ 8

opening-eight : (n : Node) → EightReserves n → (ss rs : List ℕ) (b : Bool) → not (eqb (length rs) (length ss)) ≡ b
    → EightReserves (open_node n ss rs)
unfolding open_box_of
opening-eight n h ss rs true q = rw q h
opening-eight n h ss rs false q =
    rw q (go (open_end_of n.receiving.end ss) (open-as n.receiving.end ss))
  where
    go : (r : Left Receiver Opened) → Opened-as n.receiving.end ss r
        → length (reserves_by rs n.reserves r.answer) ≡ 8
    go r Opened-as.refuses = h
    go r (Opened-as.opens z x) =
        let a = right-few ss x in
        let b = eqb-true (length rs) (length ss) (not-false (eqb (length rs) (length ss)) q) in
        simp (length-append, length-replicate) (omega arith)

pub eight-step : (w : BoxWorld) → EightReserves w.node → (e : BoxEvent) → EightReserves (box_step w e).node
unfolding connect_box_of ask_of answer_of receive_box_of
eight-step w h (open_exchange date ss rs) = h
eight-step w h (publish_exchange s tid content) = h
eight-step w h (login_exchange s i content out) =
    by-box (λ (v : BoxWorld). EightReserves v.node) w (get_elem? w.node.receiving.requests i) h λ p q. h
eight-step w h (send_exchange s out) = h
eight-step w h (send_packet_exchange s out) = h
eight-step w h (open_box ss rs) = opening-eight w.node h ss rs (not (eqb (length rs) (length ss))) refl
eight-step w h connect_box = h
eight-step w h (ask_box s content out) = h
eight-step w h (answer_box i) =
    by-box (λ (v : BoxWorld). EightReserves v.node) w (get_elem? w.exchange.answers i) h λ a q.
    go (answer_way (box_of w.node) a.series a.what w.node.log)
    (confirm_login_of w.node.receiving.end a.series a.what)
  where
    go : (y : AnswerWay) (r : Left Receiver Confirmed) → length (answer_by (box_of w.node) r y).end.reserves ≡ 8
    go AnswerWay.late r = h
    go (AnswerWay.refuses x) r = h
    go AnswerWay.through r = h
    go (AnswerWay.opens q) r = h
eight-step w h (receive_box i j) =
    by-box (λ (v : BoxWorld). EightReserves v.node) w (get_elem? w.exchange.transmissions i) h λ m q.
    by-box (λ (v : BoxWorld). EightReserves v.node) w (get_elem? m.packets j) h λ p z.
    go (series_in (dated_of p).packet) (receive_way (box_of w.node) p w.node.log w.node.receiving.buffer)
    (receive_of w.node.receiving.end p w.node.receiving.buffer)
  where
    go : (s : ℕ) (y : ReceiveWay) (r : Wrote Receiver Received)
        → length (receive_by (box_of w.node) s w.node.log w.node.receiving.buffer r y).end.reserves ≡ 8
    go s ReceiveWay.late r = h
    go s (ReceiveWay.refuses x) r = h
    go s ReceiveWay.through r = h
    go s (ReceiveWay.publishes m q) r = h
eight-step w h (login_seat i s k content out) =
    by-box (λ (v : BoxWorld). EightReserves v.node) w (get_elem? (w.ends i).requests k) h λ p q.
    rw (login-rests (box_of w.node) i s p content out (no_such_seat i) refl).reserves h
eight-step w h (send_seat i s out) =
    rw (send-rests (box_of w.node) i s w.node.log out (no_such_seat i) refl).reserves h
eight-step w h (send_packet_seat i s out) =
    rw (packet-rests (box_of w.node) i s w.node.log out (no_such_seat i) refl).reserves h
eight-step w h (open_end i ss) = h
eight-step w h (connect_end i) = h
eight-step w h (ask_end i s content out) = h
eight-step w h (answer_end i k) =
    by-box (λ (v : BoxWorld). EightReserves v.node) w (get_elem? (w.lines i).answers k) h λ p q. h
eight-step w h (receive_end i k j) =
    by-box (λ (v : BoxWorld). EightReserves v.node) w (get_elem? (w.lines i).transmissions k) h λ m q.
    by-box (λ (v : BoxWorld). EightReserves v.node) w (get_elem? m.packets j) h λ p z. h
