-- A log that holds what the box's series take of what the exchange published of a day takes each message of that day, and
-- its opening. Assumes nothing.
use Prim.Native.Nat.{ℕ, zero, suc, ◌+◌, ◌-◌, ◌<◌, ◌≤◌, min}
use native.Mathlib.Omega.{arith}
use mathlib.Core.Path.{◌≡◌, refl, sym, ap, ◌∙◌, subst}
use mathlib.Core.List.{List, [], ◌∷◌, ◌++◌, map, append-nil}
use mathlib.Core.Bool.{Bool, true, false, cond, ◌&&◌}
use mathlib.Core.Logic.{inl, inr}
use mathlib.Core.Option.{some}
use borrow.Author.Tests.{le-ltb, lt-leb, leb-false, eq-eqb}
use lib.ListN.{length, take, get_elem?, length-take}
use lib.Dec.{eqb}
use Rattle.ftd.specs.Packet.{dated_of}
use Rattle.ftd.specs.Fields.{shaped, most_content}
use Rattle.ftd.specs.Items.{wrong_width, wrong_item}
use Rattle.ftd.specs.Composition.{composed}
use Rattle.ftd.proofs.bytes.Put.{length-put}
use Rattle.ftd.specs.declared.composition.Direction.TheVariants.{Down}
use Rattle.ftd.specs.declared.refusal.Refusal.{Refusal}
use Rattle.ftd.specs.Types.{TradeDate}
use Rattle.flow.specs.declared.sender.Sender.{Sender}
use Rattle.flow.specs.Types.{Published}
use Rattle.flow.specs.declared.receiver.Receiver.{Receiver}
use Rattle.flow.specs.Types.{Confirmed}
use Rattle.flow.specs.Ends.{Left, Wrote, most_messages, wrong_series, up_to, is_served, is_open, kept_of, kept_series, day_series}
use Rattle.flow.specs.Ends.{published_of, with_entry, shares_of, sum_of, before, is_day, fresh_receiver}
use Rattle.flow.specs.Log.{entry_bytes, log_short, entry_fits}
use Rattle.flow.specs.Answers.{Message, received_said, message_in}
use Rattle.flow.specs.Serving.{open_day_of, publish_of}
use Rattle.flow.specs.Receiving.{confirm_login_of, receive_of}
use Rattle.flow.specs.World.{Dated, dated, Transmission, SenderSide, World, receives, after_receive, series_in, borne}
use Rattle.flow.specs.World.{latest_of, start, step}
use Rattle.flow.specs.World
use Rattle.flow.specs.Agreement.{of, since, reported}
use Rattle.flow.proofs.common.Bools.{clash}
use Rattle.flow.proofs.common.Lists.{Every, every_append, since-is, since-along}
use Rattle.flow.proofs.common.Days.{day-is}
use Rattle.flow.proofs.calls.Serving.{PublishDone, publish-refused, publish-taken, publish-cases}
use Rattle.flow.proofs.calls.Receiving.{Confirmed-as, refuses, confirms, confirm-as}
use Rattle.flow.proofs.common.Histories.{of-here, of-append}
use Rattle.flow.proofs.ends.SenderLookups.{series-entry}
use Rattle.flow.proofs.source.Logs.{entry_length}
use Rattle.flow.proofs.source.Moves
use Rattle.flow.proofs.source.Moves.{Move}
use Rattle.flow.proofs.source.Growth.{move-grows}
use Rattle.flow.proofs.logins.Consistent.{is_link, line-turn}
use Rattle.flow.proofs.lines.Steps.{LineStep, calls}
use Rattle.flow.proofs.lines.Moves.{line-moves}
use Rattle.flow.proofs.first.Half.{SafeWorld, line-safe, safe-agreed}
use Rattle.flow.proofs.Shares.{accounts-least, entry-accounts, used-day}
use Rattle.relay.specs.Box.{AnswerWay, ReceiveWay, answer_way, answer_by, answer_of, receive_way, receive_by, receive_box_of}
use Rattle.relay.specs.Box.{serving, no_seat}
use Rattle.relay.specs.World.{Lent, Node, BoxWorld, box_of, above, start_node, start_box, BoxEvent, open_exchange}
use Rattle.relay.specs.World.{publish_exchange, login_exchange, send_exchange, send_packet_exchange, open_box, connect_box}
use Rattle.relay.specs.World.{ask_box, answer_box, receive_box, login_seat, send_seat, send_packet_seat, open_end}
use Rattle.relay.specs.World.{connect_end, ask_end, answer_end, receive_end, after_answer, after_relay, box_step, box_run}
use Rattle.relay.specs.Agreement.{LogTakes, needed, needed_by}
use Rattle.relay.proofs.Ways.{AnswerDone, comes-late, not_taken, same-day, not_opened, opened, answer-done}
use Rattle.relay.proofs.Ways.{ReceiveDone, hands_none, not-published, published, receive-done}
use Rattle.relay.proofs.Above.{above_step, by-box}
use Rattle.relay.proofs.Join.{hands-one}
use Rattle.relay.proofs.Joint.{handed-day}
use Rattle.relay.proofs.Halves.{Good, AtSeat, first-seat, good-step, good-run, good_start, refuses-step, refuses-run}
use Rattle.relay.proofs.Numbers.{served-open, seat-last}
use Rattle.relay.proofs.Sums.{needed-starts, needed-more, reserves-needed}
use Rattle.relay.proofs.Books.{Books, books-shares, Booked, booked-step, start-booked, reserves_at, entered, RightSeries}
use Rattle.relay.proofs.Books.{turn-right, right-differing, right-few, Keeps, keeps-step, EightReserves, eight-step}
use Rattle.std.specs.Prelude.{Some, None, Ok, Err}

-- ─── What passes Publish's checks is published ───

pub record Checks (m : Message) : Type 0 where
  pub shape : shaped m.content most_content ≡ true
  pub widths : wrong_width m.content ≡ false
  pub items : wrong_item m.content ≡ false
  pub counts : composed m.tid Down m.content ≡ true

publish-passes : (e : Sender) (s : ℕ) (m : Message) (log : List ℕ) → Checks m → is_served e s ≡ true
    → e.day.used + (16 + length m.content) ≤ length log
    → shares_of (with_entry e s (16 + length m.content)) ≤ length log → published_of e s < most_messages
    → (publish_of e s m.tid m.content log).answer ≡ Ok (published_of e s + 1)
unfolding publish_of log_short entry_fits
publish-passes e s m log c q f h n =
    rw (
      c.shape,
      c.widths,
      c.items,
      c.counts,
      q,
      le-ltb (length log) e.day.used (omega arith),
      le-ltb (length log - e.day.used) (16 + length m.content) (omega arith),
      le-ltb (length log) (shares_of (with_entry e s (16 + length m.content))) h,
      lt-leb most_messages (published_of e s) n,
    )

-- ─── What the exchange published passed them ───

abbrev pub Checked : SenderSide → Type 0
Checked v = Every (λ (y : Dated Message). Checks y.what) v.published

pub move-checked : (v u : SenderSide) → Move v u → Checked v → Checked u
move-checked v u Moves.stays h = h
move-checked v u (Moves.opens date ss rs a b) h = h
move-checked v u (Moves.publishes s tid content t) h =
    every_append (λ (y : Dated Message). Checks y.what) v.published _ h
    (record { shape = t.run; widths = t.widths; items = t.items; counts = t.counts }, tt)
move-checked v u (Moves.logs-in s p content out x y c g t) h = h
move-checked v u (Moves.sends s x a b c) h = h
move-checked v u (Moves.sends-packet s x a b c d) h = h

every_of : (u d : ℕ) (l : List (Dated Message)) → Every (λ (y : Dated Message). Checks y.what) l
    → Every Checks (of u d l)
every_of u d [] h = tt
every_of u d (y ∷ l) h = go (eqb y.series u && is_day_of) (every_of u d l h.1)
  where
    is_day_of : Bool
    is_day_of = is_day d y.day

    go : (b : Bool) → Every Checks (of u d l) → Every Checks (cond b (y.what ∷ of u d l) (of u d l))
    go true k = (h.0, k)
    go false k = k

every_take : (n : ℕ) (l : List Message) → Every Checks l → Every Checks (take n l)
every_take zero l h = tt
every_take (suc n) [] h = tt
every_take (suc n) (m ∷ l) h = (h.0, every_take n l h.1)

every-last : (l : List Message) (m : Message) → Every Checks (l ++ (m ∷ [])) → Checks m
every-last [] m h = h.0
every-last (x ∷ l) m h = every-last l m h.1

-- ─── A message of the day is published, if the log is long enough ───

handed-one : (H : List (Dated Message)) (t : ℕ) (date kept : TradeDate) (d : ℕ) (x : Message) (xs ms : List Message)
    → date ≡ Some d → ms ≡ x ∷ xs → xs ≡ []
    → H ++ map (dated t (borne date kept)) ms ≡ H ++ (dated t (Some d) x ∷ [])
handed-one H t date kept d x xs ms a b c = rw (a, b, c)

same_at : (o : TradeDate) (a b : ℕ) → o ≡ Some a → o ≡ Some b → a ≡ b
same_at o a b p q = cc

-- The shares behind an entry, by the node's books.
entry-shares : (e : Sender) (rs : List ℕ) (d : ℕ) (P : List (Dated Message)) → (ss : List ℕ) → day_series e ≡ ss
    → Books (take e.day.count e.day.series) rs d P → shares_of e ≡ needed ss rs d P
unfolding shares_of day_series
entry-shares e rs d P ss q h =
    books-shares (take e.day.count e.day.series) rs d P h ∙ ap (λ (l : List ℕ). needed l rs d P) q

module _ (w : BoxWorld) (g : AtSeat w) (right : RightSeries w.node.receiving.end) (checked : Checked w.exchange)
    (booked : Booked w.node) where
  abbrev N : Node
  N = w.node

  abbrev R : Receiver
  R = N.receiving.end

  abbrev ss : List ℕ
  ss = kept_series R

  module _ (i j : ℕ) (m : Transmission) (p : List ℕ) (at : get_elem? w.exchange.transmissions i ≡ some m)
      (here : get_elem? m.packets j ≡ some p)
      (x : Message) (xs : List Message)
      (q : message_in (received_said p (receive_of R p N.receiving.buffer).bytes
      (receive_of R p N.receiving.buffer).answer) ≡ x ∷ xs)
      (l : before (kept_of R (series_in (dated_of p).packet)).date N.day.date ≡ false)
      (d : ℕ) (kept : (kept_of R (series_in (dated_of p).packet)).date ≡ Some d)
      (room : needed_by N d w.exchange.published ≤ length N.log)
    where
      abbrev t : ℕ
      t = series_in (dated_of p).packet

      -- The receiving end alone would hand it on.
      abbrev own : World
      own =
          receives (above w)
          (after_receive N.receiving m i j p (receive_of R p N.receiving.buffer))

      step_is : step (above w) (World.receive i j) ≡ own
      step_is = rw (at, here)

      own-safe : SafeWorld own
      own-safe =
          subst SafeWorld step_is
          (line-safe {w = above w} (calls (World.receive i j)) g.above-timely.source.begun g.above-safe)

      facts : ((dated_of p).date ≡ Some d) × (N.day.date ≡ Some d)
      facts =
          let z =
          handed-day w.exchange g.above-timely.source.begun N g.above-timely.receiving g.joint i j m p at
          here x xs q l in
          let f = same_at (kept_of R t).date z.0 d z.2 kept in
          (rw (← f) z.1, rw (← f) z.3)

      abbrev H : List (Dated Message)
      H = N.receiving.handed ++ (dated t (Some d) x ∷ [])

      handed-is : own.receiving.handed ≡ H
      handed-is =
          handed-one N.receiving.handed t (dated_of p).date (latest_of t None N.receiving.days) d x xs _
          facts.0 q (hands-one R p N.receiving.buffer x xs q).one

      starts : (u : ℕ) → (n : ℕ) × (of u d H ≡ take n (of u d w.exchange.published))
      starts u =
          let a = safe-agreed own u d own-safe in (reported own u d, ap (of u d) (sym handed-is) ∙ a.first)

      checks : Checks x
      checks =
          let z = starts t in
          let f : take z.0 (of t d w.exchange.published) ≡ of t d N.receiving.handed ++ (x ∷ []) =
          sym z.1 ∙ of-here t d N.receiving.handed (x ∷ []) in
          every-last (of t d N.receiving.handed) x
          (subst (Every Checks) f
          (every_take z.0 (of t d w.exchange.published) (every_of t d w.exchange.published checked)))

      o : is_open R t ≡ true
      o = (hands-one R p N.receiving.buffer x xs q).opens

      series : day_series (serving (box_of N)) ≡ ss
      series = g.joint.0.series d facts.1

      served : is_served (serving (box_of N)) t ≡ true
      served = served-open N.day no_seat R t series ∙ o

      -- The end behind the entry.
      abbrev E : Sender
      E = with_entry (serving (box_of N)) t (16 + length x.content)

      shares : shares_of E ≤ length N.log
      shares =
          let a =
          entry-shares E (reserves_at N) d (N.published ++ (dated t (Some d) x ∷ [])) ss
          (series-entry (serving (box_of N)) t served _ ∙ series)
          (entered w g booked t x d facts.1 served (rw series (right-differing ss (right t o)))) in
          let b : needed ss (reserves_at N) d (N.published ++ (dated t (Some d) x ∷ [])) ≡ needed ss (reserves_at N) d H =
          ap (λ (P : List (Dated Message)). needed ss (reserves_at N) d (P ++ (dated t (Some d) x ∷ []))) g.joint.1 in
          let c = needed-starts d ss (reserves_at N) H w.exchange.published starts in
          omega arith

      fits : N.day.used + (16 + length x.content) ≤ length N.log
      fits =
          let a = accounts-least E (entry-accounts (serving (box_of N)) t served _ booked.sum) in
          let b = used-day (serving (box_of N)) t served (16 + length x.content) in
          let c = shares in
          omega arith

      few : published_of (serving (box_of N)) t < most_messages
      few =
          let a = seat-last w g t d served o kept facts.1 in
          let b = (hands-one R p N.receiving.buffer x xs q).few in
          omega arith

      pub never-refused : (z : Refusal)
          → (publish_of (serving (box_of N)) t x.tid x.content N.log).answer ≡ Err z → ⊥
      never-refused z e =
          let a = publish-passes (serving (box_of N)) t x N.log checks served fits shares few in
          other-answer z _ (sym e ∙ a)
        where
          other-answer : (z : Refusal) (k : ℕ) → Err z ≡ Ok k → ⊥
          other-answer z k q = let y : ◌≡◌ {A = ℕ} 0 1 = cc in omega arith

-- ─── An opening below is never refused ───

open-passes : (e : Sender) (d : ℕ) (ss rs log : List ℕ) → wrong_series ss ≡ false → up_to d e.day.date ≡ false
    → length rs ≡ length ss → sum_of rs ≤ length log → (open_day_of e d ss rs log).answer ≡ (Ok (tt {0}))
unfolding open_day_of
open-passes e d ss rs log a b c f =
    rw (a, b, eq-eqb (length rs) (length ss) c, le-ltb (length log) (sum_of rs) f)

-- There is one for each series.
reserves-each : (n : Node) → EightReserves n → wrong_series (kept_series n.receiving.end) ≡ false
    → length (reserves_at n) ≡ length (kept_series n.receiving.end)
reserves-each n h q =
    let a = right-few (kept_series n.receiving.end) q in
    let b : length (reserves_at n) ≡ min (length (kept_series n.receiving.end)) (length n.reserves) =
    length-take (length (kept_series n.receiving.end)) n.reserves in
    omega arith

taken-open : (e : Receiver) (s : ℕ) (p : List ℕ) (n : ℕ) → (confirm_login_of e s p).answer ≡ Ok n → is_open e s ≡ true
taken-open e s p n q = go (confirm_login_of e s p) (confirm-as e s p) q
  where
    go : (r : Left Receiver Confirmed) → Confirmed-as e s (dated_of p).date r → r.answer ≡ Ok n → is_open e s ≡ true
    go r (refuses x) q = let z : ◌≡◌ {A = ℕ} 0 1 = cc in absurd (omega arith)
    go r (confirms d i o b) q = o

other-opening : (x : Refusal) → Err x ≡ (Ok (tt {0})) → ⊥
other-opening x q = let z : ◌≡◌ {A = ℕ} 0 1 = cc in omega arith

-- An answer that the receiving end takes is taken, if the reserves are within the log's length.
module _ (m : Node) (right : RightSeries m.receiving.end) (eight : EightReserves m) (s : ℕ) (p log : List ℕ) (n d : ℕ)
    (taken : (confirm_login_of m.receiving.end s p).answer ≡ Ok n) (date : (dated_of p).date ≡ Some d)
    (up : up_to d m.day.date ≡ false)
    (room : sum_of (reserves_at m) ≤ length log)
  where
    not_late : (o : TradeDate) → up_to d o ≡ false → before (Some d) o ≡ false
    not_late None q = refl
    not_late (Some e) q = le-ltb d e (let l = leb-false d e q in omega arith)

    way-admits : (y : AnswerWay) → AnswerDone (box_of m) s p log y
        → (answer_by (box_of m) (confirm_login_of m.receiving.end s p) y).answer ≡ Ok n
    way-admits y (comes-late l) =
        clash (before (Some d) m.day.date) (rw date at l) (not_late m.day.date up)
    way-admits y (not_taken x q) = taken
    way-admits y (same-day k c q f l u) = taken
    way-admits y (not_opened k c q f u x e) =
        let z = right s (taken-open m.receiving.end s p n taken) in
        absurd (other-opening x
        (sym e ∙ open-passes (serving (box_of m)) c (kept_series m.receiving.end) (reserves_at m) log z u
        (reserves-each m eight z) room))
    way-admits y (opened k c q f u e) = taken

    pub admits : (answer_of (box_of m) s p log).answer ≡ Ok n
    unfolding answer_of
    admits = way-admits (answer_way (box_of m) s p log) (answer-done (box_of m) s p log)

-- ─── Each event ───

module _ (s d : ℕ) where
  pub no_more : (a b : List (Dated Refusal)) → b ≡ a → of s d (since a b) ≡ []
  no_more a b q = ap (of s d) (since-is a b [] (q ∙ sym (append-nil a)))

  none_of : (t : ℕ) (o : TradeDate) (z : Refusal) → (o ≡ Some d → ⊥) → of s d (dated t o z ∷ []) ≡ []
  none_of t o z n = go (eqb t s) (is_day d o) refl
    where
      go : (a b : Bool) → is_day d o ≡ b → cond (a && b) (z ∷ []) [] ≡ []
      go true true q = absurd (n (day-is d o q))
      go true false q = refl
      go false b q = refl

  module _ (w : BoxWorld) (g : AtSeat w) (right : RightSeries w.node.receiving.end) (checked : Checked w.exchange)
      (booked : Booked w.node) (eight : EightReserves w.node)
      (room : needed_by w.node d w.exchange.published ≤ length w.node.log) where
    abbrev M : Node
    M = w.node

    abbrev None-new : BoxWorld → Type 0
    None-new v = LogTakes M v.node s d

    same : (r : List (Dated Refusal)) → r ≡ M.refused → of s d (since M.refused r) ≡ []
    same r q = no_more M.refused r q

    answered : (t : ℕ) (p : List ℕ) (y : AnswerWay) → AnswerDone (box_of M) t p M.log y
        → LogTakes M (after_answer M t p (answer_by (box_of M) (confirm_login_of M.receiving.end t p) y) y) s d
    answered t p y (comes-late l) = same _ (append-nil M.refused)
    answered t p y (not_taken x q) = same _ (append-nil M.refused)
    answered t p y (same-day n c q f l u) = same _ (append-nil M.refused)
    answered t p y (not_opened n c q f u x e) =
        let ss = kept_series M.receiving.end in
        let z = right t (taken-open M.receiving.end t p n q) in
        let k = reserves-each M eight z in
        let a = reserves-needed d ss (reserves_at M) w.exchange.published k in
        absurd (other-opening x
        (sym e ∙ open-passes (serving (box_of M)) c ss (reserves_at M) M.log z u k (omega arith)))
    answered t p y (opened n c q f u e) = same _ (append-nil M.refused)

    received : (i j : ℕ) (m : Transmission) (p : List ℕ) → get_elem? w.exchange.transmissions i ≡ some m
        → get_elem? m.packets j ≡ some p
        → (y : ReceiveWay) → ReceiveDone (box_of M) p M.log M.receiving.buffer y
        → LogTakes M (after_relay M m i j p
        (receive_by (box_of M) (series_in (dated_of p).packet) M.log M.receiving.buffer
        (receive_of M.receiving.end p M.receiving.buffer) y) y) s d
    received i j m p at here y (ReceiveDone.comes-late q l) = same _ (append-nil M.refused)
    received i j m p at here y (hands_none q) = same _ (append-nil M.refused)
    received i j m p at here y (not-published x xs q l z e) =
        ap (of s d) (since-is M.refused _ _ refl)
        ∙ none_of (series_in (dated_of p).packet) (kept_of M.receiving.end (series_in (dated_of p).packet)).date z
        (λ k. never-refused w g right checked booked i j m p at here x xs q l d k room z e)
    received i j m p at here y (published x xs q l n e) = same _ (append-nil M.refused)

    pub takes_step : (e : BoxEvent) → LogTakes M (box_step w e).node s d
    unfolding answer_of receive_box_of
    takes_step (open_exchange date xs rs) = same _ refl
    takes_step (publish_exchange t tid content) = same _ refl
    takes_step (login_exchange t i content out) =
        by-box None-new w (get_elem? M.receiving.requests i) (same M.refused refl) λ p q. same _ refl
    takes_step (send_exchange t out) = same _ refl
    takes_step (send_packet_exchange t out) = same _ refl
    takes_step (open_box xs rs) = same _ refl
    takes_step connect_box = same _ refl
    takes_step (ask_box t content out) = same _ refl
    takes_step (answer_box i) =
        by-box None-new w (get_elem? w.exchange.answers i) (same M.refused refl) λ a q.
        answered a.series a.what (answer_way (box_of M) a.series a.what M.log)
        (answer-done (box_of M) a.series a.what M.log)
    takes_step (receive_box i j) =
        by-box None-new w (get_elem? w.exchange.transmissions i) (same M.refused refl) λ m q.
        by-box None-new w (get_elem? m.packets j) (same M.refused refl) λ p z.
        received i j m p q z (receive_way (box_of M) p M.log M.receiving.buffer)
        (receive-done (box_of M) p M.log M.receiving.buffer)
    takes_step (login_seat i t k content out) =
        by-box None-new w (get_elem? (w.ends i).requests k) (same M.refused refl) λ p q. same _ refl
    takes_step (send_seat i t out) = same _ refl
    takes_step (send_packet_seat i t out) = same _ refl
    takes_step (open_end i xs) = same _ refl
    takes_step (connect_end i) = same _ refl
    takes_step (ask_end i t content out) = same _ refl
    takes_step (answer_end i k) =
        by-box None-new w (get_elem? (w.lines i).answers k) (same M.refused refl) λ p q. same _ refl
    takes_step (receive_end i k j) =
        by-box None-new w (get_elem? (w.lines i).transmissions k) (same M.refused refl) λ m q.
        by-box None-new w (get_elem? m.packets j) (same M.refused refl) λ p z. same _ refl

-- ─── What is needed only grows; the log stays as long ───

pub keeps-needs : (n m : Node) → Keeps n m → (d : ℕ) (l : List (Dated Message)) → needed_by n d l ≤ needed_by m d l
keeps-needs n m (inl q) d l = rw q (omega arith)
keeps-needs n m (inr q) d l = rw (q.0, q.1) (omega arith)

publish-length : (e : Sender) (s tid : ℕ) (content log : List ℕ)
    → length (publish_of e s tid content log).bytes ≡ length log
publish-length e s tid content log = go (publish_of e s tid content log) (publish-cases e s tid content log)
  where
    go : (r : Wrote Sender Published) → PublishDone e s tid content log r → length r.bytes ≡ length log
    go r (publish-refused x) = refl
    go r (publish-taken t) =
        let n = entry_length s tid (published_of e s + 1) content in
        let f = t.fits in
        length-put log e.day.used (entry_bytes s tid (published_of e s + 1) content) (omega arith)

abbrev Long : BoxWorld → BoxWorld → Type 0
Long w v = length v.node.log ≡ length w.node.log

relay-long : (n : Node) (m : Transmission) (i j : ℕ) (p : List ℕ) (y : ReceiveWay)
    → ReceiveDone (box_of n) p n.log n.receiving.buffer y
    → length (after_relay n m i j p
    (receive_by (box_of n) (series_in (dated_of p).packet) n.log n.receiving.buffer
    (receive_of n.receiving.end p n.receiving.buffer) y) y).log ≡ length n.log
relay-long n m i j p y (ReceiveDone.comes-late q l) = refl
relay-long n m i j p y (hands_none q) = refl
relay-long n m i j p y (not-published x xs q l z e) = refl
relay-long n m i j p y (published x xs q l k e) =
    publish-length (serving (box_of n)) (series_in (dated_of p).packet) x.tid x.content n.log

pub log-long : (w : BoxWorld) (e : BoxEvent) → Long w (box_step w e)
unfolding receive_box_of
log-long w (open_exchange date ss rs) = refl
log-long w (publish_exchange s tid content) = refl
log-long w (login_exchange s i content out) =
    by-box (Long w) w (get_elem? w.node.receiving.requests i) refl λ p q. refl
log-long w (send_exchange s out) = refl
log-long w (send_packet_exchange s out) = refl
log-long w (open_box ss rs) = refl
log-long w connect_box = refl
log-long w (ask_box s content out) = refl
log-long w (answer_box i) = by-box (Long w) w (get_elem? w.exchange.answers i) refl λ p q. refl
log-long w (receive_box i j) =
    by-box (Long w) w (get_elem? w.exchange.transmissions i) refl λ m q.
    by-box (Long w) w (get_elem? m.packets j) refl λ p z.
    relay-long w.node m i j p (receive_way (box_of w.node) p w.node.log w.node.receiving.buffer)
    (receive-done (box_of w.node) p w.node.log w.node.receiving.buffer)
log-long w (login_seat i s k content out) =
    by-box (Long w) w (get_elem? (w.ends i).requests k) refl λ p q. refl
log-long w (send_seat i s out) = refl
log-long w (send_packet_seat i s out) = refl
log-long w (open_end i ss) = refl
log-long w (connect_end i) = refl
log-long w (ask_end i s content out) = refl
log-long w (answer_end i k) = by-box (Long w) w (get_elem? (w.lines i).answers k) refl λ p q. refl
log-long w (receive_end i k j) =
    by-box (Long w) w (get_elem? (w.lines i).transmissions k) refl λ m q.
    by-box (Long w) w (get_elem? m.packets j) refl λ p z. refl

-- ─── Every list ───

-- What holds beside `Good`.
pub record Fine (w : BoxWorld) : Type 0 where
  pub right : RightSeries w.node.receiving.end
  pub checked : Checked w.exchange
  pub booked : Booked w.node
  pub eight : EightReserves w.node

module _ (w : BoxWorld) (g : AtSeat w) (e : BoxEvent) where
  taken : LineStep (above w) (above (box_step w e))
  taken = (above_step w g.above-timely.source.begun e).step_of

  pub fine-step : Fine w → Fine (box_step w e)
  fine-step f =
      let t = line-turn g.above-timely.source.answers taken in
      record {
        right =
            turn-right w.exchange.day (is_link taken) w.node.receiving.end g.above-timely.receiving.eight
            f.right (box_step w e).node.receiving.end _ _ t.turn;
        checked = move-checked w.exchange (box_step w e).exchange (line-moves taken) f.checked;
        booked = booked-step w g f.booked f.right e;
        eight = eight-step w f.eight e;
      }

  needs-step : (d : ℕ) → needed_by w.node d w.exchange.published
      ≤ needed_by (box_step w e).node d (box_step w e).exchange.published
  needs-step d =
      let v = box_step w e in
      let a = keeps-needs w.node v.node (keeps-step w g e) d w.exchange.published in
      let x = (move-grows w.exchange v.exchange (line-moves taken)).published in
      let b : needed_by v.node d w.exchange.published ≤ needed_by v.node d v.exchange.published =
      rw x.1 (needed-more d (kept_series v.node.receiving.end) (reserves_at v.node) w.exchange.published
      x.0) in
      omega arith

needs-run : (w : BoxWorld) → Good w → (es : List BoxEvent) → (d : ℕ)
    → needed_by w.node d w.exchange.published
    ≤ needed_by (box_run w es).node d (box_run w es).exchange.published
needs-run w g [] d = omega arith
needs-run w g (e ∷ es) d =
    let x = needs-step w (first-seat w g) e d in
    let y = needs-run (box_step w e) (good-step w g e) es d in
    omega arith

takes_along : (w : BoxWorld) (e : BoxEvent) (es : List BoxEvent) (s d : ℕ)
    → LogTakes w.node (box_step w e).node s d
    → LogTakes (box_step w e).node (box_run (box_step w e) es).node s d
    → LogTakes w.node (box_run (box_step w e) es).node s d
takes_along w e es s d x y =
    let a = w.node.refused in
    let b = (box_step w e).node.refused in
    let c = (box_run (box_step w e) es).node.refused in
    ap (of s d) (since-along a b c (refuses-step w e) (refuses-run (box_step w e) es))
    ∙ of-append s d (since a b) (since b c) ∙ rw (x, y)

enough-run : (s d : ℕ) (w : BoxWorld) → Good w → Fine w → (es : List BoxEvent)
    → needed_by (box_run w es).node d (box_run w es).exchange.published ≤ length w.node.log
    → LogTakes w.node (box_run w es).node s d
enough-run s d w g f [] room = no_more s d w.node.refused w.node.refused refl
enough-run s d w g f (e ∷ es) room =
    let n = needs-run w g (e ∷ es) d in
    let k = log-long w e in
    takes_along w e es s d
    (takes_step s d w (first-seat w g) f.right f.checked f.booked f.eight (omega arith) e)
    (enough-run s d (box_step w e) (good-step w g e) (fine-step w (first-seat w g) e f) es (rw k room))

fine-run : (w : BoxWorld) → Good w → Fine w → (es : List BoxEvent) → Fine (box_run w es)
fine-run w g f [] = f
fine-run w g f (e ∷ es) = fine-run (box_step w e) (good-step w g e) (fine-step w (first-seat w g) e f) es

long-run : (w : BoxWorld) (es : List BoxEvent) → length (box_run w es).node.log ≡ length w.node.log
long-run w [] = refl
long-run w (e ∷ es) = long-run (box_step w e) es ∙ log-long w e

start_fine : (l : Lent) → Fine (start_box l)
unfolding start_box start_node start fresh_receiver is_open kept_series
start_fine l =
    record { right = λ s q. clash false q refl; checked = tt; booked = start-booked l.buffer l.log; eight = refl }

start-log : (l : Lent) → (start_box l).node.log ≡ l.log
unfolding start_box start_node
start-log l = refl

pub log-enough : (l : Lent) (es fs : List BoxEvent) (s d : ℕ) →
    let v = box_run (start_box l) es in
    let w = box_run v fs in
    needed_by w.node d w.exchange.published ≤ length l.log → LogTakes v.node w.node s d
log-enough l es fs s d room =
    let o = start_box l in
    let n : length (box_run o es).node.log ≡ length l.log = long-run o es ∙ ap length (start-log l) in
    enough-run s d (box_run o es) (good-run o (good_start l) es) (fine-run o (good_start l) (start_fine l) es) fs
    (omega arith)

pub admitted : (l : Lent) (es : List BoxEvent) (s : ℕ) (p log : List ℕ) (n d : ℕ) →
    let m = (box_run (start_box l) es).node in
    (confirm_login_of m.receiving.end s p).answer ≡ Ok n → (dated_of p).date ≡ Some d → up_to d m.day.date ≡ false
    → sum_of (reserves_at m) ≤ length log → (answer_of (box_of m) s p log).answer ≡ Ok n
admitted l es s p log n d =
    let f = fine-run (start_box l) (good_start l) (start_fine l) es in
    admits (box_run (start_box l) es).node f.right f.eight s p log n d
