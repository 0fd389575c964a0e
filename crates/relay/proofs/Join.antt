-- The two sides of the box join: the day below is the highest that is kept, has the receiving end's series, and what is
-- published there is what was handed on. Assumes nothing.
use Prim.Native.Nat.{ℕ, ◌+◌, ◌<◌, ◌≤◌}
use native.Mathlib.Omega.{arith}
use mathlib.Core.Path.{◌≡◌, refl, sym, ap, ◌∙◌}
use mathlib.Core.List.{List, [], ◌∷◌}
use mathlib.Core.Bool.{Bool, true, false}
use borrow.Author.Tests.{ltb-false, leb-false}
use Rattle.ftd.specs.Bytes.{part}
use Rattle.ftd.specs.Packet.{dated_of}
use Rattle.ftd.specs.declared.refusal.Refusal.{Refusal}
use Rattle.ftd.specs.declared.packet.Span.{Span}
use Rattle.ftd.specs.declared.packet.Header.{Header}
use Rattle.ftd.specs.Types.{PacketPlace}
use Rattle.ftd.specs.Types.{TradeDate}
use Rattle.flow.specs.declared.sender.Day.{Day}
use Rattle.flow.specs.declared.sender.Seat.{Seat}
use Rattle.flow.specs.declared.sender.Sender.{Sender}
use Rattle.flow.specs.Types.{Opened}
use Rattle.flow.specs.Types.{Published}
use Rattle.flow.specs.declared.receiver.Receiver.{Receiver}
use Rattle.flow.specs.Types.{Confirmed}
use Rattle.flow.specs.declared.receiver.Received.{Received}
use Rattle.flow.specs.Ends.{Left, Wrote, before, up_to, differs, is_open, kept_of, kept_series, day_series, day_of, last_of}
use Rattle.flow.specs.Ends.{logged_in}
use Rattle.flow.specs.Answers.{Message, received_said, message_in, report_in}
use Rattle.flow.specs.Serving.{publish_of}
use Rattle.flow.specs.Receiving.{connect_of, confirm_login_of, receive_of, last_after}
use Rattle.flow.specs.World.{series_in}
use Rattle.flow.proofs.common.Bools.{clash}
use Rattle.flow.proofs.common.Days.{Upto, upto-same, upto-along, day-same}
use Rattle.flow.proofs.ends.ReceiverLookups.{Eight, series-stay}
use Rattle.flow.proofs.ends.ReceiverOpened.{none_open}
use Rattle.flow.proofs.ends.SenderLookups.{series-entry}
use Rattle.flow.proofs.ends.SenderOpened.{opened-series}
use Rattle.flow.proofs.calls.Serving.{OpenDone, open-refused, open-taken, PublishDone, publish-refused}
use Rattle.flow.proofs.calls.Serving.{publish-taken, publish-cases}
use Rattle.flow.proofs.calls.Receiving.{Confirmed-as, refuses, confirms, confirm-as}
use Rattle.flow.proofs.calls.Receive.{Took, unknown, not_in, repeats, hands-single, holds-first, holds-middle}
use Rattle.flow.proofs.calls.Receive.{hands-last, Received-as, unread, idles, reads, receive-as}
use Rattle.flow.proofs.steps.Turns.{Turn, Onward, later-day, turn-onward, turn-open, confirm-turn}
use Rattle.flow.proofs.steps.Turns
use Rattle.flow.proofs.steps.Moves
use Rattle.flow.proofs.logins.Consistent.{Consistent, Turned, turned, turn-behind}
use Rattle.relay.specs.Box.{server_of, no_seat}
use Rattle.std.specs.Prelude.{Some, None, Ok, Err}

-- ─── The day below and what is kept ───

pub record DayJoin (D : Day) (e : Receiver) : Type 0 where
  pub behind : (s : ℕ) → Upto (kept_of e s).date D.date
  pub series : (d : ℕ) → D.date ≡ Some d → day_series (server_of D no_seat) ≡ kept_series e
  pub someone : (d : ℕ) → D.date ≡ Some d → (s : ℕ) × (is_open e s ≡ true) × ((kept_of e s).date ≡ Some d)

-- The series are the day's.
pub seat-series : (D : Day) (X Y : Seat) → day_series (server_of D X) ≡ day_series (server_of D Y)
unfolding day_series
seat-series D X Y = refl

connect-series : (e : Receiver) → kept_series (connect_of e) ≡ kept_series e
unfolding connect_of kept_series
connect-series e = refl

-- Where a series is open, no step changes which are.
module _ (o : TradeDate) (c : Bool) (e : Receiver) (eight : Eight e) (u : ℕ) (q : is_open e u ≡ true) where
  turn-series : (after : Receiver) (ms : List Message) (ks : List ℕ) → Turn o c e after ms ks
      → kept_series after ≡ kept_series e
  turn-series after ms ks Turns.stays = refl
  turn-series after ms ks (Turns.opens ss z r) = clash _ q (none_open e z u)
  turn-series after ms ks (Turns.connects x) = connect-series e
  turn-series after ms ks (Turns.confirms t d r b x) = series-stay e eight t r (Some d) (last_after e t (Some d)) logged_in
  turn-series after ms ks (Turns.receives {last} {live} t r l g) = series-stay e eight t r (kept_of e t).date last live

kept-day : (e : Receiver) (s : ℕ) → is_open e s ≡ true → day_of e s ≡ (kept_of e s).date
kept-day e s q = rw q

not-above : (x d : ℕ) (o : TradeDate) → o ≡ Some x → Upto o (Some d) → d < x → ⊥
not-above x d o q u l = let v : x ≤ d = rw q at u in omega arith

-- A step of the receiving end, of answers not above the open day.
module _ (D : Day) (e : Receiver) (h : Consistent e) (j : DayJoin D e) (c : Bool) (after : Receiver)
    (t : Turned D.date c e after) where
  behind-after : (s : ℕ) → Upto (kept_of after s).date D.date
  behind-after = turn-behind D.date c e h j.behind after _ _ t.turn

  someone-after : (d : ℕ) → D.date ≡ Some d → (s : ℕ) × (is_open after s ≡ true) × ((kept_of after s).date ≡ Some d)
  someone-after d q =
      let x = j.someone d q in
      let s = x.0 in
      let o = turn-open D.date c e h.eight after _ _ t.turn s x.1 in (
        s,
        o,
        sym (kept-day after s o) ∙ on s x.1 x.2 o
            (turn-onward D.date c e h.eight after _ _ t.turn s),
      )
    where
      on : (s : ℕ) → is_open e s ≡ true → (kept_of e s).date ≡ Some d → is_open after s ≡ true
          → Onward (day_of e s) (last_of e s) (day_of after s) (last_of after s) → day_of after s ≡ Some d
      on s a b o (Turns.same-day f l) = f ∙ kept-day e s a ∙ b
      on s a b o (later-day x f l) =
          let y : d < x = rw (kept-day e s a ∙ b) at l in
          absurd (not-above x d (kept_of after s).date (sym (kept-day after s o) ∙ f) (rw q at (behind-after s)) y)

  pub join-turn : DayJoin D after
  join-turn =
      record {
        behind = behind-after;
        series = λ d q.
            let x = j.someone d q in
            j.series d q
            ∙ sym (turn-series D.date c e h.eight x.0 x.1 after _ _ t.turn);
        someone = someone-after;
      }

-- A day with the same trade date and series.
pub join-day : (D E : Day) (e : Receiver) → DayJoin D e → E.date ≡ D.date
    → day_series (server_of E no_seat) ≡ day_series (server_of D no_seat) → DayJoin E e
join-day D E e j f g =
    record {
      behind = rw f j.behind;
      series = λ d q. g ∙ j.series d (sym f ∙ q);
      someone = λ d q. j.someone d (sym f ∙ q);
    }

-- ─── An answer that opens a day ───

above-upto : (d : ℕ) (o : TradeDate) → up_to d o ≡ false → Upto o (Some d)
above-upto d None q = tt
above-upto d (Some c) q = let l = leb-false d c q in omega arith

module _ (D : Day) (e : Receiver) (h : Consistent e) (j : DayJoin D e) (s : ℕ) (p : List ℕ) (n d : ℕ)
    (taken : (confirm_login_of e s p).answer ≡ Ok n) (date : (dated_of p).date ≡ Some d)
    (above : up_to d D.date ≡ false) where
  abbrev after : Receiver
  after = (confirm_login_of e s p).end

  t : Turned (Some d) false e after
  t = turned (confirm-turn (Some d) false e s p (rw date (upto-same (Some d))))

  here : (is_open e s ≡ true) × (day_of after s ≡ Some d)
  here = go (confirm_login_of e s p) (confirm-as e s p) taken
    where
      go : (r : Left Receiver Confirmed) → Confirmed-as e s (dated_of p).date r → r.answer ≡ Ok n
          → (is_open e s ≡ true) × (day_of r.end s ≡ Some d)
      go r (refuses x) q = let z : ◌≡◌ {A = ℕ} 0 1 = cc in absurd (omega arith)
      go r (confirms x i o b) q =
          (o, (Moves.moves-with e h.eight s o (dated_of p).date _ logged_in).date ∙ date)

  pub join-opens : (rs log : List ℕ) (q : Left Sender Opened) → OpenDone (server_of D no_seat) d (kept_series e) rs log q
      → q.answer ≡ (Ok tt) → DayJoin q.end.day after
  join-opens rs log q (open-refused x) f = let z : ◌≡◌ {A = ℕ} 0 1 = cc in absurd (omega arith)
  join-opens rs log q (open-taken a b c z) f =
      let o = turn-open (Some d) false e h.eight after _ _ t.turn s here.0 in
      record {
        behind =
            turn-behind (Some d) false e h (λ u. upto-along (kept_of e u).date D.date (Some d) (j.behind u)
            (above-upto d D.date above)) after _ _ t.turn;
        series = λ c y.
            seat-series q.end.day no_seat q.end.seat ∙ opened-series d (kept_series e) rs
            ∙ sym (turn-series (Some d) false e h.eight s here.0 after _ _ t.turn);
        someone = λ c y. (s, o, sym (kept-day after s o) ∙ here.1 ∙ y);
      }

-- An answer that was refused leaves the end.
pub refused_end : (e : Receiver) (s : ℕ) (p : List ℕ) (x : Refusal) → (confirm_login_of e s p).answer ≡ Err x
    → (confirm_login_of e s p).end ≡ e
refused_end e s p x q = go (confirm_login_of e s p) (confirm-as e s p) q
  where
    go : (r : Left Receiver Confirmed) → Confirmed-as e s (dated_of p).date r → r.answer ≡ Err x → r.end ≡ e
    go r (refuses y) q = refl
    go r (confirms d i o b) q = let z : ◌≡◌ {A = ℕ} 0 1 = cc in absurd (omega arith)

-- ─── Publishing leaves trade date and series ───

pub publish-series : (e : Sender) (s tid : ℕ) (content log : List ℕ)
    → day_series (publish_of e s tid content log).end ≡ day_series e
publish-series e s tid content log = go (publish_of e s tid content log) (publish-cases e s tid content log)
  where
    go : (r : Wrote Sender Published) → PublishDone e s tid content log r → day_series r.end ≡ day_series e
    go r (publish-refused x) = refl
    go r (publish-taken t) = series-entry e s t.served _

-- ─── What is handed on: one message, of the kept day, with the next number ───

pub record HandsOne (e : Receiver) (p : List ℕ) (r : Wrote Receiver Received) (ms : List Message) : Type 0 where
  pub one : ms ≡ []
  pub day : differs (dated_of p).date (kept_of e (series_in (dated_of p).packet)).date ≡ false
  pub number : report_in (received_said p r.bytes r.answer)
      ≡ ((kept_of e (series_in (dated_of p).packet)).last + 1) ∷ []
  pub opens : is_open e (series_in (dated_of p).packet) ≡ true
  pub few : (kept_of e (series_in (dated_of p).packet)).last + 1 ≤ 1000000

tail_none : (x m : Message) (ms : List Message) → x ∷ [] ≡ m ∷ ms → ms ≡ []
tail_none x m ms q = cc

module _ (e : Receiver) (p buffer : List ℕ) (m : Message) (ms : List Message) where
  no-message : {A : Type 0} → [] ≡ m ∷ ms → A
  no-message q = let z : ◌≡◌ {A = ℕ} 0 1 = cc in absurd (omega arith)

  took_one : (h : Header) (place : PacketPlace) (at : Span) → series_in (dated_of p).packet ≡ h.series
      → (content : List ℕ) (r : Wrote Receiver Received) → Took e h (dated_of p).date place at content buffer r
      → message_in (received_said p r.bytes r.answer) ≡ m ∷ ms → HandsOne e p r ms
  took_one h place at f content r (unknown z) q = no-message q
  took_one h place at f content r (not_in z) q = no-message q
  took_one h place at f content r (Took.refuses x z n) q = no-message q
  took_one h place at f content r (repeats n z l) q = no-message q
  took_one h place at f content r (hands-single n z k) q =
      record {
        one = tail_none _ m ms q;
        day = rw f n.day;
        number = rw (f, n.number);
        opens = rw f n.reached.open-series;
        few = rw (f, ← n.number) n.few;
      }
  took_one h place at f content r (holds-first n z k x) q = no-message q
  took_one h place at f content r (holds-middle n z g x) q = no-message q
  took_one h place at f content r (hands-last n z g x) q =
      record {
        one = tail_none _ m ms q;
        day = rw f n.day;
        number = rw (f, n.number);
        opens = rw f n.reached.open-series;
        few = rw (f, ← n.number) n.few;
      }

  pub hands-one : message_in (received_said p (receive_of e p buffer).bytes (receive_of e p buffer).answer) ≡ m ∷ ms
      → HandsOne e p (receive_of e p buffer) ms
  hands-one = go (receive_of e p buffer) (receive-as e p buffer)
    where
      go : (r : Wrote Receiver Received) → Received-as e p buffer r
          → message_in (received_said p r.bytes r.answer) ≡ m ∷ ms → HandsOne e p r ms
      go r (unread x z) q = no-message q
      go r idles q = no-message q
      go r (reads h extension c z t) q = took_one h (dated_of p).place c (rw z) (part p c.start c.len) r t q

-- The kept day that is neither above nor below the open one is it.
pub same_kept : (d : ℕ) (o c : TradeDate) → o ≡ Some d → Upto o c → before o c ≡ false → c ≡ Some d
same_kept d None c q u b = let z : ◌≡◌ {A = ℕ} 0 1 = cc in absurd (omega arith)
same_kept d (Some x) None q u b = absurd u
same_kept d (Some x) (Some y) q u b =
    let l = ltb-false x y b in
    let f : y ≡ x = omega arith in
    ap Some f ∙ q

-- A packet of day d that is handed on is of the kept day.
pub kept-dated : (d : ℕ) (date kept : TradeDate) → date ≡ Some d → differs date kept ≡ false → kept ≡ Some d
kept-dated d date kept q b = day-same d kept (rw q at b)
