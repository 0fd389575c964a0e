-- What Answer and Receive of the box come to, in any state and of any bytes: the box that they leave, with the answer.
-- Assumes nothing.
use Prim.Native.Nat.{ℕ, zero, suc, ◌<◌, ◌≤◌}
use native.Mathlib.Omega.{arith}
use mathlib.Core.Path.{◌≡◌, refl, ap, sym, ◌∙◌}
use mathlib.Core.List.{List, [], ◌∷◌, map}
use mathlib.Core.Logic.{◌⊎◌, inl, inr}
use mathlib.Core.Bool.{Bool, true, false}
use borrow.Author.Tests.{eqb-true}
use lib.ListN.{get_or, set, take}
use lib.Dec.{eqb}
use Rattle.ftd.specs.Bytes.{part}
use Rattle.ftd.specs.Packet.{dated_of}
use Rattle.ftd.specs.Refusal.{number_of}
use Rattle.ftd.specs.declared.refusal.Refusal.{Refusal}
use Rattle.ftd.specs.declared.refusal.Refusal.TheVariants.{UnknownSeries, NotLoggedIn, OtherDay}
use Rattle.ftd.specs.declared.packet.Span.{Span}
use Rattle.ftd.specs.declared.packet.Header.{Header}
use Rattle.ftd.specs.Types.{PacketPlace}
use Rattle.ftd.specs.Types.{TradeDate}
use Rattle.flow.specs.declared.sender.Day.{Day}
use Rattle.flow.specs.declared.receiver.KeptSeries.{KeptSeries}
use Rattle.flow.specs.declared.receiver.LiveSeries.{LiveSeries}
use Rattle.flow.specs.declared.receiver.Receiver.{Receiver}
use Rattle.flow.specs.Types.{Confirmed}
use Rattle.flow.specs.declared.receiver.Origin.{Origin}
use Rattle.flow.specs.declared.receiver.Received.{Received}
use Rattle.flow.specs.declared.receiver.Received.TheVariants.{Idle, Duplicate, Partial, Complete}
use Rattle.flow.specs.declared.receiver.Received.TheVariants.{Refused as NotTaken}
use Rattle.flow.specs.Ends.{Left, left, Wrote, wrote, member, index_of, up_to, is_open, kept_of, live_of, kept_series, new_kept}
use Rattle.flow.specs.Ends.{with_series}
use Rattle.flow.specs.Answers.{Message, received_said, message_in}
use Rattle.flow.specs.Receiving.{confirm_login_of, receive_of, advance, dropped}
use Rattle.flow.specs.World.{series_in}
use Rattle.flow.proofs.common.Bools.{clash}
use Rattle.flow.proofs.calls.Receiving.{Confirmed-as, refuses, confirms, confirm-as}
use Rattle.flow.proofs.calls.Receive.{Took, Why, Online, unknown, not_in, repeats, hands-single, holds-first, holds-middle}
use Rattle.flow.proofs.calls.Receive.{other-day, out-of-line, astray, broken, no-room-first, no-room-later}
use Rattle.flow.proofs.calls.Receive.{hands-last, Received-as, unread, idles, reads, receive-as}
use Rattle.relay.specs.State.{Box}
use Rattle.relay.specs.Box.{box, with_receiver, AnswerWay, answer_way, answer_by, answer_of, ReceiveWay}
use Rattle.relay.specs.Box.{receive_way, Relayed, relayed, receive_by, receive_box_of}
use Rattle.relay.specs.Calls.{any, borne, end_says}
use Rattle.relay.proofs.Ways.{opening_of, AnswerDone, comes-late, not_taken, same-day, not_opened, opened, answer-done}
use Rattle.relay.proofs.Ways.{ReceiveDone, hands_none, not-published, published, receive-done, hands-past, past-online}
use Rattle.std.specs.Prelude.{Some, Ok, Err}

-- ─── A place set to what it has ───

pub set_own : {A : Type 0} (l : List A) (i : ℕ) (d : A) → set l i (get_or l i d) ≡ l
set_own [] i d = refl
set_own (a ∷ l) zero d = refl
set_own (a ∷ l) (suc i) d = ap (λ (k : List _). a ∷ k) (set_own l i d)

abbrev names : List KeptSeries → List ℕ
names l = map (λ (x : KeptSeries). x.series) l

-- At a series' place stands that series.
name-at : (n : ℕ) (l : List KeptSeries) (s : ℕ) (d : KeptSeries) → member s (names (take n l)) ≡ true
    → (get_or l (index_of s (names (take n l))) d).series ≡ s
name-at zero l s d h = clash false h refl
name-at (suc n) [] s d h = clash false h refl
name-at (suc n) (x ∷ l) s d h = go (eqb x.series s) refl (λ g. name-at n l s d g)
  where
    go : (b : Bool) → eqb x.series s ≡ b
        → (member s (names (take n l)) ≡ true → (get_or l (index_of s (names (take n l))) d).series ≡ s)
        → (get_or (x ∷ l) (index_of s (x.series ∷ names (take n l))) d).series ≡ s
    go true q ih = rw q (eqb-true x.series s q)
    go false q ih = rw q (ih (rw q at h))

-- Nothing that is kept changes where a chain is dropped.
pub dropped-kept : (e : Receiver) (s : ℕ) → is_open e s ≡ true → (dropped e s).kept ≡ e.kept
unfolding with_series kept_of is_open kept_series
dropped-kept e s o =
    let i = index_of s (names (take e.kept.count e.kept.series)) in
    let k = get_or e.kept.series i (new_kept 0) in
    let z : k.series ≡ s = name-at e.kept.count e.kept.series s (new_kept 0) o in
    ap (λ (l : List KeptSeries). record { count = e.kept.count; series = l })
    (ap (λ (t : ℕ). set e.kept.series i (record { series = t; date = k.date; last = k.last })) (sym z)
    ∙ set_own e.kept.series i (new_kept 0))

-- ─── Answer ───

pub confirm-stays : (e : Receiver) (s : ℕ) (p : List ℕ) (x : Refusal) → (confirm_login_of e s p).answer ≡ Err x
    → (confirm_login_of e s p).end ≡ e
confirm-stays e s p x q = go (confirm_login_of e s p) (confirm-as e s p) q
  where
    go : (r : Left Receiver Confirmed) → Confirmed-as e s (dated_of p).date r → r.answer ≡ Err x → r.end ≡ e
    go r (refuses y) q = refl
    go r (confirms d i o b) q = let z : ◌≡◌ {A = ℕ} 0 1 = cc in absurd (omega arith)

-- Refused, nothing changed; taken with the open day; taken, and a day opened.
pub data AnswerEffect (b : Box) (s : ℕ) (p log : List ℕ) : Left Box Confirmed → Type 0 where
  turned : (x : Refusal) → AnswerEffect b s p log (left b (Err x))
  stayed : (n d : ℕ) → (confirm_login_of b.receiver s p).answer ≡ Ok n → (dated_of p).date ≡ Some d
      → up_to d b.day.date ≡ true
      → AnswerEffect b s p log (left (with_receiver b (confirm_login_of b.receiver s p).end) (Ok n))
  turns : (n d : ℕ) → (confirm_login_of b.receiver s p).answer ≡ Ok n → (dated_of p).date ≡ Some d
      → up_to d b.day.date ≡ false → (opening_of b d log).answer ≡ (Ok tt)
      → AnswerEffect b s p log (answer_by b (left (confirm_login_of b.receiver s p).end (Ok n))
      (AnswerWay.opens (opening_of b d log)))

pub answer-effect : (b : Box) (s : ℕ) (p log : List ℕ) → AnswerEffect b s p log (answer_of b s p log)
unfolding answer_of
answer-effect b s p log = go (answer_way b s p log) (answer-done b s p log)
  where
    go : (w : AnswerWay) → AnswerDone b s p log w
        → AnswerEffect b s p log (answer_by b (confirm_login_of b.receiver s p) w)
    go w (comes-late q) = turned OtherDay
    go w (not_taken x q) = rw (confirm-stays b.receiver s p x q, q) (turned x)
    go w (same-day n d q f l u) = rw q (stayed n d q f u)
    go w (not_opened n d q f u x o) = turned x
    go w (opened n d q f u o) = rw q (turns n d q f u o)

-- ─── Receive, at the receiving end ───

-- Idle, or refused below 15.
abbrev pub Small : Received → Type 0
Small Idle = Unit
Small (Duplicate n) = ⊥
Small (Partial n) = ⊥
Small (Complete n tid origin at) = ⊥
Small (NotTaken x) = number_of x < 15

abbrev pub Reached : Receiver → ℕ → Type 0
Reached e s = (is_open e s ≡ true) × ((live_of e s).login ≡ true)

pub data EndEffect (e : Receiver) (s : ℕ) (buffer : List ℕ) : Wrote Receiver Received → Type 0 where
  rests : (a : Received) → Small a → EndEffect e s buffer (wrote e a buffer)
  drops : Reached e s → (x : Refusal) → 15 ≤ number_of x → EndEffect e s buffer (wrote (dropped e s) (NotTaken x) buffer)
  again : Reached e s → (n : ℕ) → EndEffect e s buffer (wrote (dropped e s) (Duplicate n) buffer)
  holds : Reached e s → (last : ℕ) (live : LiveSeries) (n : ℕ) (bytes : List ℕ)
      → EndEffect e s buffer (wrote (advance e s last live) (Partial n) bytes)
  hands : Reached e s → (last : ℕ) (live : LiveSeries) (n tid : ℕ) (origin : Origin) (at : Span) (bytes : List ℕ)
      → EndEffect e s buffer (wrote (advance e s last live) (Complete n tid origin at) bytes)

module _ (e : Receiver) (p buffer : List ℕ) where
  why-late : (h : Header) (date : TradeDate) (place : PacketPlace) (content : List ℕ) (x : Refusal)
      → Why e h date place content buffer x → 15 ≤ number_of x
  why-late h date place content x (other-day a) = omega arith
  why-late h date place content x (out-of-line a) = omega arith
  why-late h date place content x (astray a c d) = omega arith
  why-late h date place content x (broken a c d) = omega arith
  why-late h date place content x (no-room-first a c d) = omega arith
  why-late h date place content x (no-room-later a c d f) = omega arith

  reached : {h : Header} {date : TradeDate} → Online e h date → Reached e h.series
  reached n = (n.open-series, n.login)

  took-effect : (h : Header) (date : TradeDate) (place : PacketPlace) (at : Span) (content : List ℕ)
      (r : Wrote Receiver Received) → Took e h date place at content buffer r → EndEffect e h.series buffer r
  took-effect h date place at content r (unknown q) = rests (NotTaken UnknownSeries) (omega arith)
  took-effect h date place at content r (not_in q) = rests (NotTaken NotLoggedIn) (omega arith)
  took-effect h date place at content r (Took.refuses x q n) = drops (reached n) x (why-late h date place content x q)
  took-effect h date place at content r (repeats n q l) = again (reached n) _
  took-effect h date place at content r (hands-single n q k) = hands (reached n.reached) _ _ _ _ _ _ _
  took-effect h date place at content r (holds-first n q k m) = holds (reached n.reached) _ _ _ _
  took-effect h date place at content r (holds-middle n q g m) = holds (reached n.reached) _ _ _ _
  took-effect h date place at content r (hands-last n q g m) = hands (reached n.reached) _ _ _ _ _ _ _

  pub end-effect : EndEffect e (series_in (dated_of p).packet) buffer (receive_of e p buffer)
  end-effect = go (receive_of e p buffer) (receive-as e p buffer)
    where
      go : (r : Wrote Receiver Received) → Received-as e p buffer r → EndEffect e (series_in (dated_of p).packet) buffer r
      go r (unread x q) = rests (NotTaken x) (omega arith)
      go r idles = rests Idle tt
      go r (reads h extension c q t) =
          rw q (took-effect h (dated_of p).date (dated_of p).place c (part p c.start c.len) r t)

-- ─── Receive, of the box ───

pub data ReceiveEffect (b : Box) (p log buffer : List ℕ) : Relayed → Type 0 where
  rests : (a : Received) → Small a → message_in (end_says b p buffer) ≡ []
      → ReceiveEffect b p log buffer (relayed b a log buffer)
  drops : Reached b.receiver (borne p) → (x : Refusal)
      → (15 ≤ number_of x) ⊎ (any (message_in (end_says b p buffer)) ≡ true)
      → ReceiveEffect b p log buffer (relayed (with_receiver b (dropped b.receiver (borne p))) (NotTaken x) log buffer)
  again : Reached b.receiver (borne p) → (n : ℕ)
      → ReceiveEffect b p log buffer (relayed (with_receiver b (dropped b.receiver (borne p))) (Duplicate n) log buffer)
  holds : Reached b.receiver (borne p) → (last : ℕ) (live : LiveSeries) (n : ℕ) (bytes : List ℕ)
      → ReceiveEffect b p log buffer
      (relayed (with_receiver b (advance b.receiver (borne p) last live)) (Partial n) log bytes)
  hands : Reached b.receiver (borne p) → (last : ℕ) (live : LiveSeries) (n tid : ℕ) (origin : Origin) (at : Span)
      (bytes : List ℕ) (day : Day) (more : List ℕ)
      → ReceiveEffect b p log buffer
      (relayed (box (advance b.receiver (borne p) last live) b.reserves day b.seats) (Complete n tid origin at)
      more bytes)

module _ (b : Box) (p log buffer : List ℕ) where
  abbrev r : Wrote Receiver Received
  r = receive_of b.receiver p buffer

  abbrev P : Relayed → Type 0
  P = ReceiveEffect b p log buffer

  through-effect : (r : Wrote Receiver Received) → EndEffect b.receiver (borne p) buffer r
      → message_in (received_said p r.bytes r.answer) ≡ [] → message_in (end_says b p buffer) ≡ []
      → P (relayed (with_receiver b r.end) r.answer log r.bytes)
  through-effect r (EndEffect.rests a q) m n = rests a q n
  through-effect r (EndEffect.drops o x q) m n = drops o x (inl q)
  through-effect r (EndEffect.again o k) m n = again o k
  through-effect r (EndEffect.holds o last live k bytes) m n = holds o last live k bytes
  through-effect r (EndEffect.hands o last live k tid origin at bytes) m n =
      let z : ◌≡◌ {A = ℕ} 0 1 = cc in absurd (omega arith)

  publishes-effect : (r : Wrote Receiver Received) → EndEffect b.receiver (borne p) buffer r
      → (m : Message) (ms : List Message) → message_in (received_said p r.bytes r.answer) ≡ m ∷ ms
      → (day : Day) (more : List ℕ)
      → P (relayed (box r.end b.reserves day b.seats) r.answer more r.bytes)
  publishes-effect r (EndEffect.rests Idle q) m ms e day more = let z : ◌≡◌ {A = ℕ} 0 1 = cc in absurd (omega arith)
  publishes-effect r (EndEffect.rests (Duplicate n) q) m ms e day more = absurd q
  publishes-effect r (EndEffect.rests (Partial n) q) m ms e day more = absurd q
  publishes-effect r (EndEffect.rests (Complete n tid origin at) q) m ms e day more = absurd q
  publishes-effect r (EndEffect.rests (NotTaken x) q) m ms e day more =
      let z : ◌≡◌ {A = ℕ} 0 1 = cc in absurd (omega arith)
  publishes-effect r (EndEffect.drops o x q) m ms e day more = let z : ◌≡◌ {A = ℕ} 0 1 = cc in absurd (omega arith)
  publishes-effect r (EndEffect.again o k) m ms e day more = let z : ◌≡◌ {A = ℕ} 0 1 = cc in absurd (omega arith)
  publishes-effect r (EndEffect.holds o last live k bytes) m ms e day more =
      let z : ◌≡◌ {A = ℕ} 0 1 = cc in absurd (omega arith)
  publishes-effect r (EndEffect.hands o last live k tid origin at bytes) m ms e day more =
      hands o last live k tid origin at bytes day more

  pub receive-effect : P (receive_box_of b p log buffer)
  unfolding receive_box_of
  receive-effect = go (receive_way b p log buffer) (receive-done b p log buffer)
    where
      go : (w : ReceiveWay) → ReceiveDone b p log buffer w → P (receive_by b (borne p) log buffer r w)
      go w (ReceiveDone.comes-late q f) = drops (past-online b.receiver p buffer q) OtherDay (inl (omega arith))
      go w (hands_none q) = through-effect r (end-effect b.receiver p buffer) q q
      go w (not-published m ms q f x e) =
          drops (past-online b.receiver p buffer (hands-past p r.bytes r.answer m ms q)) x (inr (rw q refl))
      go w (published m ms q f k e) = publishes-effect r (end-effect b.receiver p buffer) m ms q _ _
