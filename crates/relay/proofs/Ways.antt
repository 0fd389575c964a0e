-- What the box makes of an answer and of a packet, one case each, in any state and of any bytes. Assumes nothing.
use Prim.Native.Nat.{ℕ}
use native.Mathlib.Omega.{arith}
use mathlib.Core.Path.{◌≡◌, refl}
use mathlib.Core.List.{List, [], ◌∷◌}
use mathlib.Core.Bool.{true, false, ◌&&◌}
use borrow.Author.Tests.{le-ltb}
use Rattle.ftd.specs.Bytes.{part}
use Rattle.ftd.specs.Packet.{dated_of}
use Rattle.ftd.specs.Refusal.{number_of}
use Rattle.ftd.specs.declared.refusal.Refusal.{Refusal}
use Rattle.ftd.specs.declared.packet.Span.{Span}
use Rattle.ftd.specs.declared.packet.Header.{Header}
use Rattle.ftd.specs.Types.{PacketPlace}
use Rattle.ftd.specs.Types.{TradeDate}
use Rattle.flow.specs.declared.sender.Sender.{Sender}
use Rattle.flow.specs.Types.{Opened}
use Rattle.flow.specs.Types.{Published}
use Rattle.flow.specs.declared.receiver.Receiver.{Receiver}
use Rattle.flow.specs.Types.{Confirmed}
use Rattle.flow.specs.declared.receiver.Received.{Received}
use Rattle.flow.specs.declared.receiver.Received.TheVariants.{Idle, Duplicate, Partial, Complete}
use Rattle.flow.specs.declared.receiver.Received.TheVariants.{Refused as NotTaken}
use Rattle.flow.specs.Ends.{Left, Wrote, before, up_to, is_open, kept_of, live_of, kept_series}
use Rattle.flow.specs.Answers.{Message, received_said, message_in}
use Rattle.flow.specs.Serving.{open_day_of, publish_of}
use Rattle.flow.specs.Receiving.{confirm_login_of, receive_of}
use Rattle.flow.specs.World.{series_in}
use Rattle.flow.proofs.common.Bools.{and_both, clash}
use Rattle.flow.proofs.common.Rows.{by-when}
use Rattle.flow.proofs.calls.Receiving.{Confirmed-as, refuses, confirms, confirm-as}
use Rattle.flow.proofs.calls.Receive.{Took, unknown, not_in, repeats, hands-single, holds-first, holds-middle}
use Rattle.flow.proofs.calls.Receive.{hands-last, Received-as, unread, idles, reads, receive-as}
use Rattle.flow.specs.Deciding.{past_day, receive_past}
use Rattle.relay.specs.State.{Box}
use Rattle.relay.specs.Box.{serving, confirm_past, AnswerWay, ReceiveWay, opening_way, taken_way}
use Rattle.relay.specs.Box.{reserves_of, confirmed_way, answer_way, published_way, handed_way, receive_way}
use Rattle.std.specs.Prelude.{Some, None, Ok, Err}

-- ─── Answer ───

pub taken-dated : (e : Receiver) (s : ℕ) (p : List ℕ) (n : ℕ) → (confirm_login_of e s p).answer ≡ Ok n
    → (d : ℕ) × ((dated_of p).date ≡ Some d)
taken-dated e s p n q = go (confirm_login_of e s p) (confirm-as e s p) q
  where
    go : (r : Left Receiver Confirmed) → Confirmed-as e s (dated_of p).date r → r.answer ≡ Ok n
        → (d : ℕ) × ((dated_of p).date ≡ Some d)
    go r (refuses x) q = let z : ◌≡◌ {A = ℕ} 0 1 = cc in absurd (omega arith)
    go r (confirms d i o b) q = (d, i)

-- What the opening below makes of it.
abbrev pub opening_of : Box → ℕ → List ℕ → Left Sender Opened
opening_of b d log =
    open_day_of (serving b) d (kept_series b.receiver) (reserves_of b.receiver b.reserves) log

pub data AnswerDone (b : Box) (s : ℕ) (p log : List ℕ) : AnswerWay → Type 0 where
  comes-late : before (dated_of p).date b.day.date ≡ true → AnswerDone b s p log AnswerWay.late
  not_taken : (x : Refusal) → (confirm_login_of b.receiver s p).answer ≡ Err x
      → AnswerDone b s p log AnswerWay.through
  same-day : (n d : ℕ) → (confirm_login_of b.receiver s p).answer ≡ Ok n → (dated_of p).date ≡ Some d
      → before (Some d) b.day.date ≡ false → up_to d b.day.date ≡ true → AnswerDone b s p log AnswerWay.through
  not_opened : (n d : ℕ) → (confirm_login_of b.receiver s p).answer ≡ Ok n → (dated_of p).date ≡ Some d
      → up_to d b.day.date ≡ false → (x : Refusal) → (opening_of b d log).answer ≡ Err x
      → AnswerDone b s p log (AnswerWay.refuses x)
  opened : (n d : ℕ) → (confirm_login_of b.receiver s p).answer ≡ Ok n → (dated_of p).date ≡ Some d
      → up_to d b.day.date ≡ false → (opening_of b d log).answer ≡ (Ok tt)
      → AnswerDone b s p log (AnswerWay.opens (opening_of b d log))

module _ (b : Box) (s : ℕ) (p log : List ℕ) where
  abbrev P : AnswerWay → Type 0
  P = AnswerDone b s p log

  opening-done : (n d : ℕ) → (confirm_login_of b.receiver s p).answer ≡ Ok n → (dated_of p).date ≡ Some d
      → up_to d b.day.date ≡ false → (a : Opened) → (opening_of b d log).answer ≡ a
      → P (opening_way (opening_of b d log) a)
  opening-done n d q f u (Ok tt) e = opened n d q f u e
  opening-done n d q f u (Err x) e = not_opened n d q f u x e

  taken-done : (n : ℕ) → (confirm_login_of b.receiver s p).answer ≡ Ok n → (date : TradeDate)
      → (dated_of p).date ≡ date → before date b.day.date ≡ false
      → P (taken_way b.receiver b.reserves b.day log date)
  taken-done n q None f l =
      let z = taken-dated b.receiver s p n q in
      let g = z.1 in
      absurd (none-at (dated_of p).date z.0 f g)
    where
      none-at : (o : TradeDate) (d : ℕ) → o ≡ None → o ≡ Some d → ⊥
      none-at o d p q = let z : ◌≡◌ {A = ℕ} 0 1 = cc in omega arith
  taken-done n q (Some d) f l =
      by-when P (up_to d b.day.date) (λ u. same-day n d q f l u) λ u.
      opening-done n d q f u (opening_of b d log).answer refl

  confirmed-done : (a : Confirmed) → (confirm_login_of b.receiver s p).answer ≡ a
      → (confirm_past a && before (dated_of p).date b.day.date) ≡ false
      → P (confirmed_way b.receiver b.reserves b.day log (dated_of p).date a)
  confirmed-done (Ok n) q l = taken-done n q (dated_of p).date refl l
  confirmed-done (Err x) q l = not_taken x q

  pub answer-done : AnswerDone b s p log (answer_way b s p log)
  unfolding answer_way
  answer-done =
      by-when P (confirm_past (confirm_login_of b.receiver s p).answer && before (dated_of p).date b.day.date)
      (λ q. comes-late (and_both (confirm_past (confirm_login_of b.receiver s p).answer) _ q).1) λ q.
      confirmed-done (confirm_login_of b.receiver s p).answer refl q

-- ─── Receive ───

-- What is handed on passed row 15.
pub hands-past : (p buffer : List ℕ) (a : Received) (m : Message) (ms : List Message)
    → message_in (received_said p buffer a) ≡ m ∷ ms → receive_past a ≡ true
hands-past p buffer Idle m ms q = let z : ◌≡◌ {A = ℕ} 0 1 = cc in absurd (omega arith)
hands-past p buffer (Duplicate n) m ms q = refl
hands-past p buffer (Partial n) m ms q = refl
hands-past p buffer (Complete n tid origin at) m ms q = refl
hands-past p buffer (NotTaken x) m ms q = let z : ◌≡◌ {A = ℕ} 0 1 = cc in absurd (omega arith)

module _ (e : Receiver) (p buffer : List ℕ) where
  abbrev s : ℕ
  s = series_in (dated_of p).packet

  abbrev Online : Type 0
  Online = (is_open e s ≡ true) × ((live_of e s).login ≡ true)

  took-online : (h : Header) (date : TradeDate) (place : PacketPlace) (at : Span) (content : List ℕ)
      (r : Wrote Receiver Received) → Took e h date place at content buffer r → receive_past r.answer ≡ true
      → (is_open e h.series ≡ true) × ((live_of e h.series).login ≡ true)
  took-online h date place at content r (unknown q) z = clash false z refl
  took-online h date place at content r (not_in q) z = clash false z refl
  took-online h date place at content r (Took.refuses x q n) z = (n.open-series, n.login)
  took-online h date place at content r (repeats n q l) z = (n.open-series, n.login)
  took-online h date place at content r (hands-single n q k) z = (n.reached.open-series, n.reached.login)
  took-online h date place at content r (holds-first n q k m) z = (n.reached.open-series, n.reached.login)
  took-online h date place at content r (holds-middle n q g m) z = (n.reached.open-series, n.reached.login)
  took-online h date place at content r (hands-last n q g m) z = (n.reached.open-series, n.reached.login)

  -- What passed row 15 is of a series that is open and logged in.
  pub past-online : receive_past (receive_of e p buffer).answer ≡ true → Online
  past-online = go (receive_of e p buffer) (receive-as e p buffer)
    where
      go : (r : Wrote Receiver Received) → Received-as e p buffer r → receive_past r.answer ≡ true → Online
      go r (unread x q) z = clash (past_day x) z (le-ltb 15 (number_of x) (omega arith))
      go r idles z = clash false z refl
      go r (reads h extension c q t) z =
          rw q (took-online h (dated_of p).date (dated_of p).place c (part p c.start c.len) r t z)

pub data ReceiveDone (b : Box) (p log buffer : List ℕ) : ReceiveWay → Type 0 where
  comes-late : receive_past (receive_of b.receiver p buffer).answer ≡ true
      → before (kept_of b.receiver (series_in (dated_of p).packet)).date b.day.date ≡ true
      → ReceiveDone b p log buffer ReceiveWay.late
  hands_none : message_in
      (received_said p (receive_of b.receiver p buffer).bytes (receive_of b.receiver p buffer).answer) ≡ []
      → ReceiveDone b p log buffer ReceiveWay.through
  not-published : (m : Message) (ms : List Message)
      → message_in (received_said p (receive_of b.receiver p buffer).bytes (receive_of b.receiver p buffer).answer)
      ≡ m ∷ ms
      → before (kept_of b.receiver (series_in (dated_of p).packet)).date b.day.date ≡ false
      → (x : Refusal)
      → (publish_of (serving b) (series_in (dated_of p).packet) m.tid m.content log).answer ≡ Err x
      → ReceiveDone b p log buffer (ReceiveWay.refuses x)
  published : (m : Message) (ms : List Message)
      → message_in (received_said p (receive_of b.receiver p buffer).bytes (receive_of b.receiver p buffer).answer)
      ≡ m ∷ ms
      → before (kept_of b.receiver (series_in (dated_of p).packet)).date b.day.date ≡ false
      → (k : ℕ)
      → (publish_of (serving b) (series_in (dated_of p).packet) m.tid m.content log).answer ≡ Ok k
      → ReceiveDone b p log buffer
      (ReceiveWay.publishes m (publish_of (serving b) (series_in (dated_of p).packet) m.tid m.content log))

module _ (b : Box) (p log buffer : List ℕ) where
  abbrev Q : ReceiveWay → Type 0
  Q = ReceiveDone b p log buffer

  abbrev t : ℕ
  t = series_in (dated_of p).packet

  abbrev r : Wrote Receiver Received
  r = receive_of b.receiver p buffer

  published-done : (m : Message) (ms : List Message) → message_in (received_said p r.bytes r.answer) ≡ m ∷ ms
      → before (kept_of b.receiver t).date b.day.date ≡ false
      → (a : Published) → (publish_of (serving b) t m.tid m.content log).answer ≡ a
      → Q (published_way m (publish_of (serving b) t m.tid m.content log) a)
  published-done m ms q f (Ok k) e = published m ms q f k e
  published-done m ms q f (Err x) e = not-published m ms q f x e

  handed-done : (ms : List Message) → message_in (received_said p r.bytes r.answer) ≡ ms
      → (receive_past r.answer && before (kept_of b.receiver t).date b.day.date) ≡ false
      → Q (handed_way b.day t log ms)
  handed-done [] q f = hands_none q
  handed-done (m ∷ ms) q f =
      let z = hands-past p r.bytes r.answer m ms q in
      published-done m ms q (rw z at f) (publish_of (serving b) t m.tid m.content log).answer refl

  pub receive-done : ReceiveDone b p log buffer (receive_way b p log buffer)
  unfolding receive_way
  receive-done =
      by-when Q (receive_past r.answer && before (kept_of b.receiver t).date b.day.date)
      (λ q. let z = and_both (receive_past r.answer) _ q in comes-late z.0 z.1) λ q.
      handed-done (message_in (received_said p r.bytes r.answer)) refl q
