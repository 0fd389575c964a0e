-- What a call does to the numbers of one series, in any state: nothing; the next message is taken; or they start anew.
-- Assumes nothing.
use Prim.Native.Nat.{ℕ, ◌+◌}
use native.Mathlib.Omega.{arith}
use mathlib.Core.Path.{◌≡◌, refl, ap, sym, ◌∙◌}
use mathlib.Core.List.{List, [], ◌∷◌}
use mathlib.Core.Bool.{Bool, true, false, cond, not, ◌&&◌}
use mathlib.Core.Option.{Option, none, some, none-ne-some}
use borrow.Author.Tests.{ltb-true, ltb-false, eqb-true, eqb-false, eq-eqb, ne_eqb}
use lib.Dec.{ltb, eqb}
use Rattle.ftd.specs.Packet.{dated_of}
use Rattle.ftd.specs.Types.{TradeDate}
use Rattle.ftd.specs.Types.{PacketPlace}
use Rattle.ftd.specs.declared.packet.Span.{Span}
use Rattle.ftd.specs.declared.packet.Header.{Header}
use Rattle.flow.specs.Types.{Opened}
use Rattle.flow.specs.declared.receiver.LiveSeries.{LiveSeries}
use Rattle.flow.specs.declared.receiver.Receiver.{Receiver}
use Rattle.flow.specs.Types.{Confirmed}
use Rattle.flow.specs.declared.receiver.Received.{Received}
use Rattle.flow.specs.Ends.{Left, Wrote, before, differs, logged_in, is_open, kept_of, with_series, day_of, last_of}
use Rattle.flow.specs.Answers.{is_taken, report_in, opened_said, confirmed_said, received_said}
use Rattle.flow.specs.Receiving.{open_end_of, last_after, confirm_login_of, receive_of}
use Rattle.flow.specs.World.{borne}
use Rattle.flow.specs.Follows.{Lent, Call, opening, connect, ask, answer, receive, lend, behind, number_for}
use Rattle.flow.specs.Follows.{hands_over, took_of, rises, anew_of, day_for}
use Rattle.flow.proofs.common.Days.{Above, day-same}
use Rattle.flow.proofs.ends.ReceiverOpened.{none_open}
use Rattle.flow.proofs.calls.Receiving.{Opened-as, open-as, Confirmed-as, confirm-as}
use Rattle.flow.proofs.calls.Receive.{Next, Took, unknown, not_in, repeats, hands-single, holds-first}
use Rattle.flow.proofs.calls.Receive.{holds-middle, hands-last, Received-as, unread, idles, reads, receive-as}
use Rattle.flow.proofs.packets.Requests.{request-end}
use Rattle.flow.proofs.steps.Moves.{Moves, moves-kept, opened-same, connect-same}
use Rattle.std.specs.Prelude.{Some, None}

-- From a trade date and a last number: whether the numbers start anew, the number taken and its day, and trade date and
-- last number behind it.
pub data Does (date : TradeDate) (last : ℕ) (anew : Bool) (took : Option ℕ) (day after : TradeDate) (n : ℕ) : Type 0
  where
    nothing : anew ≡ false → took ≡ none → after ≡ date → n ≡ last → Does date last anew took day after n
    next : anew ≡ false → took ≡ some (last + 1) → day ≡ date → after ≡ date → n ≡ last + 1
        → Does date last anew took day after n
    -- Opening: no day is kept, before and behind it.
    opens : anew ≡ true → took ≡ none → date ≡ None → after ≡ None → n ≡ 0 → Does date last anew took day after n
    begins : (d : ℕ) → anew ≡ true → took ≡ none → after ≡ Some d → Above d date → n ≡ 0
        → Does date last anew took day after n

-- ─── Answer, by its trade date ───

confirm-does : (d : ℕ) (date day : TradeDate) (last : ℕ) → before (Some d) date ≡ false
    → Does date last (rises date (Some d)) none day (Some d) (cond (differs (Some d) date) 0 last)
confirm-does d None day last b = begins d refl refl refl tt refl
confirm-does d (Some k) day last b = go (ltb k d) refl
  where
    go : (x : Bool) → ltb k d ≡ x → Does (Some k) last x none day (Some d) (cond (not (eqb d k)) 0 last)
    go true q =
        let l = ltb-true k d q in
        begins d refl refl refl l (ap (λ (x : Bool). cond (not x) 0 last) (ne_eqb d k λ h. omega arith))
    go false q =
        let l = ltb-false d k b in
        let m = ltb-false k d q in
        let h : d ≡ k = omega arith in
        nothing refl refl (ap Some h) (ap (λ (x : Bool). cond (not x) 0 last) (eq-eqb d k h))

confirm-last : (e : Receiver) (t d : ℕ) (date day : TradeDate) → date ≡ Some d → is_open e t ≡ true
    → before (Some d) (kept_of e t).date ≡ false
    → Does (day_of e t) (last_of e t) (rises (day_of e t) date) none day date (last_after e t date)
unfolding last_after
confirm-last e t d date day q o b = rw (q, o) (confirm-does d (kept_of e t).date day (kept_of e t).last b)

-- A packet without a trade date, or with the kept one, is of the kept one.
borne-kept : (date kept : TradeDate) → differs date kept ≡ false → borne date kept ≡ kept
borne-kept None kept q = refl
borne-kept (Some d) kept q = sym (day-same d kept q)

-- ─── Each call's, of series s ───

module _ (s : ℕ) (e : Receiver) where
  opened-does : (ss : List ℕ) (r : Left Receiver Opened) → Opened-as e ss r
      → Does (day_of e s) (last_of e s) (is_taken (opened_said r.answer)) none None (day_of r.end s)
      (last_of r.end s)
  opened-does ss r Opened-as.refuses = nothing refl refl refl refl
  opened-does ss r (Opened-as.opens z q) =
      let m = opened-same e ss z s in
      let c = none_open e z s in
      let d : day_of e s ≡ None = rw c in
      let l : last_of e s ≡ 0 = rw c in
      opens refl refl d (m.0 ∙ d) (m.1 ∙ l)

  confirmed-does : (t : ℕ) (date : TradeDate) (r : Left Receiver Confirmed) → Confirmed-as e t date r
      → Does (day_of e s) (last_of e s) (is_taken (confirmed_said r.answer) && eqb t s && rises (day_of e s) date) none
      None (day_of r.end s) (last_of r.end s)
  confirmed-does t date r (Confirmed-as.refuses x) = nothing refl refl refl refl
  confirmed-does t date r (Confirmed-as.confirms d q o b) = go (eqb t s) refl
    where
      after : Receiver
      after = with_series e t date (last_after e t date) logged_in

      moves : Moves e after t date (last_after e t date)
      moves = moves-kept e t o date (last_after e t date) logged_in

      go : (x : Bool) → eqb t s ≡ x
          → Does (day_of e s) (last_of e s) (x && rises (day_of e s) date) none None (day_of after s) (last_of after s)
      go true y =
          let i : s ≡ t = sym (eqb-true t s y) in
          rw (i, moves.date, moves.last) (confirm-last e t d date None q o b)
      go false y = let m = moves.other s (λ h. eqb-false t s y (sym h)) in nothing refl refl m.0 m.1

  -- A packet of series t that leaves trade date and last.
  left-does : {day : TradeDate} (t : ℕ) → is_open e t ≡ true → (live : LiveSeries) →
      let after = with_series e t (kept_of e t).date (kept_of e t).last live in
      Does (day_of e s) (last_of e s) false none day (day_of after s) (last_of after s)
  left-does {day} t o live = go (eqb s t) refl
    where
      after : Receiver
      after = with_series e t (kept_of e t).date (kept_of e t).last live

      moves : Moves e after t (kept_of e t).date (kept_of e t).last
      moves = moves-kept e t o (kept_of e t).date (kept_of e t).last live

      go : (x : Bool) → eqb s t ≡ x → Does (day_of e s) (last_of e s) false none day (day_of after s) (last_of after s)
      go true y = rw (eqb-true s t y, moves.date, moves.last, o) (nothing refl refl refl refl)
      go false y = let m = moves.other s (eqb-false s t y) in nothing refl refl m.0 m.1

  -- The next message is handed on, of series s or of another.
  handed-does : (h : Header) (date : TradeDate) → Next e h date →
      let after = with_series e h.series (kept_of e h.series).date h.number logged_in in
      Does (day_of e s) (last_of e s) false (cond (eqb h.series s) (some h.number) none) (borne date (day_of e s))
      (day_of after s) (last_of after s)
  handed-does h date n = go (eqb t s) refl
    where
      t : ℕ
      t = h.series

      after : Receiver
      after = with_series e t (kept_of e t).date h.number logged_in

      moves : Moves e after t (kept_of e t).date h.number
      moves = moves-kept e t n.reached.open-series (kept_of e t).date h.number logged_in

      go : (x : Bool) → eqb t s ≡ x
          → Does (day_of e s) (last_of e s) false (cond x (some h.number) none) (borne date (day_of e s))
          (day_of after s) (last_of after s)
      go true y =
          let i : s ≡ t = sym (eqb-true t s y) in
          rw (i, moves.date, moves.last, n.reached.open-series)
          (next refl (ap some n.number) (borne-kept date (kept_of e t).date n.day) refl n.number)
      go false y = let m = moves.other s (λ q. eqb-false t s y (sym q)) in nothing refl refl m.0 m.1

  taken-does : (h : Header) (date : TradeDate) (place : PacketPlace) (at : Span) (content buffer : List ℕ) (r : Wrote Receiver Received)
      → Took e h date place at content buffer r
      → Does (day_of e s) (last_of e s) false
      (cond (hands_over r.answer) (cond (eqb h.series s) (some h.number) none) none) (borne date (day_of e s))
      (day_of r.end s) (last_of r.end s)
  taken-does h date place at content buffer r (unknown q) = nothing refl refl refl refl
  taken-does h date place at content buffer r (not_in q) = nothing refl refl refl refl
  taken-does h date place at content buffer r (Took.refuses x q n) = left-does h.series n.open-series _
  taken-does h date place at content buffer r (repeats n q l) = left-does h.series n.open-series _
  taken-does h date place at content buffer r (hands-single n q y) = handed-does h date n
  taken-does h date place at content buffer r (holds-first n q y m) = left-does h.series n.reached.open-series _
  taken-does h date place at content buffer r (holds-middle n q g m) = left-does h.series n.reached.open-series _
  taken-does h date place at content buffer r (hands-last n q g m) = handed-does h date n

  received-does : (p buffer : List ℕ) (r : Wrote Receiver Received) → Received-as e p buffer r
      → Does (day_of e s) (last_of e s) false (cond (hands_over r.answer) (number_for s (dated_of p).packet) none)
      (borne (dated_of p).date (day_of e s)) (day_of r.end s) (last_of r.end s)
  received-does p buffer r (unread x q) = nothing refl refl refl refl
  received-does p buffer r idles = nothing refl refl refl refl
  received-does p buffer r (reads h extension c q t) = rw q (taken-does h (dated_of p).date (dated_of p).place c _ buffer r t)

pub call-does : (s : ℕ) (v : Lent) (c : Call)
    → Does (day_of v.end s) (last_of v.end s) (anew_of s v c) (took_of s v c) (day_for s v c)
    (day_of (behind v c).end s) (last_of (behind v c).end s)
call-does s v (opening ss) = opened-does s v.end ss (open_end_of v.end ss) (open-as v.end ss)
call-does s v connect = let m = connect-same v.end s in nothing refl refl m.0 m.1
call-does s v (ask t content out) = rw (request-end v.end t content out) (nothing refl refl refl refl)
call-does s v (answer t p) =
    confirmed-does s v.end t (dated_of p).date (confirm_login_of v.end t p) (confirm-as v.end t p)
call-does s v (receive p) =
    received-does s v.end p v.buffer (receive_of v.end p v.buffer) (receive-as v.end p v.buffer)
call-does s v (lend buffer) = nothing refl refl refl refl

-- ─── What Receive reports with a message ───

number_is : (x : Bool) (k n : ℕ) → cond x (some k) none ≡ some n → k ∷ [] ≡ n ∷ []
number_is true k n q = let z : k ≡ n = cc in ap (λ (i : ℕ). i ∷ []) z
number_is false k n q = absurd (none-ne-some n q)

taken-told : (s : ℕ) (e : Receiver) (p : List ℕ) (h : Header) (date : TradeDate) (place : PacketPlace) (at : Span) (content buffer : List ℕ)
    (r : Wrote Receiver Received) (n : ℕ) → Took e h date place at content buffer r
    → cond (hands_over r.answer) (cond (eqb h.series s) (some h.number) none) none ≡ some n
    → report_in (received_said p r.bytes r.answer) ≡ n ∷ []
taken-told s e p h date place at content buffer r n (unknown q) x = absurd (none-ne-some n x)
taken-told s e p h date place at content buffer r n (not_in q) x = absurd (none-ne-some n x)
taken-told s e p h date place at content buffer r n (Took.refuses y q m) x = absurd (none-ne-some n x)
taken-told s e p h date place at content buffer r n (repeats m q l) x = absurd (none-ne-some n x)
taken-told s e p h date place at content buffer r n (hands-single m q w) x = number_is (eqb h.series s) h.number n x
taken-told s e p h date place at content buffer r n (holds-first m q w y) x = absurd (none-ne-some n x)
taken-told s e p h date place at content buffer r n (holds-middle m q g y) x = absurd (none-ne-some n x)
taken-told s e p h date place at content buffer r n (hands-last m q g y) x = number_is (eqb h.series s) h.number n x

received-told : (s : ℕ) (e : Receiver) (p buffer : List ℕ) (r : Wrote Receiver Received) (n : ℕ)
    → Received-as e p buffer r → cond (hands_over r.answer) (number_for s (dated_of p).packet) none ≡ some n
    → report_in (received_said p r.bytes r.answer) ≡ n ∷ []
received-told s e p buffer r n (unread y q) x = absurd (none-ne-some n x)
received-told s e p buffer r n idles x = absurd (none-ne-some n x)
received-told s e p buffer r n (reads h extension c q t) x =
    taken-told s e p h (dated_of p).date (dated_of p).place c _ buffer r n t (rw q at x)

pub told : (s : ℕ) (v : Lent) (p : List ℕ) (n : ℕ) → took_of s v (receive p) ≡ some n →
    let r = receive_of v.end p v.buffer in
    report_in (received_said p r.bytes r.answer) ≡ n ∷ []
told s v p n =
    received-told s v.end p v.buffer (receive_of v.end p v.buffer) n (receive-as v.end p v.buffer)
