-- The receiver's step: what each call of a receiving end comes to, in any state and of any bytes, with no word of a
-- line. Assumes nothing.
use Prim.Native.Nat.{ℕ, ◌+◌, ◌≤◌}
use native.Mathlib.Omega.{arith}
use mathlib.Core.Path.{◌≡◌, refl, sym, ◌∙◌}
use mathlib.Core.List.{List, [], ◌∷◌}
use mathlib.Core.Bool.{Bool, true, false, cond}
use borrow.Author.Tests.{eqb-true, eqb-false}
use lib.Dec.{eqb}
use Rattle.ftd.specs.Packet.{dated_of}
use Rattle.ftd.specs.Types.{TradeDate}
use Rattle.ftd.specs.Types.{PacketPlace}
use Rattle.ftd.specs.declared.packet.Span.{Span}
use Rattle.ftd.specs.declared.packet.Header.{Header}
use Rattle.flow.specs.Types.{Opened}
use Rattle.flow.specs.declared.receiver.KeptSeries.{KeptSeries}
use Rattle.flow.specs.declared.receiver.LiveSeries.{LiveSeries}
use Rattle.flow.specs.declared.receiver.Receiver.{Receiver}
use Rattle.flow.specs.Types.{Confirmed}
use Rattle.flow.specs.declared.receiver.Received.{Received}
use Rattle.flow.specs.Ends.{Left, Wrote, wrong_series, before, differs, day_of, last_of, logged_in, holding, is_open}
use Rattle.flow.specs.Ends.{kept_of, live_of, kept_series, all_parts, with_series}
use Rattle.flow.specs.Answers.{Message, confirmed_said, received_said, message_in, report_in}
use Rattle.flow.specs.Receiving.{open_end_of, connect_of, request_login_of, last_after, confirm_login_of, receive_of}
use Rattle.flow.proofs.common.Bools.{clash}
use Rattle.flow.proofs.common.Days.{Above, Upto, above_new, day-same}
use Rattle.flow.proofs.ends.ReceiverLookups.{Eight, eight-stays, open_stays, kept_same, kept-other, live_same}
use Rattle.flow.proofs.ends.ReceiverLookups.{live-other, parts_stay}
use Rattle.flow.proofs.ends.ReceiverOpened.{opened_with, none_open, opened-eight, connect-open, connect-eight}
use Rattle.flow.proofs.calls.Receiving.{Opened-as, open-as, Confirmed-as, confirm-as}
use Rattle.flow.proofs.calls.Receive.{Took, unknown, not_in, repeats, hands-single, holds-first, holds-middle}
use Rattle.flow.proofs.calls.Receive.{hands-last, Received-as, unread, idles, reads, receive-as}
use Rattle.flow.proofs.packets.Requests.{request-end}
use Rattle.flow.proofs.steps.Moves.{Moves, Same, moves-with, opened-same, connect-same}
use Rattle.std.specs.Prelude.{Some}

-- ─── The steps ───

-- Receive of a packet of series t: last and what it then has on this connection, what is handed on and what is
-- reported. It is refused from 15 on or comes again, and any chain is dropped; a piece is held; or the next message is
-- handed on.
pub data Got (e : Receiver) (t : ℕ) : ℕ → LiveSeries → List Message → List ℕ → Type 0 where
  refused : Got e t (kept_of e t).last logged_in [] []
  again : Got e t (kept_of e t).last logged_in [] ((kept_of e t).last ∷ [])
  held : (tid n k : ℕ) → Got e t (kept_of e t).last (holding tid n k) [] ((kept_of e t).last ∷ [])
  handed : {k : ℕ} (x : Message) → k ≡ (kept_of e t).last + 1 → Got e t k logged_in (x ∷ []) (k ∷ [])

-- A call: the end behind it, what it handed on and what it reported. Nothing to trade date and last (login and chain
-- may go); a day not below the kept one, with last 0 if it is a new one; or what Receive got. o is a day that no answer
-- is above, c says whether it is a connection.
pub data Turn (o : TradeDate) (c : Bool) (e : Receiver) : Receiver → List Message → List ℕ → Type 0 where
  stays : Turn o c e e [] []
  opens : (ss : List ℕ) → e.kept.count ≡ 0 → wrong_series ss ≡ false → Turn o c e (opened_with ss) [] []
  connects : c ≡ true → Turn o c e (connect_of e) [] []
  confirms : (t d : ℕ) → is_open e t ≡ true → before (Some d) (kept_of e t).date ≡ false → Upto (Some d) o
      → Turn o c e (with_series e t (Some d) (last_after e t (Some d)) logged_in) [] (last_after e t (Some d) ∷ [])
  receives : {last : ℕ} {live : LiveSeries} {ms : List Message} {ks : List ℕ} (t : ℕ) → is_open e t ≡ true
      → (live_of e t).login ≡ true → Got e t last live ms ks
      → Turn o c e (with_series e t (kept_of e t).date last live) ms ks

pub got-grows : (e : Receiver) (t last : ℕ) (live : LiveSeries) (ms : List Message) (ks : List ℕ)
    → Got e t last live ms ks → (kept_of e t).last ≤ last
got-grows e t last live ms ks refused = omega arith
got-grows e t last live ms ks again = omega arith
got-grows e t last live ms ks (held tid n k) = omega arith
got-grows e t last live ms ks (handed x q) = omega arith

pub got_in : (e : Receiver) (t last : ℕ) (live : LiveSeries) (ms : List Message) (ks : List ℕ) → Got e t last live ms ks
    → live.login ≡ true
got_in e t last live ms ks refused = refl
got_in e t last live ms ks again = refl
got_in e t last live ms ks (held tid n k) = refl
got_in e t last live ms ks (handed x q) = refl

-- ─── Each call's ───

module _ (o : TradeDate) (c : Bool) (e : Receiver) where
  pub open_turn : (ss : List ℕ) → Turn o c e (open_end_of e ss).end [] []
  open_turn ss = go (open_end_of e ss) (open-as e ss)
    where
      go : (r : Left Receiver Opened) → Opened-as e ss r → Turn o c e r.end [] []
      go r Opened-as.refuses = stays
      go r (Opened-as.opens z q) = opens ss z q

  pub request-turn : (s : ℕ) (content out : List ℕ) → Turn o c e (request_login_of e s content out).end [] []
  request-turn s content out = rw (request-end e s content out) stays

  -- Of bytes whose day is not above o.
  pub confirm-turn : (s : ℕ) (p : List ℕ) → Upto (dated_of p).date o →
      let r = confirm_login_of e s p in
      Turn o c e r.end (message_in (confirmed_said r.answer)) (report_in (confirmed_said r.answer))
  confirm-turn s p u = go (dated_of p).date u (confirm_login_of e s p) (confirm-as e s p)
    where
      go : (date : TradeDate) → Upto date o → (r : Left Receiver Confirmed) → Confirmed-as e s date r
          → Turn o c e r.end (message_in (confirmed_said r.answer)) (report_in (confirmed_said r.answer))
      go date u r (Confirmed-as.refuses x) = stays
      go date u r (Confirmed-as.confirms d q n b) = rw q (confirms s d n b (rw q at u))

  took-turn : (p : List ℕ) (x : Header) (date : TradeDate) (place : PacketPlace) (at : Span) (content buffer : List ℕ)
      (r : Wrote Receiver Received) → Took e x date place at content buffer r
      → Turn o c e r.end (message_in (received_said p r.bytes r.answer))
      (report_in (received_said p r.bytes r.answer))
  took-turn p x date place at content buffer r (unknown q) = stays
  took-turn p x date place at content buffer r (not_in q) = stays
  took-turn p x date place at content buffer r (Took.refuses f q n) = receives x.series n.open-series n.login refused
  took-turn p x date place at content buffer r (repeats n q l) = receives x.series n.open-series n.login again
  took-turn p x date place at content buffer r (hands-single n q y) =
      receives x.series n.reached.open-series n.reached.login (handed _ n.number)
  took-turn p x date place at content buffer r (holds-first n q y m) =
      receives x.series n.reached.open-series n.reached.login (held _ _ _)
  took-turn p x date place at content buffer r (holds-middle n q g m) =
      receives x.series n.reached.open-series n.reached.login (held _ _ _)
  took-turn p x date place at content buffer r (hands-last n q g m) =
      receives x.series n.reached.open-series n.reached.login (handed _ n.number)

  pub receive-turn : (p buffer : List ℕ) →
      let r = receive_of e p buffer in
      Turn o c e r.end (message_in (received_said p r.bytes r.answer))
      (report_in (received_said p r.bytes r.answer))
  receive-turn p buffer = go (receive_of e p buffer) (receive-as e p buffer)
    where
      go : (r : Wrote Receiver Received) → Received-as e p buffer r
          → Turn o c e r.end (message_in (received_said p r.bytes r.answer))
          (report_in (received_said p r.bytes r.answer))
      go r (unread x q) = stays
      go r idles = stays
      go r (reads x extension a q t) = took-turn p x (dated_of p).date (dated_of p).place a _ buffer r t

-- ─── What every step does to days and numbers ───

-- Within a day last only grows; a series' days only rise.
pub data Onward (date : TradeDate) (last : ℕ) (after : TradeDate) (n : ℕ) : Type 0 where
  same-day : after ≡ date → last ≤ n → Onward date last after n
  later-day : (d : ℕ) → after ≡ Some d → Above d date → Onward date last after n

pub confirm-onward : (date : TradeDate) (last d : ℕ) → before (Some d) date ≡ false
    → Onward date last (Some d) (cond (differs (Some d) date) 0 last)
confirm-onward date last d b = go (differs (Some d) date) refl
  where
    go : (x : Bool) → differs (Some d) date ≡ x → Onward date last (Some d) (cond x 0 last)
    go true q = later-day d refl (above_new d date b q)
    go false q = same-day (sym (day-same d date q)) (omega arith)

module _ (e after : Receiver) where
  onward-same : Same e after → (s : ℕ) → Onward (day_of e s) (last_of e s) (day_of after s) (last_of after s)
  onward-same m s = let l = (m s).1 in same-day (m s).0 (omega arith)

  onward-moves : (t : ℕ) (d : TradeDate) (n : ℕ) → Moves e after t d n → Onward (day_of e t) (last_of e t) d n → (s : ℕ)
      → Onward (day_of e s) (last_of e s) (day_of after s) (last_of after s)
  onward-moves t d n m o s = go (eqb s t) refl
    where
      go : (b : Bool) → eqb s t ≡ b → Onward (day_of e s) (last_of e s) (day_of after s) (last_of after s)
      go true q = let y : s ≡ t = eqb-true s t q in rw (y, m.date, m.last) o
      go false q = let k = m.other s (eqb-false s t q) in let l = k.1 in same-day k.0 (omega arith)

module _ (o : TradeDate) (c : Bool) (e : Receiver) (eight : Eight e) where
  pub turn-eight : (after : Receiver) (ms : List Message) (ks : List ℕ) → Turn o c e after ms ks → Eight after
  turn-eight after ms ks stays = eight
  turn-eight after ms ks (opens ss z q) = opened-eight ss q
  turn-eight after ms ks (connects x) = connect-eight e eight
  turn-eight after ms ks (confirms t d q b u) = eight-stays e eight t q (Some d) (last_after e t (Some d)) logged_in
  turn-eight after ms ks (receives {last} {live} t q l g) = eight-stays e eight t q (kept_of e t).date last live

  pub turn-onward : (after : Receiver) (ms : List Message) (ks : List ℕ) → Turn o c e after ms ks → (s : ℕ)
      → Onward (day_of e s) (last_of e s) (day_of after s) (last_of after s)
  unfolding last_after
  turn-onward after ms ks stays s = same-day refl (omega arith)
  turn-onward after ms ks (opens ss z r) s = onward-same e after (opened-same e ss z) s
  turn-onward after ms ks (connects x) s = onward-same e after (connect-same e) s
  turn-onward after ms ks (confirms t d q b u) s =
      onward-moves e after t (Some d) (last_after e t (Some d))
      (moves-with e eight t q (Some d) (last_after e t (Some d)) logged_in)
      (rw q (confirm-onward (kept_of e t).date (kept_of e t).last d b)) s
  turn-onward after ms ks (receives {last} {live} t q l g) s =
      onward-moves e after t (kept_of e t).date last (moves-with e eight t q (kept_of e t).date last live)
      (rw q (same-day refl (got-grows e t last live ms ks g))) s

  -- An open series stays open,
  pub turn-open : (after : Receiver) (ms : List Message) (ks : List ℕ) → Turn o c e after ms ks → (s : ℕ)
      → is_open e s ≡ true → is_open after s ≡ true
  turn-open after ms ks stays s q = q
  turn-open after ms ks (opens ss z r) s q = clash _ q (none_open e z s)
  turn-open after ms ks (connects x) s q = connect-open e s ∙ q
  turn-open after ms ks (confirms t d r b u) s q = open_stays e eight t r (Some d) (last_after e t (Some d)) logged_in s ∙ q
  turn-open after ms ks (receives {last} {live} t r l g) s q = open_stays e eight t r (kept_of e t).date last live s ∙ q

  -- and the buffer's parts are as many.
  connect-parts : all_parts (connect_of e) ≡ all_parts e
  unfolding connect_of all_parts kept_series
  connect-parts = refl

  pub turn-parts : (after : Receiver) (ms : List Message) (ks : List ℕ) → Turn o c e after ms ks → (s : ℕ)
      → is_open e s ≡ true → all_parts after ≡ all_parts e
  turn-parts after ms ks stays s p = refl
  turn-parts after ms ks (opens ss z q) s p = clash _ p (none_open e z s)
  turn-parts after ms ks (connects x) s p = connect-parts
  turn-parts after ms ks (confirms t d q b u) s p = parts_stay e eight t q (Some d) (last_after e t (Some d)) logged_in
  turn-parts after ms ks (receives {last} {live} t q l g) s p = parts_stay e eight t q (kept_of e t).date last live

-- A claim of each series after one was changed.
module _ (e : Receiver) (h : Eight e) (t : ℕ) (o : is_open e t ≡ true) (date : TradeDate) (last : ℕ) (live : LiveSeries)
    (P : ℕ → Bool → KeptSeries → LiveSeries → Type 0) where
  pub by-series : P t true (record { series = t; date = date; last = last }) live
      → (s : ℕ) → ((s ≡ t → ⊥) → P s (is_open e s) (kept_of e s) (live_of e s))
      → P s (is_open (with_series e t date last live) s) (kept_of (with_series e t date last live) s)
      (live_of (with_series e t date last live) s)
  by-series f s g = go (eqb s t) refl
    where
      go : (b : Bool) → eqb s t ≡ b → P s (is_open (with_series e t date last live) s)
          (kept_of (with_series e t date last live) s) (live_of (with_series e t date last live) s)
      go true q =
          rw (
            eqb-true s t q,
            open_stays e h t o date last live t,
            o,
            kept_same e h t o date last live,
            live_same e h t
                o date last live,
          ) f
      go false q =
          let n = eqb-false s t q in
          rw (
            open_stays e h t o date last live s,
            kept-other e h t o date last live s n,
            live-other e h t o date last
                live s n,
          ) (g n)
