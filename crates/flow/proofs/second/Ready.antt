-- A receiving end that is logged in to a series on the serving end's day, and wants a number next: it stays so,
-- whatever comes but a connection. Assumes nothing.
use Prim.Native.Nat.{ℕ, suc, ◌+◌, ◌≤◌}
use native.Mathlib.Omega.{arith}
use mathlib.Core.Path.{◌≡◌, refl, ap}
use mathlib.Core.List.{List}
use mathlib.Core.Bool.{Bool, true, false}
use borrow.Author.Tests.{ltb-false, eq-eqb}
use lib.ListN.{length}
use Rattle.ftd.specs.Bytes.{part, put}
use Rattle.ftd.specs.Packet.{dated_of}
use Rattle.ftd.proofs.bytes.Put.{length-put}
use Rattle.ftd.specs.Types.{TradeDate}
use Rattle.ftd.specs.Types.{PacketPlace}
use Rattle.ftd.specs.declared.packet.Span.{Span}
use Rattle.ftd.specs.declared.packet.Header.{Header}
use Rattle.flow.specs.declared.receiver.KeptSeries.{KeptSeries}
use Rattle.flow.specs.declared.receiver.LiveSeries.{LiveSeries}
use Rattle.flow.specs.declared.receiver.Receiver.{Receiver}
use Rattle.flow.specs.declared.receiver.Received.{Received}
use Rattle.flow.specs.Ends.{Wrote, before, logged_in, is_open, kept_of, live_of, part_start}
use Rattle.flow.specs.Receiving.{last_after, receive_of}
use Rattle.flow.proofs.common.Bools.{clash}
use Rattle.flow.proofs.ends.ReceiverLookups.{Eight, part-inside}
use Rattle.flow.proofs.calls.Receive.{Room, Took, unknown, not_in, repeats, hands-single, holds-first}
use Rattle.flow.proofs.calls.Receive.{holds-middle, hands-last, Received-as, unread, idles, reads, receive-as}
use Rattle.flow.proofs.ends.ReceiverOpened.{none_open}
use Rattle.flow.proofs.steps.Turns.{Turn, stays, opens, connects, confirms, receives, got-grows, got_in}
use Rattle.flow.proofs.steps.Turns.{by-series}
use Rattle.flow.proofs.common.Days.{Upto}
use Rattle.flow.specs.Answers.{Message}
use Rattle.std.specs.Prelude.{Some}

-- ─── Ready for number k of day d, or a later one ───

pub record Ready (e : Receiver) (s d k : ℕ) : Type 0 where
  pub opens : is_open e s ≡ true
  pub login : (live_of e s).login ≡ true
  pub date : (kept_of e s).date ≡ Some d
  pub reached : k ≤ suc (kept_of e s).last

-- The same of what is looked up of a series.
record Found (d k : ℕ) (x : Bool) (a : KeptSeries) (l : LiveSeries) : Type 0 where
  opens : x ≡ true
  login : l.login ≡ true
  date : a.date ≡ Some d
  reached : k ≤ suc a.last

found : (e : Receiver) (s d k : ℕ) → Ready e s d k → Found d k (is_open e s) (kept_of e s) (live_of e s)
found e s d k h = record { opens = h.opens; login = h.login; date = h.date; reached = h.reached }

ready : (e : Receiver) (s d k : ℕ) → Found d k (is_open e s) (kept_of e s) (live_of e s) → Ready e s d k
ready e s d k h = record { opens = h.opens; login = h.login; date = h.date; reached = h.reached }

-- An answer of a day that is at most d, taken on day d, is of that day and keeps last.
confirm-day : (a d : ℕ) (o : TradeDate) → o ≡ Some d → Upto (Some a) (Some d) → before (Some a) o ≡ false → a ≡ d
confirm-day a d o q u b = let l = ltb-false a d (rw q at b) in omega arith

confirm-last : (e : Receiver) (t d : ℕ) → (kept_of e t).date ≡ Some d → last_after e t (Some d) ≡ (kept_of e t).last
unfolding last_after
confirm-last e t d q = rw (q, eq-eqb d d refl)

module _ (e : Receiver) (h : Eight e) (s d k : ℕ) where
  pub turn-ready : (e' : Receiver) (ms : List Message) (ks : List ℕ) → Turn (Some d) false e e' ms ks → Ready e s d k
      → Ready e' s d k
  turn-ready e' ms ks stays r = r
  turn-ready e' ms ks (opens ss z q) r = clash _ r.opens (none_open e z s)
  turn-ready e' ms ks (connects x) r = clash _ x refl
  turn-ready e' ms ks (confirms t a q b u) r =
      ready e' s d k
      (by-series e h t q (Some a) (last_after e t (Some a)) logged_in (λ s x y l. Ready e s d k → Found d k x y l)
      (λ r.
      let f = confirm-day a d (kept_of e t).date r.date u b in
      record {
        opens = refl;
        login = refl;
        date = ap Some f;
        reached = rw (f, confirm-last e t d r.date) r.reached;
      })
      s (λ n. found e s d k) r)
  turn-ready e' ms ks (receives {last} {live} t q l g) r =
      ready e' s d k
      (by-series e h t q (kept_of e t).date last live (λ s x y l. Ready e s d k → Found d k x y l)
      (λ r.
      let n = got-grows e t last live ms ks g in
      let m = r.reached in
      record { opens = refl; login = got_in e t last live ms ks g; date = r.date; reached = omega arith })
      s (λ n. found e s d k) r)

-- ─── The length of the buffer stays ───

module _ (e : Receiver) (shape : Eight e) (buffer : List ℕ) where
  put-length : (s : ℕ) → is_open e s ≡ true → (held : ℕ) (content : List ℕ) → Room e buffer held content
      → length (put buffer (part_start e s + held) content) ≡ length buffer
  put-length s o held content r =
      length-put buffer (part_start e s + held) content (omega (arith, part-inside e shape s o, r.parts, r.chain))

  took-length : (h : Header) (date : TradeDate) (place : PacketPlace) (at : Span) (content : List ℕ) (r : Wrote Receiver Received)
      → Took e h date place at content buffer r → length r.bytes ≡ length buffer
  took-length h date place at content r (unknown q) = refl
  took-length h date place at content r (not_in q) = refl
  took-length h date place at content r (Took.refuses x q n) = refl
  took-length h date place at content r (repeats n q l) = refl
  took-length h date place at content r (hands-single n q y) = refl
  took-length h date place at content r (holds-first n q y m) = put-length h.series n.reached.open-series 0 content m
  took-length h date place at content r (holds-middle n q g m) =
      put-length h.series n.reached.open-series (live_of e h.series).held content m
  took-length h date place at content r (hands-last n q g m) =
      put-length h.series n.reached.open-series (live_of e h.series).held content m

  pub receive-length : (p : List ℕ) → length (receive_of e p buffer).bytes ≡ length buffer
  receive-length p = go (receive_of e p buffer) (receive-as e p buffer)
    where
      go : (r : Wrote Receiver Received) → Received-as e p buffer r → length r.bytes ≡ length buffer
      go r (unread x q) = refl
      go r idles = refl
      go r (reads x extension c q t) = took-length x (dated_of p).date (dated_of p).place c (part p c.start c.len) r t
