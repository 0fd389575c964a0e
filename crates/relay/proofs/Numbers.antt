-- What is published below has the number that Receive reports; the day below in the words of the request; and the way
-- from the exchange to a seat. Assumes nothing.
use Prim.Native.Nat.{ℕ, zero, suc, ◌+◌, ◌<◌, ◌≤◌, min}
use native.Mathlib.Omega.{arith}
use mathlib.Core.Path.{◌≡◌, refl, sym, ap, ◌∙◌}
use mathlib.Core.List.{List, [], ◌∷◌}
use mathlib.Core.Bool.{true}
use borrow.Author.Tests.{le-leb}
use lib.ListN.{length, take, length-take}
use Rattle.ftd.specs.Packet.{dated_of}
use Rattle.ftd.specs.Types.{TradeDate}
use Rattle.flow.specs.declared.sender.Day.{Day}
use Rattle.flow.specs.declared.sender.Seat.{Seat}
use Rattle.flow.specs.declared.sender.Sender.{Sender}
use Rattle.flow.specs.Types.{Published}
use Rattle.flow.specs.declared.receiver.Receiver.{Receiver}
use Rattle.flow.specs.declared.receiver.Received.{Received}
use Rattle.flow.specs.Ends.{Wrote, up_to, member, is_served, is_open, kept_of, kept_series, day_series, published_of}
use Rattle.flow.specs.Answers.{Message, received_said, report_in}
use Rattle.flow.specs.Serving.{publish_of}
use Rattle.flow.specs.Receiving.{receive_of}
use Rattle.flow.specs.World.{Dated, series_in}
use Rattle.flow.specs.Agreement.{of, published_on, handed_on, reported, Agreed}
use Rattle.flow.proofs.common.Days.{Upto, Above}
use Rattle.flow.proofs.source.Kept.{published-count}
use Rattle.flow.proofs.calls.Serving.{PublishDone, publish-refused, publish-taken, publish-cases}
use Rattle.flow.proofs.first.Half.{safe-agreed}
use Rattle.relay.specs.Box.{ReceiveWay, publishes, receive_way, server_of, serving, no_seat, seat_of}
use Rattle.relay.specs.World.{Node, BoxWorld, box_of, above, below, serving_at}
use Rattle.relay.specs.Agreement.{SameNumber, Counts, DayBelow, UpToDate}
use Rattle.relay.proofs.Ways.{ReceiveDone, hands_none, not-published, published, receive-done}
use Rattle.relay.proofs.Join.{hands-one}
use Rattle.relay.proofs.Joint.{handed-day}
use Rattle.relay.proofs.Halves.{Good, AtSeat, first-seat}
use Rattle.std.specs.Prelude.{Some, None, Ok}

-- ─── Counts and series are the day's, whatever the seat ───

seat-published : (D : Day) (X Y : Seat) (s : ℕ) → published_of (server_of D X) s ≡ published_of (server_of D Y) s
unfolding published_of day_series
seat-published D X Y s = refl

seat-served : (D : Day) (X Y : Seat) (s : ℕ) → is_served (server_of D X) s ≡ is_served (server_of D Y) s
unfolding is_served day_series
seat-served D X Y s = refl

pub served-open : (D : Day) (X : Seat) (e : Receiver) (s : ℕ) → day_series (server_of D X) ≡ kept_series e
    → is_served (server_of D X) s ≡ is_open e s
unfolding is_served is_open
served-open D X e s q = ap (member s) q

-- ─── The count below is last ───

pub seat-last : (w : BoxWorld) → AtSeat w → (s d : ℕ) →
    let n = w.node in
    is_served (serving (box_of n)) s ≡ true → is_open n.receiving.end s ≡ true
    → (kept_of n.receiving.end s).date ≡ Some d → n.day.date ≡ Some d
    → published_of (serving (box_of n)) s ≡ (kept_of n.receiving.end s).last
seat-last w g s d q o k f =
    let n = w.node in
    let X = seat_of (box_of n) g.seat in
    let count =
    published-count (serving_at n g.seat (w.lines g.seat)) g.served s d f
    (seat-served n.day X no_seat s ∙ q) in
    let agreed = safe-agreed (above w) s d g.above-safe in
    let today = rw o at (g.above-safe.right.right s d).today in
    let now : (kept_of n.receiving.end s).last ≡ reported (above w) s d = today k in
    seat-published n.day no_seat X s ∙ count
    ∙ ap (λ (l : List (Dated Message)). length (of s d l)) g.joint.1 ∙ agreed.exactly ∙ sym now

pub take-take : (r n : ℕ) (l : List Message) → r ≤ length (take n l) → take r (take n l) ≡ take r l
take-take zero n l q = refl
take-take (suc r) zero l q = absurd (omega arith)
take-take (suc r) (suc n) [] q = refl
take-take (suc r) (suc n) (x ∷ l) q = ap (λ (k : List Message). x ∷ k) (take-take r n l (omega arith))

pub enough : (r : ℕ) (h l : List Message) → length h ≡ r → h ≡ take r l → r ≤ length l
enough r h l n q =
    let k : length h ≡ min r (length l) = ap length q ∙ length-take r l in omega arith

pub take_whole : (l : List Message) → take (length l) l ≡ l
take_whole [] = refl
take_whole (x ∷ l) = ap (λ (k : List Message). x ∷ k) (take_whole l)

module _ (w : BoxWorld) (g : Good w) where
  abbrev N : Node
  N = w.node

  published-last : (s d : ℕ) → is_served (serving (box_of N)) s ≡ true → is_open N.receiving.end s ≡ true
      → (kept_of N.receiving.end s).date ≡ Some d → N.day.date ≡ Some d
      → published_of (serving (box_of N)) s ≡ (kept_of N.receiving.end s).last
  published-last s d q o k f = seat-last w (first-seat w g) s d q o k f

  pub counts : (s d : ℕ) → N.day.date ≡ Some d → is_open N.receiving.end s ≡ true → Counts N s d
  counts s d f o =
      let served : is_served (serving (box_of N)) s ≡ true =
      served-open N.day no_seat N.receiving.end s (g.joint.0.series d f) ∙ o in
      record { same = λ k. published-last s d served o k f; none = λ k. empty served k }
    where
      earlier : (kept : TradeDate) → Upto kept (Some d) → (kept ≡ Some d → ⊥) → Above d kept
      earlier None u n = tt
      earlier (Some c) u n = less c d u (λ q. n (ap Some q))
        where
          less : (a b : ℕ) → a ≤ b → (a ≡ b → ⊥) → a < b
          less a b l n = omega arith

      empty : is_served (serving (box_of N)) s ≡ true → ((kept_of N.receiving.end s).date ≡ Some d → ⊥)
          → published_of (serving (box_of N)) s ≡ 0
      empty q k =
          let X = seat_of (box_of N) 0 in
          let count =
          published-count (serving_at N 0 (w.lines 0)) (g.below-timely 0 (omega arith)).source.served s d f
          (seat-served N.day X no_seat s ∙ q) in
          let up : Upto (kept_of N.receiving.end s).date (Some d) = rw f at (g.joint.0.behind s) in
          let later = rw o at (g.above-safe.right.right s d).later in
          let none = later (earlier (kept_of N.receiving.end s).date up k) in
          seat-published N.day no_seat X s ∙ count
          ∙ ap (λ (l : List (Dated Message)). length (of s d l)) g.joint.1 ∙ ap length none.0

  -- The number that Publish gives.
  published-number : (s tid : ℕ) (content log : List ℕ) (k : ℕ)
      → (publish_of (serving (box_of N)) s tid content log).answer ≡ Ok k
      → (is_served (serving (box_of N)) s ≡ true) × (k ≡ published_of (serving (box_of N)) s + 1)
  published-number s tid content log k q =
      go (publish_of (serving (box_of N)) s tid content log) (publish-cases (serving (box_of N)) s tid content log) q
    where
      go : (r : Wrote Sender Published) → PublishDone (serving (box_of N)) s tid content log r → r.answer ≡ Ok k
          → (is_served (serving (box_of N)) s ≡ true) × (k ≡ published_of (serving (box_of N)) s + 1)
      go r (publish-refused x) q = let z : ◌≡◌ {A = ℕ} 0 1 = cc in absurd (omega arith)
      go r (publish-taken t) q = (t.served, cc)

  pub same_number : SameNumber w.exchange N
  same_number i j m p at here x q e =
      go (receive_way (box_of N) p N.log N.receiving.buffer)
      (receive-done (box_of N) p N.log N.receiving.buffer) e
    where
      r : Wrote Receiver Received
      r = receive_of N.receiving.end p N.receiving.buffer

      go : (y : ReceiveWay) → ReceiveDone (box_of N) p N.log N.receiving.buffer y → y ≡ publishes x q
          → (k : ℕ) × (q.answer ≡ Ok k) × (report_in (received_said p r.bytes r.answer) ≡ k ∷ [])
      go y (ReceiveDone.comes-late a b) e = let z : ◌≡◌ {A = ℕ} 0 1 = cc in absurd (omega arith)
      go y (hands_none a) e = let z : ◌≡◌ {A = ℕ} 0 1 = cc in absurd (omega arith)
      go y (not-published a xs b c d f) e = let z : ◌≡◌ {A = ℕ} 0 1 = cc in absurd (omega arith)
      go y (published a xs b c k f) e =
          let t = series_in (dated_of p).packet in
          let same : publish_of (serving (box_of N)) t a.tid a.content N.log ≡ q = cc in
          let n = published-number t a.tid a.content N.log k f in
          let o = hands-one N.receiving.end p N.receiving.buffer a xs b in
          let d =
          handed-day w.exchange g.above-timely.source.begun N g.above-timely.receiving g.joint i j m p at
          here a xs b c in
          let l = published-last t d.0 n.0 o.opens d.2 d.3 in (
            k,
            ap (λ (z : Wrote Sender Published). z.answer) (sym same) ∙ f,
            o.number ∙ ap (λ (z : ℕ). z ∷ []) (ap (λ (z : ℕ). z + 1) (sym l) ∙ sym n.1),
          )

  -- ─── The day below ───

  upto_true : (d : ℕ) (o : TradeDate) → Upto (Some d) o → up_to d o ≡ true
  upto_true d None u = absurd u
  upto_true d (Some e) u = le-leb d e u

  pub day-below : DayBelow N
  day-below =
      record {
        series = g.joint.0.series;
        highest = λ s d o q. upto_true d N.day.date (rw q at (g.joint.0.behind s));
        someone = g.joint.0.someone;
      }

  -- ─── From the exchange to a seat ───

  module _ (i : ℕ) (f : i < 16) (s d : ℕ) where
    up : Agreed (above w) s d
    up = safe-agreed (above w) s d g.above-safe

    down : Agreed (below w i) s d
    down = safe-agreed (below w i) s d (g.below-safe i f)

    -- Published below is what was handed on above.
    join : published_on (below w i) s d ≡ take (reported (above w) s d) (published_on (above w) s d)
    join = ap (of s d) g.joint.1 ∙ up.first

    both : handed_on (below w i) s d
        ≡ take (reported (below w i) s d) (take (reported (above w) s d) (published_on (above w) s d))
    both = down.first ∙ ap (take (reported (below w i) s d)) join

    pub seat-start : handed_on (below w i) s d ≡ take (reported (below w i) s d) (published_on (above w) s d)
    seat-start =
        both ∙ take-take (reported (below w i) s d) (reported (above w) s d) (published_on (above w) s d)
        (enough (reported (below w i) s d) (handed_on (below w i) s d)
        (take (reported (above w) s d) (published_on (above w) s d)) down.exactly both)

    pub seat-whole : UpToDate (above w) s d → UpToDate (below w i) s d → handed_on (below w i) s d ≡ published_on (above w) s d
    seat-whole a b =
        down.first ∙ ap (λ (n : ℕ). take n (published_on (below w i) s d)) b ∙ take_whole (published_on (below w i) s d)
        ∙ join ∙ ap (λ (n : ℕ). take n (published_on (above w) s d)) a ∙ take_whole (published_on (above w) s d)
