-- What is decided on a message packet and then copied is what Receive leaves, 15 for a day before some trade date; and
-- where a message that is handed on lies. Over plain variables. Assumes nothing.
use Prim.Native.Nat.{ℕ, ◌+◌, ◌*◌, ◌≤◌}
use native.Mathlib.Omega.{arith}
use mathlib.Core.Path.{◌≡◌, refl, sym, ap, ◌∙◌}
use mathlib.Core.List.{List}
use mathlib.Core.Bool.{Bool, true, false, not, ◌&&◌, ◌||◌}
use borrow.Author.Tests.{ltb-true, ltb-false, le-leb, not-false}
use lib.ListN.{length, get_or}
use lib.Seq.{set-get_or}
use lib.Dec.{ltb, leb}
use Rattle.ftd.specs.Bytes.{put}
use Rattle.ftd.specs.Packet.{span}
use Rattle.ftd.specs.declared.refusal.Refusal.TheVariants.{UnknownSeries, NotLoggedIn, OtherDay, OutOfLine}
use Rattle.ftd.specs.declared.refusal.Refusal.TheVariants.{BrokenChain, TooSmall}
use Rattle.ftd.specs.Types.{TradeDate}
use Rattle.ftd.specs.Types.{PacketPlace}
use Rattle.ftd.specs.declared.packet.Span.{Span}
use Rattle.ftd.specs.declared.packet.Chain.{Chain}
use Rattle.ftd.specs.declared.packet.Chain.TheVariants.{Single, First, Middle, Last}
use Rattle.ftd.specs.declared.packet.Header.{Header}
use Rattle.flow.specs.Types.{SeriesPlace}
use Rattle.flow.specs.declared.receive.OneStep.{OneStep}
use Rattle.flow.specs.declared.receiver.KeptSeries.{KeptSeries}
use Rattle.flow.specs.declared.receiver.LiveSeries.{LiveSeries}
use Rattle.flow.specs.declared.receiver.Receiver.{Receiver}
use Rattle.flow.specs.declared.receiver.Origin.{Origin}
use Rattle.flow.specs.declared.receiver.Origin.TheVariants.{Packet as FromPacket, Buffer as FromBuffer}
use Rattle.flow.specs.declared.receiver.Received.{Received}
use Rattle.flow.specs.declared.receiver.Received.TheVariants.{Duplicate, Partial}
use Rattle.flow.specs.declared.receiver.Received.TheVariants.{Refused as NotTaken}
use Rattle.flow.specs.Types.{Target}
use Rattle.flow.specs.declared.receiver.Decision.{Decision}
use Rattle.flow.specs.Ends.{◌when◌else◌, Wrote, wrote, index_of, new_kept, before, differs, no_live, logged_in}
use Rattle.flow.specs.Ends.{holding, kept_series, is_open, kept_of, live_of, with_series, part_start, all_parts}
use Rattle.flow.specs.Receiving.{out_of_line, misplaced, one_more, buffer_short, chain_long, advance, dropped}
use Rattle.flow.specs.Receiving.{holds, hands_on, next_piece, receive_with}
use Rattle.flow.specs.Deciding.{receive_past, copied_to, LiesAt, dropped_of}
use Rattle.flow.specs.Helpers.{FindsKept, series_at}
use Rattle.flow.specs.ReceiveHelpers.{parts_of, no_room, out_of_chain, wrong_piece, one_dropping}
use Rattle.flow.specs.ReceiveHelpers.{one_completing, one_keeping, one_holds, one_taken, one_piece, takes_one, stayed}
use Rattle.flow.specs.ReceiveHelpers.{put_back, decides_with}
use Rattle.flow.proofs.common.Bools.{or-neither}
use Rattle.flow.proofs.common.Rows.{by-when}
use Rattle.flow.proofs.ends.Lookups.{number_at}
use Rattle.flow.proofs.ends.ReceiverLookups.{Eight, part-inside}
use Rattle.flow.proofs.receiver.Lookups.{kept_number, found_at, kept_at, live_at, parts-few, parts-most}
use Rattle.std.specs.Prelude.{Some, None}

-- What is decided, and then the piece copied.
abbrev pub copying : Decision → List ℕ → List ℕ → Wrote Receiver Received
copying r content buffer = wrote r.end r.answer (copied_to r.target content buffer)

-- Where the trade date is below, what came past row 15 is 15, and drops the chain.
abbrev pub floored : Bool → Receiver → ℕ → List ℕ → Wrote Receiver Received → Wrote Receiver Received
floored low e s buffer r = wrote (dropped e s) (NotTaken OtherDay) buffer when receive_past r.answer && low else r

-- A row's test is the same on both sides.
by_row : {A B C : Type 0} (f : A → C) (g : B → C) (b : Bool) (x y : A) (u v : B) → f x ≡ g u
    → (b ≡ false → f y ≡ g v) → f (x when b else y) ≡ g (u when b else v)
by_row f g true x y u v p q = p
by_row f g false x y u v p q = q refl

-- The row of a low trade date, before what came past row 15.
low-row : {A : Type 0} (f : A → Wrote Receiver Received) (low : Bool) (e : Receiver) (s : ℕ) (buffer : List ℕ)
    (x y : A) (v : Wrote Receiver Received) → f x ≡ wrote (dropped e s) (NotTaken OtherDay) buffer → f y ≡ v
    → receive_past v.answer ≡ true → f (x when low else y) ≡ floored low e s buffer v
low-row f true e s buffer x y v p q past = rw past p
low-row f false e s buffer x y v p q past = rw past q

module _ (e : Receiver) where
  -- All parts, by the count.
  parts-of : Eight e → parts_of e.kept.count ≡ all_parts e
  parts-of places = go (ltb e.kept.count 8) refl
    where
      go : (b : Bool) → ltb e.kept.count 8 ≡ b → parts_of e.kept.count ≡ all_parts e
      go true p =
          let h = ltb-true e.kept.count 8 p in
          rw p (parts-few e places (omega arith))
      go false p = rw p (parts-most e places (ltb-false e.kept.count 8 p))

  module _ (s : ℕ) (o : is_open e s ≡ true) where
    number_is : (kept_of e s).series ≡ s
    unfolding is_open kept_of kept_series
    number_is = number_at kept_number e.kept.count e.kept.series s (new_kept 0) o

    -- Put back with a last number and what it has on this connection.
    back_at : (last : ℕ) (live : LiveSeries)
        → series_at e (index_of s (kept_series e))
        (record { series = (kept_of e s).series; date = (kept_of e s).date; last = last }) live ≡ advance e s last live
    unfolding with_series
    back_at last live = rw number_is

    -- Put back as it was.
    back-same : series_at e (index_of s (kept_series e)) (kept_of e s) (live_of e s) ≡ e
    unfolding kept_of live_of
    back-same =
        rw (
          set-get_or e.kept.series (index_of s (kept_series e)) (new_kept 0),
          set-get_or e.live.series (index_of s (kept_series e)) no_live,
        )

-- ─── The series of a packet's header, which is open ───

module _ (e : Receiver) (places : Eight e) (h : Header) (o : is_open e h.series ≡ true) (at : Span)
    (content buffer : List ℕ) (n : length content ≡ at.len) where
  abbrev kept : KeptSeries
  kept = kept_of e h.series

  abbrev live : LiveSeries
  live = live_of e h.series

  abbrev place_of : ℕ
  place_of = index_of h.series (kept_series e)

  abbrev decided : OneStep → Decision
  decided = put_back e place_of h.series at

  -- The step put back, and then the piece copied.
  abbrev back : OneStep → Wrote Receiver Received
  back r = copying (decided r) content buffer

  abbrev as_is : Wrote Receiver Received → Wrote Receiver Received
  as_is w = w

  -- Where the message lies that it hands on.
  abbrev Lies : OneStep → Type 0
  Lies r = LiesAt (decided r) buffer r.answer

  back-dropped : (a : Received) → back (one_dropping kept a) ≡ wrote (dropped e h.series) a buffer
  back-dropped a = ap (λ (r : Receiver). wrote r a buffer) (back_at e h.series o kept.last logged_in)

  back-complete : (origin : Origin) (c : Span) (target : Target) (after : List ℕ)
      → copied_to target content buffer ≡ after
      → back (one_completing kept h origin c target)
      ≡ wrote (advance e h.series h.number logged_in) (one_completing kept h origin c target).answer after
  back-complete origin c target after x =
      rw x
      (ap (λ (r : Receiver). wrote r (one_completing kept h origin c target).answer after)
      (back_at e h.series o h.number logged_in))

  back-kept : (held pieces : ℕ) (target : Target) (after : List ℕ) → copied_to target content buffer ≡ after
      → back (one_keeping kept h.tid held pieces target)
      ≡ wrote (advance e h.series kept.last (holding h.tid held (one_more pieces))) (Partial kept.last) after
  back-kept held pieces target after x =
      rw x
      (ap (λ (r : Receiver). wrote r (Partial kept.last) after)
      (back_at e h.series o kept.last (holding h.tid held (one_more pieces))))

  module _ (held pieces : ℕ) where
    -- 18, and the place of the piece.
    abbrev small : Bool
    small = buffer_short e buffer || chain_long held content

    abbrev to : ℕ
    to = 32768 * place_of + held

    room-same : no_room e.kept.count (length buffer) held at.len ≡ small
    room-same = rw (parts-of e places, n)

    room_fits : small ≡ false → to + length content ≤ length buffer
    unfolding part_start
    room_fits q =
        let x = or-neither (buffer_short e buffer) (chain_long held content) q in
        let a = ltb-false (length buffer) (all_parts e) x.0 in
        let b = ltb-false 32768 (held + length content) x.1 in
        omega (arith, a, b, part-inside e places h.series o)

    copied : small ≡ false → copied_to (Some to) content buffer ≡ put buffer to content
    copied q = rw (le-leb (to + length content) (length buffer) (room_fits q))

    back-holds : back (one_holds kept place_of e.kept.count h held pieces false at.len (length buffer))
        ≡ holds e h held pieces content buffer
    unfolding one_holds part_start
    back-holds =
        rw (room-same, ← n)
        (by_row back as_is small _ _ _ _ (back-dropped (NotTaken TooSmall))
        (λ q. back-kept (held + length content) pieces (Some to) _ (copied q)))

    back-hands : back (one_holds kept place_of e.kept.count h held pieces true at.len (length buffer))
        ≡ hands_on e h held content buffer
    unfolding one_holds part_start
    back-hands =
        rw (room-same, ← n)
        (by_row back as_is small _ _ _ _ (back-dropped (NotTaken TooSmall))
        (λ q. back-complete FromBuffer (span (32768 * place_of) (held + length content)) (Some to) _ (copied q)))

    -- It is the end of the message in the part.
    held-lies : (whole : Bool)
        → Lies (one_holds kept place_of e.kept.count h held pieces whole at.len (length buffer))
    unfolding one_holds
    held-lies whole =
        by-when Lies (no_room e.kept.count (length buffer) held at.len) (λ q. tt)
        (λ q. by-when Lies whole (λ w. whole-lies (sym room-same ∙ q)) (λ w. tt))
      where
        whole-lies : small ≡ false
            → Lies (one_completing kept h FromBuffer (span (32768 * place_of) (held + at.len)) (Some to))
        whole-lies q = (omega arith, omega arith, omega (arith, room_fits q, n))

  module _ (place : PacketPlace) where
    back-piece : (c : Chain)
        → back (one_piece kept live place_of e.kept.count h place at (length buffer) c)
        ≡ next_piece e h place at content buffer c
    back-piece Single =
        by_row back as_is (misplaced place 0) _ _ _ _ (back-dropped (NotTaken BrokenChain))
        (λ q. back-complete FromPacket at None buffer refl)
    back-piece First =
        by_row back as_is (misplaced place 0) _ _ _ _ (back-dropped (NotTaken BrokenChain)) (λ q. back-holds 0 0)
    back-piece Middle =
        by_row back as_is (out_of_chain live h place) _ _ _ _ (back-dropped (NotTaken BrokenChain))
        (λ q. back-holds live.held live.pieces)
    back-piece Last =
        by_row back as_is (out_of_chain live h place) _ _ _ _ (back-dropped (NotTaken BrokenChain))
        (λ q. back-hands live.held live.pieces)

    piece-lies : (c : Chain) → Lies (one_taken kept live place_of e.kept.count h at (length buffer) c)
    piece-lies Single = (refl, refl)
    piece-lies First = held-lies 0 0 false
    piece-lies Middle = held-lies live.held live.pieces false
    piece-lies Last = held-lies live.held live.pieces true

    -- The next piece is past row 15.
    abbrev Past : Wrote Receiver Received → Type 0
    Past w = receive_past w.answer ≡ true

    past-handed : (origin : Origin) (c : Span) (target : Target)
        → receive_past (one_completing kept h origin c target).answer ≡ true
    past-handed origin c target = refl

    past-piece : (c : Chain) → Past (next_piece e h place at content buffer c)
    past-piece Single = by-when Past (misplaced place 0) (λ q. refl) (λ q. past-handed FromPacket at None)
    past-piece First =
        by-when Past (misplaced place 0) (λ q. refl) (λ q. by-when Past (small 0 0) (λ r. refl) (λ r. refl))
    past-piece Middle =
        by-when Past (out_of_chain live h place) (λ q. refl)
        (λ q. by-when Past (small live.held 0) (λ r. refl) (λ r. refl))
    past-piece Last =
        by-when Past (out_of_chain live h place) (λ q. refl)
        (λ q. by-when Past (small live.held 0) (λ r. refl)
        (λ r. past-handed FromBuffer (span (part_start e h.series) (live.held + length content)) None))

    module _ (floor date : TradeDate) where
      abbrev low : Bool
      low = before kept.date floor

      abbrev taken : OneStep
      taken = takes_one floor kept live place_of e.kept.count h date place at (length buffer)

      -- The law: putting back what the packet leaves of its series.
      pub back-taken : back taken
          ≡ floored low e h.series buffer (receive_with e h date place at content buffer)
      unfolding takes_one receive_with
      back-taken =
          rw o
          (by_row back lowered (not live.login) _ _ _ _
          (ap (λ (r : Receiver). wrote r (NotTaken NotLoggedIn) buffer) (back-same e h.series o))
          (λ q1. by_row back lowered (differs date kept.date) _ _ _ _ (back-dropped (NotTaken OtherDay))
          (λ q2. low-row back low e h.series buffer _ _ _ (back-dropped (NotTaken OtherDay))
          (by_row back as_is (out_of_line kept.last h.number) _ _ _ _ (back-dropped (NotTaken OutOfLine))
          (λ q3. by_row back as_is (leb h.number kept.last) _ _ _ _ (back-dropped (Duplicate kept.last))
          (λ q4. back-piece h.chain)))
          (by-when Past (out_of_line kept.last h.number) (λ q3. refl)
          (λ q3. by-when Past (leb h.number kept.last) (λ q4. refl) (λ q4. past-piece h.chain))))))
        where
          lowered : Wrote Receiver Received → Wrote Receiver Received
          lowered = floored low e h.series buffer

      pub taken-lies : Lies taken
      unfolding takes_one
      taken-lies =
          by-when Lies (not live.login) (λ q. tt)
          (λ q. by-when Lies (differs date kept.date) (λ q. tt)
          (λ q. by-when Lies low (λ q. tt)
          (λ q. by-when Lies (out_of_line kept.last h.number) (λ q. tt)
          (λ q. by-when Lies (leb h.number kept.last) (λ q. tt)
          (λ q. by-when Lies (wrong_piece live h place h.chain) (λ q. tt) (λ q. piece-lies h.chain))))))

-- ─── The decision on a message packet ───

module _ (e : Receiver) (places : Eight e) (floor : TradeDate) (h : Header) (date : TradeDate) (place : PacketPlace)
    (at : Span) (content buffer : List ℕ) (n : length content ≡ at.len) where
  -- What is decided: with the piece copied, it is Receive's.
  abbrev pub Decided : Decision → Type 0
  Decided r =
      (copying r content buffer
      ≡ floored (before (kept_of e h.series).date floor) e h.series buffer
      (receive_with e h date place at content buffer))
      × (r.series ≡ h.series)
      × (r.content ≡ at)
      × LiesAt r buffer r.answer

  pub decided-with : Decided (decides_with floor e h date place at (length buffer))
  unfolding decides_with receive_with
  decided-with =
      by-when Decided (not (is_open e h.series)) (λ q. (rw q, refl, refl, tt))
      (λ q. let o = not-false (is_open e h.series) q in (
        back-taken e places h o at content buffer n place floor date,
        refl,
        refl,
        taken-lies e places h o at content buffer n place floor date,
      ))

-- What `find` answered of the packet's series.
module _ (e : Receiver) (floor : TradeDate) (h : Header) (date : TradeDate) (place : PacketPlace) (at : Span) (size : ℕ)
    (f : SeriesPlace) (g : FindsKept e h.series f) where
  -- 13.
  pub take-unknown : f ≡ None
      → stayed e (NotTaken UnknownSeries) h.series at ≡ decides_with floor e h date place at size
  unfolding decides_with
  take-unknown u =
      let n : is_open e h.series ≡ false = rw u at g in
      rw n

  -- The series at the place, what the packet leaves of it, and the end with it.
  pub take_found : (i : ℕ) (u : f ≡ Some i) (r : OneStep)
      → r
      ≡ takes_one floor (get_or e.kept.series i (new_kept 0)) (get_or e.live.series i no_live) i e.kept.count h
      date place at size
      → (end : Receiver) → end ≡ series_at e i r.kept r.live
      → record { end = end; answer = r.answer; series = h.series; content = at; target = r.target }
      ≡ decides_with floor e h date place at size
  unfolding decides_with
  take_found i u r x end y =
      let k = found_at e h.series f i g u in
      let z = rw (kept_at e h.series i k.1, live_at e h.series i k.1) at x in
      rw (k.0, y, z, k.1)

-- ─── The chain of a series is dropped ───

module _ (e : Receiver) (s : ℕ) (f : SeriesPlace) (g : FindsKept e s f) where
  pub drop-unknown : f ≡ None → e ≡ dropped_of e s
  unfolding dropped_of
  drop-unknown u =
      let n : is_open e s ≡ false = rw u at g in
      rw n

  pub drop-found : (i : ℕ) → f ≡ Some i → (end : Receiver)
      → end ≡ series_at e i (get_or e.kept.series i (new_kept 0)) logged_in → end ≡ dropped_of e s
  unfolding dropped_of
  drop-found i u end x =
      let k = found_at e s f i g u in
      let z : end ≡ series_at e i (kept_of e s) logged_in = rw (kept_at e s i k.1) at x in
      rw k.0 (z ∙ rw k.1 (back_at e s k.0 (kept_of e s).last logged_in))
