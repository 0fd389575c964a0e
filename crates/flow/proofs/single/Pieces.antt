-- Every piece counted (02, No. 10), of any end: what Receive does with a place. Assumes nothing.
use Prim.Native.Nat.{ℕ, zero, suc, ◌+◌, ◌≤◌, ◌<◌}
use native.Mathlib.Omega.{arith}
use mathlib.Core.Path.{◌≡◌, refl, ap, ◌∙◌}
use mathlib.Core.Logic.{◌↔◌}
use mathlib.Core.List.{List, [], ◌∷◌}
use mathlib.Core.Bool.{Bool, true, false, cond, not, ◌&&◌, ◌||◌}
use borrow.Author.Tests.{le-ltb, lt-leb, le-leb, eq-eqb, ne_eqb, eqb-true, eqb-false}
use mathlib.Core.Option.{some}
use lib.ListN.{length, get_or, set, get_elem?}
use lib.Seq.{take-append_seam, get_or-set_same, get_or-set_other}
use lib.Dec.{ltb, leb, eqb}
use Rattle.ftd.specs.Bytes.{part}
use Rattle.ftd.specs.Packet.{extension_of, dated_of}
use Rattle.ftd.specs.Tags.{extension_bytes}
use Rattle.ftd.specs.Write.{packet_bytes, message_bytes}
use Rattle.ftd.specs.Chain.{Piece, pieces_of, chain_at, is_nil, tags_at, packet_for, framed, packets_of}
use Rattle.ftd.specs.declared.chain.Message.{Message as Headed}
use Rattle.ftd.specs.declared.refusal.Refusal.TheVariants.{BrokenChain}
use Rattle.ftd.specs.Types.{TradeDate}
use Rattle.ftd.specs.Types.{PacketPlace}
use Rattle.ftd.specs.declared.packet.Span.{Span}
use Rattle.ftd.specs.declared.packet.Chain.{Chain}
use Rattle.ftd.specs.declared.packet.Chain.TheVariants.{Single, First, Middle, Last}
use Rattle.ftd.specs.declared.packet.Header.{Header}
use Rattle.ftd.specs.declared.packet.Packet.TheVariants.{Message}
use Rattle.flow.specs.declared.receiver.KeptSeries.{KeptSeries}
use Rattle.flow.specs.declared.receiver.LiveSeries.{LiveSeries}
use Rattle.flow.specs.declared.receiver.Receiver.{Receiver}
use Rattle.flow.specs.declared.receiver.Received.{Received}
use Rattle.flow.specs.declared.receiver.Received.TheVariants.{Partial, Refused}
use Rattle.flow.specs.Ends.{◌when◌else◌, Wrote, wrote, most_messages, index_of, no_live, logged_in, holding, kept_series, is_open}
use Rattle.flow.specs.Ends.{kept_of, live_of, with_series}
use Rattle.flow.specs.Receiving.{out_of_line, broken_chain, misplaced, one_more, buffer_short, chain_long, dropped, holds, hands_on, next_piece}
use Rattle.flow.specs.Receiving.{receive_with, receive_of}
use Rattle.flow.specs.EveryPiece.{held_before, goes_on, InLine, ChainDropped, Broken, received_unplaced}
use Rattle.flow.proofs.common.Rows.{by-when}
use Rattle.flow.proofs.ends.ReceiverLookups.{series-with, open-with, kept-with, kept-beside}
use Rattle.flow.proofs.ends.Lookups.{index-differs}
use Rattle.std.specs.Prelude.{Some, None}

-- ─── One series changed ───

-- What is logged in has a place in the list.
live_inside : (l : List LiveSeries) (i : ℕ) → (get_or l i no_live).login ≡ true → i < length l
live_inside [] i h = absurd (let z : ◌≡◌ {A = ℕ} 0 1 = cc in omega arith)
live_inside (x ∷ l) zero h = omega arith
live_inside (x ∷ l) (suc i) h = let k = live_inside l i h in omega arith

module _ (e : Receiver) (s : ℕ) (o : is_open e s ≡ true) (i : (live_of e s).login ≡ true) (date : TradeDate) (last : ℕ)
    (live : LiveSeries) where
  live-place : (t : ℕ) → live_of (with_series e s date last live) t ≡ get_or
      (set e.live.series (index_of s (kept_series e)) live) (index_of t (kept_series e)) no_live
  unfolding live_of with_series
  live-place t =
      ap (λ (l : List ℕ). get_or (set e.live.series (index_of s (kept_series e)) live) (index_of t l) no_live)
      (series-with e s o date last live)

  live-is : live_of (with_series e s date last live) s ≡ live
  unfolding live_of
  live-is =
      live-place s
      ∙ get_or-set_same e.live.series (index_of s (kept_series e)) live no_live
      (live_inside e.live.series (index_of s (kept_series e)) i)

  live-beside : (t : ℕ) → (t ≡ s → ⊥) → live_of (with_series e s date last live) t ≡ live_of e t
  unfolding live_of is_open
  live-beside t n =
      live-place t
      ∙ get_or-set_other e.live.series (index_of s (kept_series e)) (index_of t (kept_series e)) live no_live
      (index-differs t s (kept_series e) o n)

chain-dropped : (e : Receiver) (s : ℕ) → is_open e s ≡ true → (live_of e s).login ≡ true → ChainDropped e (dropped e s) s
chain-dropped e s o i =
    record {
      opens = open-with e s o (kept_of e s).date (kept_of e s).last logged_in;
      dates = λ t. go t (λ (x : KeptSeries). x.date) refl;
      lasts = λ t. go t (λ (x : KeptSeries). x.last) refl;
      chain = live-is e s o i (kept_of e s).date (kept_of e s).last logged_in;
      others = live-beside e s o i (kept_of e s).date (kept_of e s).last logged_in;
    }
  where
    go : {A : Type 0} (t : ℕ) (f : KeptSeries → A)
        → f (record { series = s; date = (kept_of e s).date; last = (kept_of e s).last }) ≡ f (kept_of e s)
        → f (kept_of (dropped e s) t) ≡ f (kept_of e t)
    go t f same = by (eqb t s) refl
      where
        by : (b : Bool) → eqb t s ≡ b → f (kept_of (dropped e s) t) ≡ f (kept_of e t)
        by true q =
            rw (eqb-true t s q)
            (ap f (kept-with e s o (kept_of e s).date (kept_of e s).last logged_in) ∙ same)
        by false q =
            ap f (kept-beside e s o (kept_of e s).date (kept_of e s).last logged_in t (eqb-false t s q))

-- ─── The next number's packet ───

or-true : (b : Bool) → (b || true) ≡ true
or-true true = refl
or-true false = refl

module _ (e : Receiver) (p buffer : List ℕ) (h : Header) (f : InLine e p h) where
  in-line : (last k : ℕ) → k ≡ last + 1 → k ≤ most_messages → (out_of_line last k ≡ false) × (leb k last ≡ false)
  in-line last k a b =
      let x = ne_eqb k 0 λ z. omega arith in
      let y = le-ltb (last + 1) k (omega arith) in
      let z = le-ltb most_messages k b in
      (rw (x, y, z) refl, lt-leb k last (omega arith))

  abbrev bytes : List ℕ
  bytes = part p f.content.start f.content.len

  next-is : receive_of e p buffer ≡ next_piece e h (dated_of p).place f.content bytes buffer h.chain
  unfolding receive_of receive_with
  next-is =
      let l = in-line (kept_of e h.series).last h.number f.number f.few in
      rw (f.one, f.read, f.open-series, f.login, f.day, l.0, l.1) refl

  abbrev away : Wrote Receiver Received
  away = wrote (dropped e h.series) (Refused BrokenChain) buffer

  strays : (at : Span) (content : List ℕ) (j : ℕ) (x : Chain) → (j ≡ held_before e h x → ⊥)
      → next_piece e h (Some j) at content buffer x ≡ away
  strays at content j Single n = rw (ne_eqb j 0 n) refl
  strays at content j First n = rw (ne_eqb j 0 n) refl
  strays at content j Middle n =
      rw (ne_eqb j (live_of e h.series).pieces n, or-true (broken_chain (live_of e h.series) h)) refl
  strays at content j Last n =
      rw (ne_eqb j (live_of e h.series).pieces n, or-true (broken_chain (live_of e h.series) h)) refl

  broken : receive_of e p buffer ≡ away → Broken e p buffer h.series
  broken q =
      record {
        answer = ap (λ (r : Wrote Receiver Received). r.answer) q;
        bytes = ap (λ (r : Wrote Receiver Received). r.bytes) q;
        dropped = rw q (chain-dropped e h.series f.open-series f.login);
      }

pub compared : (e : Receiver) (p buffer : List ℕ) (h : Header) (j : ℕ) → InLine e p h → (dated_of p).place ≡ Some j
    → (j ≡ held_before e h h.chain → ⊥) → Broken e p buffer h.series
compared e p buffer h j f q n =
    broken e p buffer h f
    (next-is e p buffer h f
    ∙ rw q (strays e p buffer h f f.content (bytes e p buffer h f) j h.chain n))

pub full : (e : Receiver) (p buffer : List ℕ) (h : Header) (j : ℕ) → InLine e p h → (dated_of p).place ≡ Some j
    → j < 65536 → goes_on h.chain ≡ true → (live_of e h.series).pieces ≡ 65536 → Broken e p buffer h.series
full e p buffer h j f q low g m = compared e p buffer h j f q (go h.chain g)
  where
    go : (x : Chain) → goes_on x ≡ true → j ≡ held_before e h x → ⊥
    go Single g z = let y : ◌≡◌ {A = ℕ} 0 1 = cc in omega arith
    go First g z = let y : ◌≡◌ {A = ℕ} 0 1 = cc in omega arith
    go Middle g z = omega arith
    go Last g z = omega arith

-- ─── Where no place is compared ───

pub unplaced : (e : Receiver) (p buffer : List ℕ) → (dated_of p).place ≡ None
    → receive_of e p buffer ≡ received_unplaced e p buffer
unfolding receive_of
unplaced e p buffer q = rw q refl

pub repeated : (e : Receiver) (p buffer : List ℕ) (h : Header) (extension c : Span)
    → (dated_of p).packet ≡ Message h extension c → h.number ≤ (kept_of e h.series).last
    → receive_of e p buffer ≡ received_unplaced e p buffer
unfolding receive_of receive_with
repeated e p buffer h extension c q l = rw (q, le-leb h.number (kept_of e h.series).last l) refl

module _ (e : Receiver) (h : Header) (date : TradeDate) (at : Span) (content buffer : List ℕ) where
  agrees : (x : Chain) → next_piece e h (Some (held_before e h x)) at content buffer x
      ≡ next_piece e h None at content buffer x
  agrees Single = refl
  agrees First = refl
  agrees Middle = rw (eq-eqb (live_of e h.series).pieces (live_of e h.series).pieces refl) refl
  agrees Last = rw (eq-eqb (live_of e h.series).pieces (live_of e h.series).pieces refl) refl

  agrees-with : receive_with e h date (Some (held_before e h h.chain)) at content buffer
      ≡ receive_with e h date None at content buffer
  unfolding receive_with
  agrees-with = rw (agrees h.chain) refl

pub agreeing : (e : Receiver) (p buffer : List ℕ) (h : Header) (extension c : Span)
    → (dated_of p).packet ≡ Message h extension c → (dated_of p).place ≡ Some (held_before e h h.chain)
    → receive_of e p buffer ≡ received_unplaced e p buffer
unfolding receive_of
agreeing e p buffer h extension c q g =
    rw (q, g, agrees-with e h (dated_of p).date c (part p c.start c.len) buffer) refl

-- ─── 17 without a place, and the count ───

module _ (e : Receiver) (buffer : List ℕ) (h : Header) (at : Span) (content : List ℕ) where
  abbrev Not-17 : Wrote Receiver Received → Type 0
  Not-17 r = r.answer ≡ Refused BrokenChain → ⊥

  -- Where a test stands before what is never 17, 17 is that test.
  later : (b : Bool) (r : Wrote Receiver Received) → Not-17 r
      → ((wrote (dropped e h.series) (Refused BrokenChain) buffer when b || false else r).answer
      ≡ Refused BrokenChain) ↔ (b ≡ true)
  later true r n = (λ q. refl, λ q. refl)
  later false r n = (λ q. absurd (n q), λ q. absurd (let z : ◌≡◌ {A = ℕ} 0 1 = cc in omega arith))

  never : (r : Wrote Receiver Received) → Not-17 r
      → (r.answer ≡ Refused BrokenChain) ↔ (◌≡◌ {A = Bool} false true)
  never r n = (λ q. absurd (n q), λ q. absurd (let z : ◌≡◌ {A = ℕ} 0 1 = cc in omega arith))

  holds_not : (held pieces : ℕ) → Not-17 (holds e h held pieces content buffer)
  holds_not held pieces =
      by-when Not-17 (buffer_short e buffer || chain_long held content)
      (λ a q. let z : ◌≡◌ {A = ℕ} 0 1 = cc in omega arith) λ a q. let z : ◌≡◌ {A = ℕ} 0 1 = cc in omega arith

  hands-not : (held : ℕ) → Not-17 (hands_on e h held content buffer)
  hands-not held =
      by-when Not-17 (buffer_short e buffer || chain_long held content)
      (λ a q. let z : ◌≡◌ {A = ℕ} 0 1 = cc in omega arith) λ a q. let z : ◌≡◌ {A = ℕ} 0 1 = cc in omega arith

  next-17 : (x : Chain) → ((next_piece e h None at content buffer x).answer ≡ Refused BrokenChain)
      ↔ ((goes_on x && broken_chain (live_of e h.series) h) ≡ true)
  next-17 Single =
      never (next_piece e h None at content buffer Single) λ q. let z : ◌≡◌ {A = ℕ} 0 1 = cc in omega arith
  next-17 First = never (next_piece e h None at content buffer First) (holds_not 0 0)
  next-17 Middle =
      later (broken_chain (live_of e h.series) h) _
      (holds_not (live_of e h.series).held (live_of e h.series).pieces)
  next-17 Last =
      later (broken_chain (live_of e h.series) h) _ (hands-not (live_of e h.series).held)

pub as_before : (e : Receiver) (p buffer : List ℕ) (h : Header) → InLine e p h → (dated_of p).place ≡ None
    → ((receive_of e p buffer).answer ≡ Refused BrokenChain)
    ↔ ((goes_on h.chain && not ((live_of e h.series).chain && eqb (live_of e h.series).tid h.tid)) ≡ true)
as_before e p buffer h f q =
    rw (next-is e p buffer h f, q) (next-17 e buffer h f.content (bytes e p buffer h f) h.chain)

module _ (e : Receiver) (buffer : List ℕ) (h : Header) (last : ℕ) (o : is_open e h.series ≡ true)
    (i : (live_of e h.series).login ≡ true) (place : PacketPlace) (at : Span) (content : List ℕ) where
  abbrev Counts : ℕ → Wrote Receiver Received → Type 0
  Counts n r =
      r.answer ≡ Partial last → (live_of r.end h.series).pieces ≡ cond (ltb n 65536) (n + 1) 65536

  holds-counts : (held n : ℕ) → Counts n (holds e h held n content buffer)
  holds-counts held n =
      by-when (Counts n) (buffer_short e buffer || chain_long held content)
      (λ a q. absurd (let z : ◌≡◌ {A = ℕ} 0 1 = cc in omega arith)) λ a q.
      ap (λ (l : LiveSeries). l.pieces)
      (live-is e h.series o i (kept_of e h.series).date (kept_of e h.series).last
      (holding h.tid (held + length content) (one_more n)))

  hands-counts : (held n : ℕ) → Counts n (hands_on e h held content buffer)
  hands-counts held n =
      by-when (Counts n) (buffer_short e buffer || chain_long held content)
      (λ a q. absurd (let z : ◌≡◌ {A = ℕ} 0 1 = cc in omega arith)) λ a q.
      absurd (let z : ◌≡◌ {A = ℕ} 0 1 = cc in omega arith)

  next-counts : (x : Chain) → Counts (held_before e h x) (next_piece e h place at content buffer x)
  next-counts Single =
      by-when (Counts 0) (misplaced place 0) (λ a q. absurd (let z : ◌≡◌ {A = ℕ} 0 1 = cc in omega arith)) λ a q.
      absurd (let z : ◌≡◌ {A = ℕ} 0 1 = cc in omega arith)
  next-counts First =
      by-when (Counts 0) (misplaced place 0) (λ a q. absurd (let z : ◌≡◌ {A = ℕ} 0 1 = cc in omega arith)) λ a.
      holds-counts 0 0
  next-counts Middle =
      by-when (Counts (live_of e h.series).pieces)
      (broken_chain (live_of e h.series) h || misplaced place (live_of e h.series).pieces)
      (λ a q. absurd (let z : ◌≡◌ {A = ℕ} 0 1 = cc in omega arith)) λ a.
      holds-counts (live_of e h.series).held (live_of e h.series).pieces
  next-counts Last =
      by-when (Counts (live_of e h.series).pieces)
      (broken_chain (live_of e h.series) h || misplaced place (live_of e h.series).pieces)
      (λ a q. absurd (let z : ◌≡◌ {A = ℕ} 0 1 = cc in omega arith)) λ a.
      hands-counts (live_of e h.series).held (live_of e h.series).pieces

pub counts : (e : Receiver) (p buffer : List ℕ) (h : Header) (last : ℕ) → InLine e p h
    → (receive_of e p buffer).answer ≡ Partial last
    → (live_of (receive_of e p buffer).end h.series).pieces
    ≡ cond (ltb (held_before e h h.chain) 65536) (held_before e h h.chain + 1) 65536
counts e p buffer h last f =
    rw (next-is e p buffer h f)
    (next-counts e buffer h last f.open-series f.login (dated_of p).place f.content (bytes e p buffer h f)
    h.chain)

-- ─── The extension of a packet ───

one-tags : (m : Headed) (j : ℕ) (c : Chain) (x : Piece) → extension_of (packet_for m j c x) ≡ extension_bytes (tags_at m j)
unfolding extension_of packet_for message_bytes packet_bytes
one-tags m j c x = take-append_seam (extension_bytes (tags_at m j)) _

framed-tags : (m : Headed) (j : ℕ) (xs : List Piece) (i : ℕ) (p : List ℕ) → get_elem? (framed m j xs) i ≡ some p
    → extension_of p ≡ extension_bytes (tags_at m (j + i))
framed-tags m j [] i p q = absurd (let z : ◌≡◌ {A = ℕ} 0 1 = cc in omega arith)
framed-tags m j (x ∷ xs) zero p q =
    let is : packet_for m j (chain_at (eqb j 0) (is_nil xs)) x ≡ p = cc in
    let same : j + 0 ≡ j = omega arith in
    rw (same, ← is) (one-tags m j (chain_at (eqb j 0) (is_nil xs)) x)
framed-tags m j (x ∷ xs) (suc i) p q =
    let same : j + suc i ≡ suc j + i = omega arith in rw same (framed-tags m (suc j) xs i p q)

pub packet-tags : (m : Headed) (content : List ℕ) (i : ℕ) (p : List ℕ) → get_elem? (packets_of m content) i ≡ some p
    → extension_of p ≡ extension_bytes (tags_at m i)
unfolding packets_of
packet-tags m content i p q =
    let same : 0 + i ≡ i = omega arith in rw same at (framed-tags m 0 (pieces_of content) i p q)
