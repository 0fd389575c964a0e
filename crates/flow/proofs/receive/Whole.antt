-- Receive whole: each way from the packet to what is decided, and the copying behind it; over plain variables. Assumes
-- nothing.
use Prim.Native.Nat.{ℕ, ◌+◌, ◌-◌, ◌<◌, ◌≤◌}
use native.Mathlib.Omega.{arith}
use mathlib.Core.Path.{◌≡◌, refl, ap, ◌∙◌}
use mathlib.Core.List.{List, [], ◌∷◌}
use mathlib.Core.Bool.{Bool, true, false, ◌&&◌}
use borrow.Author.Tests.{le-ltb}
use lib.ListN.{length, take, drop, length-drop}
use lib.Seq.{length-take-le}
use types.Run.{OneOf, miss}
use denote.Enum.Declared.{tag_of}
use Rattle.ftd.specs.Packet.{span, not_one_packet, dated_of}
use Rattle.ftd.specs.Refusal.{number_of}
use Rattle.ftd.specs.declared.refusal.Refusal.{Refusal}
use Rattle.ftd.specs.declared.refusal.Refusal.TheVariants.{NotOnePacket}
use Rattle.ftd.specs.Types.{TradeDate}
use Rattle.ftd.specs.Types.{PacketPlace}
use Rattle.ftd.specs.declared.packet.Header.{Header}
use Rattle.ftd.specs.declared.packet.Span.{Span}
use Rattle.ftd.specs.declared.packet.Dated.{Dated}
use Rattle.ftd.specs.declared.packet.Packet.{Packet}
use Rattle.ftd.specs.declared.packet.Packet.TheVariants.{Short, Link, Skipped, Message}
use Rattle.ftd.specs.declared.packet.Packet.TheVariants.{Refused as Unread}
use Rattle.ftd.specs.contracts.packet.Packet.{the_type}
use Rattle.flow.specs.declared.receiver.Receiver.{Receiver}
use Rattle.flow.specs.declared.receiver.ReceiveStep.{ReceiveStep}
use Rattle.flow.specs.declared.receiver.Received.{Received}
use Rattle.flow.specs.declared.receiver.Received.TheVariants.{Idle}
use Rattle.flow.specs.declared.receiver.Received.TheVariants.{Refused as NotTaken}
use Rattle.flow.specs.declared.receiver.Decision.{Decision}
use Rattle.flow.specs.Ends.{Wrote, wrote, before, kept_of}
use Rattle.flow.specs.Answers.{received_said}
use Rattle.flow.specs.Receiving.{receive_with, receive_read, receive_of}
use Rattle.flow.specs.Deciding.{receive_past, receive_from, copied_to, span_of, LiesAt, Decides}
use Rattle.flow.specs.Promises.{Receives}
use Rattle.flow.specs.ReceiveHelpers.{stayed, decides_with}
use Rattle.flow.specs.World.{series_in}
use Rattle.flow.proofs.calls.Receive.{Low, read_low}
use Rattle.flow.proofs.ends.ReceiverLookups.{Eight}
use Rattle.flow.proofs.login.Whole.{as-part, read-inside}
use Rattle.flow.proofs.receive.Back.{Decided, decided-with}
use Rattle.std.specs.Prelude.{Some, None}

-- A part that lies in the bytes has its length.
span-length : (p : List ℕ) (c : Span) → c.start + c.len ≤ length p → length (span_of p c) ≡ c.len
span-length p c h = length-take-le c.len (drop c.start p) (rw length-drop (omega arith))

-- ─── The series that was read ───

pub series-message : (q : Packet) (h : Header) (x c : Span) → q ≡ Message h x c → h.series ≡ series_in q
series-message q h x c k = rw k

pub series-other : (q : Packet) → OneOf (0 ∷ 1 ∷ 2 ∷ 4 ∷ []) (tag_of the_type q) → 0 ≡ series_in q
series-other (Short n) k = refl
series-other (Link kind extension) k = refl
series-other (Skipped kind extension body) k = refl
series-other (Message h extension c) k = absurd (miss (0 ∷ 1 ∷ 2 ∷ 4 ∷ []) 3 tt k)
series-other (Unread r) k = refl

-- ─── What is decided ───

module _ (e : Receiver) (floor : TradeDate) (p buffer : List ℕ) where
  -- The series of the packet.
  abbrev s-of : ℕ
  s-of = series_in (dated_of p).packet

  -- The end stays, with an answer that does not come past row 15.
  module _ (a : Received) (stops : receive_past a ≡ false) (lies : (r : Decision) → LiesAt r buffer a)
      (means : wrote e a buffer ≡ receive_of e p buffer) where
    stays : (s : ℕ) → s ≡ s-of → (r : Decision) → r ≡ stayed e a s (span 0 0) → Decides e floor p buffer r
    unfolding receive_from
    stays s q r x =
        rw (x, ← means, stops)
        (refl, q, omega arith, lies (stayed e a s (span 0 0)))

  -- What the reader refuses.
  low-refused : (x : Packet) (r : Refusal) → Low x → x ≡ Unread r → receive_past (NotTaken r) ≡ false
  low-refused x r l q =
      let k : number_of r < 13 = rw q at l in
      le-ltb 15 (number_of r) (omega arith)

  -- A link packet or a skipped one.
  idle-read : (date : TradeDate) (place : PacketPlace) (q : Packet) → OneOf (1 ∷ 2 ∷ []) (tag_of the_type q)
      → (wrote e Idle buffer ≡ receive_read e p buffer date place q) × (0 ≡ series_in q)
  idle-read date place (Short n) k = absurd (miss (1 ∷ 2 ∷ []) 0 tt k)
  idle-read date place (Link kind extension) k = (refl, refl)
  idle-read date place (Skipped kind extension body) k = (refl, refl)
  idle-read date place (Message h extension c) k = absurd (miss (1 ∷ 2 ∷ []) 3 tt k)
  idle-read date place (Unread r) k = absurd (miss (1 ∷ 2 ∷ []) 4 tt k)

  module _ (d : Dated) (m : d ≡ dated_of p) where
    series-of : (s : ℕ) → s ≡ series_in d.packet → s ≡ s-of
    series-of s q = q ∙ ap (λ (x : Dated). series_in x.packet) m

    module _ (b : Bool) (k : b ≡ not_one_packet p) where
      pub not-packet : b ≡ true → (s : ℕ) → s ≡ series_in d.packet → (r : Decision)
          → r ≡ stayed e (NotTaken NotOnePacket) s (span 0 0) → Decides e floor p buffer r
      unfolding receive_of
      not-packet x s q = stays (NotTaken NotOnePacket) refl (λ r. tt) (rw (← k, x)) s (series-of s q)

      module _ (y : b ≡ false) where
        by_read : (w : Wrote Receiver Received) → w ≡ receive_read e p buffer d.date d.place d.packet
            → w ≡ receive_of e p buffer
        unfolding receive_of
        by_read w x = rw (← k, y, ← m) x

        pub read-refused : (a : Refusal) → d.packet ≡ Unread a → (r : Decision)
            → r ≡ stayed e (NotTaken a) 0 (span 0 0) → Decides e floor p buffer r
        read-refused a x =
            stays (NotTaken a)
            (low-refused d.packet a (rw (← m) at (read_low p)) x) (λ r. tt) (by_read _ (rw x)) 0 (series-of 0 (rw x))

        pub read_short : (n : ℕ) → d.packet ≡ Short n → (r : Decision)
            → r ≡ stayed e (NotTaken NotOnePacket) 0 (span 0 0) → Decides e floor p buffer r
        read_short n x =
            stays (NotTaken NotOnePacket) refl (λ r. tt) (by_read _ (rw x)) 0 (series-of 0 (rw x))

        pub read-idle : OneOf (1 ∷ 2 ∷ []) (tag_of the_type d.packet) → (r : Decision)
            → r ≡ stayed e Idle 0 (span 0 0) → Decides e floor p buffer r
        read-idle x =
            let i = idle-read d.date d.place d.packet x in
            stays Idle refl (λ r. tt) (by_read _ i.0) 0 (series-of 0 i.1)

        pub read-message : Eight e → (h : Header) (x c : Span) → d.packet ≡ Message h x c → (r : Decision)
            → r ≡ decides_with floor e h d.date d.place c (length buffer) → Decides e floor p buffer r
        unfolding receive_from
        read-message places h x c z r w =
            let inside = read-inside p d m h x c z in
            let size = span-length p c inside in
            let g : Decided e places floor h d.date d.place c (span_of p c) buffer size r =
            rw w (decided-with e places floor h d.date d.place c (span_of p c) buffer size) in
            let s = series-of h.series (rw z) in
            let means = by_read (receive_with e h d.date d.place c (span_of p c) buffer) (rw z) in
            (rw (g.2, ← s, ← means) g.0, g.1 ∙ s, rw g.2 inside, g.3)

-- ─── Receive: decided with no trade date, and copied ───

before-none : (d : TradeDate) → before d None ≡ false
before-none None = refl
before-none (Some d) = refl

and-false : (a : Bool) → (a && false) ≡ false
and-false true = refl
and-false false = refl

module _ (e : Receiver) (p buffer : List ℕ) where
  -- With no trade date it is Receive.
  from-none : receive_from None e p buffer ≡ receive_of e p buffer
  unfolding receive_from
  from-none =
      rw (
        before-none (kept_of e (series_in (dated_of p).packet)).date,
        and-false (receive_past (receive_of e p buffer).answer),
      )

  -- What is left is the definition's: so are its parts.
  receives : (r : ReceiveStep) (after : List ℕ) → wrote r.end r.answer after ≡ receive_of e p buffer
      → Receives e p buffer r after
  receives r after x = (
    ap (λ (w : Wrote Receiver Received). w.end) x,
    ap (λ (w : Wrote Receiver Received). received_said p w.bytes w.answer) x,
    ap (λ (w : Wrote Receiver Received). w.answer) x,
    ap (λ (w : Wrote Receiver Received). w.bytes) x,
  )

  pub decided-copied : (r : Decision) → Decides e None p buffer r → (after : List ℕ)
      → after
      ≡ copied_to r.target
      (take (r.content.start + r.content.len - r.content.start) (drop r.content.start p)) buffer
      → Receives e p buffer (record { end = r.end; answer = r.answer }) after
  decided-copied r q after x =
      let y = ap (λ (c : List ℕ). copied_to r.target c buffer) (as-part p r.content) in
      receives _ _ (ap (wrote r.end r.answer) (x ∙ y) ∙ q.0 ∙ from-none)
