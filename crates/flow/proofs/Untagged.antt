-- Packets without a trade date. Assumes nothing.
use Prim.Native.Nat.{ℕ}
use native.Mathlib.Omega.{arith}
use mathlib.Core.Path.{◌≡◌, refl, sym, ap, ◌∙◌}
use mathlib.Core.List.{List}
use mathlib.Core.Bool.{Bool, true, false, not, ◌||◌}
use borrow.Author.Tests.{eq-eqb, le-ltb, eqb-true, eqb-false}
use lib.Dec.{T, eqb, leb}
use Rattle.ftd.specs.Bytes.{part}
use Rattle.ftd.specs.Bench.{all_same}
use Rattle.ftd.specs.Packet.{dated_of}
use Rattle.ftd.specs.Refusal.{number_of}
use Rattle.ftd.specs.declared.refusal.Refusal.{Refusal}
use Rattle.ftd.specs.Types.{TradeDate}
use Rattle.ftd.specs.Types.{PacketPlace}
use Rattle.ftd.specs.declared.packet.Span.{Span}
use Rattle.ftd.specs.declared.packet.Chain.{Chain}
use Rattle.ftd.specs.declared.packet.Chain.TheVariants.{Single, First, Middle, Last}
use Rattle.ftd.specs.declared.packet.Header.{Header}
use Rattle.flow.specs.declared.sender.Sender.{Sender}
use Rattle.flow.specs.declared.receiver.KeptSeries.{KeptSeries}
use Rattle.flow.specs.declared.receiver.LiveSeries.{LiveSeries}
use Rattle.flow.specs.declared.receiver.Receiver.{Receiver}
use Rattle.flow.specs.Types.{Confirmed}
use Rattle.flow.specs.declared.receiver.Received.{Received}
use Rattle.flow.specs.Ends.{◌when◌else◌, Left, Wrote, before, differs, is_open, kept_of, live_of}
use Rattle.flow.specs.Answers.{refused, handed_on, is_taken, received_said, confirmed_said}
use Rattle.flow.specs.Serving.{start_of, login_with, login_of}
use Rattle.flow.specs.Receiving.{out_of_line, broken_chain, misplaced, buffer_short, chain_long, advance}
use Rattle.flow.specs.Receiving.{next_piece, receive_with, receive_of, confirm_login_of}
use Rattle.flow.specs.Untagged.{IsMessage, content_of, untagged_rows, Untagged}
use Rattle.flow.proofs.bench.Opened.{opened}
use Rattle.flow.proofs.common.Bools.{clash}
use Rattle.flow.proofs.ends.ReceiverLookups.{kept-with, kept-beside}
use Rattle.flow.proofs.calls.Receiving.{Confirmed-as, confirms, confirm-as}
use Rattle.flow.proofs.calls.Receive.{Why, other-day, out-of-line, astray, broken, no-room-first}
use Rattle.flow.proofs.calls.Receive.{no-room-later, Took, unknown, not_in, repeats, hands-single, holds-first}
use Rattle.flow.proofs.calls.Receive.{holds-middle, hands-last, Received-as, unread, idles, reads, receive-as}
use Rattle.std.specs.Prelude.{Some, None}

-- ─── A trade date beside itself ───

same_differs : (d : TradeDate) → differs d d ≡ false
same_differs None = refl
same_differs (Some d) = rw (eq-eqb d d refl)

same-before : (d : TradeDate) → before d d ≡ false
same-before None = refl
same-before (Some d) = le-ltb d d (omega arith)

before-none : (d : TradeDate) → before d None ≡ false
before-none None = refl
before-none (Some d) = refl

-- ─── Receive ───

-- Of the kept trade date.
same-day : (e : Receiver) (h : Header) (place : PacketPlace) (at : Span) (content buffer : List ℕ)
    → receive_with e h None place at content buffer
    ≡ receive_with e h (kept_of e h.series).date place at content buffer
unfolding receive_with
same-day e h place at content buffer = rw (same_differs (kept_of e h.series).date)

-- Of a message packet, by its parts.
reads_as : (e : Receiver) (p buffer : List ℕ) (h : Header) (x c : Span) → IsMessage p h x c
    → receive_of e p buffer ≡ receive_with e h (dated_of p).date (dated_of p).place c (content_of p c) buffer
unfolding receive_of
reads_as e p buffer h x c m = rw (m.one, m.read)

receive-kept : (e : Receiver) (p buffer : List ℕ) (h : Header) (x c : Span) → IsMessage p h x c
    → (dated_of p).date ≡ None
    → receive_of e p buffer ≡ receive_with e h (kept_of e h.series).date (dated_of p).place c (content_of p c) buffer
receive-kept e p buffer h x c m q =
    reads_as e p buffer h x c m
    ∙ ap (λ (d : TradeDate). receive_with e h d (dated_of p).place c (content_of p c) buffer) q
    ∙ same-day e h (dated_of p).place c (content_of p c) buffer

-- Where a content lies in its packet shows in no word.
module _ (p q : List ℕ) (c d : Span) (alike : content_of p c ≡ content_of q d) where
  abbrev Same : Wrote Receiver Received → Wrote Receiver Received → Type 0
  Same r w =
      (r.end ≡ w.end) × (r.bytes ≡ w.bytes)
      × (received_said p r.bytes r.answer ≡ received_said q w.bytes w.answer)

  by_both : (b : Bool) (x y u v : Wrote Receiver Received) → Same x u → Same y v
      → Same (x when b else y) (u when b else v)
  by_both true x y u v f g = f
  by_both false x y u v f g = g

  module _ (e : Receiver) (h : Header) (date : TradeDate) (place : PacketPlace) (content buffer : List ℕ) where
    abbrev live : LiveSeries
    live = live_of e h.series

    abbrev kept : KeptSeries
    kept = kept_of e h.series

    same_next : (x : Chain) → Same (next_piece e h place c content buffer x) (next_piece e h place d content buffer x)
    same_next Single =
        by_both (misplaced place 0) _ _ _ _ (refl, refl, refl)
        (refl, refl, ap (λ (l : List ℕ). handed_on h.number (record { tid = h.tid; content = l })) alike)
    same_next First =
        by_both (misplaced place 0) _ _ _ _ (refl, refl, refl)
        (by_both (buffer_short e buffer || chain_long 0 content) _ _ _ _ (refl, refl, refl) (refl, refl, refl))
    same_next Middle =
        by_both (broken_chain live h || misplaced place live.pieces) _ _ _ _ (refl, refl, refl)
        (by_both (buffer_short e buffer || chain_long live.held content) _ _ _ _ (refl, refl, refl) (refl, refl, refl))
    same_next Last =
        by_both (broken_chain live h || misplaced place live.pieces) _ _ _ _ (refl, refl, refl)
        (by_both (buffer_short e buffer || chain_long live.held content) _ _ _ _ (refl, refl, refl) (refl, refl, refl))

    same-with : Same (receive_with e h date place c content buffer) (receive_with e h date place d content buffer)
    unfolding receive_with
    same-with =
        by_both (not (is_open e h.series)) _ _ _ _ (refl, refl, refl)
        (by_both (not live.login) _ _ _ _ (refl, refl, refl)
        (by_both (differs date kept.date) _ _ _ _ (refl, refl, refl)
        (by_both (out_of_line kept.last h.number) _ _ _ _ (refl, refl, refl)
        (by_both (leb h.number kept.last) _ _ _ _ (refl, refl, refl) (same_next h.chain)))))

receive-same : (e : Receiver) (p q buffer : List ℕ) (h : Header) (x c y d : Span)
    → IsMessage p h x c → IsMessage q h y d
    → content_of p c ≡ content_of q d → (dated_of p).place ≡ (dated_of q).place
    → (dated_of p).date ≡ None → (dated_of q).date ≡ (kept_of e h.series).date →
    let r = receive_of e p buffer in
    let w = receive_of e q buffer in
    (r.end ≡ w.end) × (r.bytes ≡ w.bytes)
    × (received_said p r.bytes r.answer ≡ received_said q w.bytes w.answer)
receive-same e p q buffer h x c y d m n alike places none kept =
    let a = receive-kept e p buffer h x c m none in
    let b : receive_of e q buffer
    ≡ receive_with e h (kept_of e h.series).date (dated_of p).place d (content_of p c) buffer =
    rw (places, alike, ← kept) (reads_as e q buffer h y d n) in
    rw (a, b) (same-with p q c d alike e h (kept_of e h.series).date (dated_of p).place (content_of p c) buffer)

-- ─── Never 15, and the trade dates stay ───

same_number : (a b : ℕ) → refused a ≡ refused b → a ≡ b
same_number a b h = cc

module _ (e : Receiver) (p buffer : List ℕ) where
  not-fifteen : (h : Header) (date : TradeDate) (place : PacketPlace) (content : List ℕ) → date ≡ None
      → (x : Refusal) → Why e h date place content buffer x → number_of x ≡ 15 → ⊥
  not-fifteen h date place content none _ (other-day a) q =
      clash (differs date (kept_of e h.series).date) a
      (ap (λ (d : TradeDate). differs d (kept_of e h.series).date) none)
  not-fifteen h date place content none _ (out-of-line a) q = omega arith
  not-fifteen h date place content none _ (astray a b c) q = omega arith
  not-fifteen h date place content none _ (broken a b c) q = omega arith
  not-fifteen h date place content none _ (no-room-first a b c) q = omega arith
  not-fifteen h date place content none _ (no-room-later a b c d) q = omega arith

  took-other : (h : Header) (date : TradeDate) (place : PacketPlace) (c : Span) (content : List ℕ) → date ≡ None
      → (r : Wrote Receiver Received) → Took e h date place c content buffer r
      → received_said p r.bytes r.answer ≡ refused 15 → ⊥
  took-other h date place c content none _ (unknown a) q = let z = same_number 13 15 q in omega arith
  took-other h date place c content none _ (not_in a) q = let z = same_number 14 15 q in omega arith
  took-other h date place c content none _ (Took.refuses x w on) q =
      not-fifteen h date place content none x w (same_number (number_of x) 15 q)
  took-other h date place c content none _ (repeats a b d) q = let z : ◌≡◌ {A = ℕ} 0 1 = cc in omega arith
  took-other h date place c content none _ (hands-single a b d) q = let z : ◌≡◌ {A = ℕ} 0 1 = cc in omega arith
  took-other h date place c content none _ (holds-first a b d f) q = let z : ◌≡◌ {A = ℕ} 0 1 = cc in omega arith
  took-other h date place c content none _ (holds-middle a b d f) q = let z : ◌≡◌ {A = ℕ} 0 1 = cc in omega arith
  took-other h date place c content none _ (hands-last a b d f) q = let z : ◌≡◌ {A = ℕ} 0 1 = cc in omega arith

  received-other : (dated_of p).date ≡ None → (r : Wrote Receiver Received) → Received-as e p buffer r
      → received_said p r.bytes r.answer ≡ refused 15 → ⊥
  received-other none _ (unread x low) q = let z = same_number (number_of x) 15 q in omega arith
  received-other none _ idles q = let z : ◌≡◌ {A = ℕ} 0 1 = cc in omega arith
  received-other none r (reads h extension c d t) q =
      took-other h (dated_of p).date (dated_of p).place c (part p c.start c.len) none r t q

  -- A series that moves on keeps its trade date, and so does every other.
  advance-date : (t : ℕ) → is_open e t ≡ true → (last : ℕ) (live : LiveSeries) (s : ℕ)
      → (kept_of (advance e t last live) s).date ≡ (kept_of e s).date
  advance-date t o last live s = go (eqb s t) refl
    where
      go : (b : Bool) → eqb s t ≡ b → (kept_of (advance e t last live) s).date ≡ (kept_of e s).date
      go true q =
          rw (eqb-true s t q)
          (ap (λ (x : KeptSeries). x.date) (kept-with e t o (kept_of e t).date last live))
      go false q =
          ap (λ (x : KeptSeries). x.date)
          (kept-beside e t o (kept_of e t).date last live s (eqb-false s t q))

  took-date : (h : Header) (date : TradeDate) (place : PacketPlace) (c : Span) (content : List ℕ)
      (r : Wrote Receiver Received) → Took e h date place c content buffer r → (s : ℕ)
      → (kept_of r.end s).date ≡ (kept_of e s).date
  took-date h date place c content _ (unknown a) s = refl
  took-date h date place c content _ (not_in a) s = refl
  took-date h date place c content _ (Took.refuses x w on) s = advance-date h.series on.open-series _ _ s
  took-date h date place c content _ (repeats on b d) s = advance-date h.series on.open-series _ _ s
  took-date h date place c content _ (hands-single n b d) s = advance-date h.series n.reached.open-series _ _ s
  took-date h date place c content _ (holds-first n b d f) s = advance-date h.series n.reached.open-series _ _ s
  took-date h date place c content _ (holds-middle n b d f) s = advance-date h.series n.reached.open-series _ _ s
  took-date h date place c content _ (hands-last n b d f) s = advance-date h.series n.reached.open-series _ _ s

  received-date : (r : Wrote Receiver Received) → Received-as e p buffer r → (s : ℕ)
      → (kept_of r.end s).date ≡ (kept_of e s).date
  received-date _ (unread x low) s = refl
  received-date _ idles s = refl
  received-date r (reads h extension c d t) s =
      took-date h (dated_of p).date (dated_of p).place c (part p c.start c.len) r t s

-- ─── Login ───

own-date : (e : Sender) (s : ℕ) (h : Header) (asked content out : List ℕ)
    → login_with e s h None asked content out ≡ login_with e s h e.day.date asked content out
unfolding login_with start_of
own-date e s h asked content out = rw (same-before e.day.date, before-none e.day.date)

logs-as : (e : Sender) (s : ℕ) (p content out : List ℕ) (h : Header) (x c : Span) → IsMessage p h x c
    → login_of e s p content out ≡ login_with e s h (dated_of p).date (content_of p c) content out
unfolding login_of
logs-as e s p content out h x c m = rw (m.one, m.kind, m.read)

login-same : (e : Sender) (s : ℕ) (p q content out : List ℕ) (h : Header) (x c y d : Span)
    → IsMessage p h x c → IsMessage q h y d → content_of p c ≡ content_of q d
    → (dated_of p).date ≡ None → (dated_of q).date ≡ e.day.date
    → login_of e s p content out ≡ login_of e s q content out
login-same e s p q content out h x c y d m n alike none own =
    logs-as e s p content out h x c m
    ∙ ap (λ (t : TradeDate). login_with e s h t (content_of p c) content out) none
    ∙ own-date e s h (content_of p c) content out
    ∙ ap (λ (t : TradeDate). login_with e s h t (content_of p c) content out) (sym own)
    ∙ ap (λ (l : List ℕ). login_with e s h (dated_of q).date l content out) alike
    ∙ sym (logs-as e s q content out h y d n)

-- ─── Answer ───

not-confirmed : (e : Receiver) (s : ℕ) (date : TradeDate) (r : Left Receiver Confirmed) → Confirmed-as e s date r
    → date ≡ None → is_taken (confirmed_said r.answer) ≡ false
not-confirmed e s date _ (Confirmed-as.refuses x) q = refl
not-confirmed e s date _ (confirms d a b c) q = absurd (let z : ◌≡◌ {A = ℕ} 0 1 = cc in omega arith)

-- ─── All of it ───

rows : T (all_same untagged_rows)
unfolding opened untagged_rows
rows = tt

pub untagged : Untagged
untagged =
    record {
      receive-kept = receive-kept;
      receive-same = receive-same;
      not-other-day = λ e p buffer q. received-other e p buffer q (receive_of e p buffer) (receive-as e p buffer);
      dates-stay = λ e p buffer. received-date e p buffer (receive_of e p buffer) (receive-as e p buffer);
      login-same = login-same;
      answer-refused =
          λ e s p. not-confirmed e s (dated_of p).date (confirm_login_of e s p) (confirm-as e s p);
      rows = rows;
    }
