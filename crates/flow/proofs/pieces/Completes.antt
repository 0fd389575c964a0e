-- Where the end is ready for a message, none of its packets is refused: each piece is held, and the last packet hands
-- it on. Assumes nothing.
use Prim.Native.Nat.{ℕ, suc, ◌+◌, ◌<◌, ◌≤◌}
use native.Mathlib.Omega.{arith}
use mathlib.Core.Path.{◌≡◌, refl, sym, ap, ◌∙◌}
use mathlib.Core.List.{List, [], ◌∷◌}
use mathlib.Core.Bool.{true, false, not, ◌||◌}
use mathlib.Core.Logic.{inl, inr}
use borrow.Author.Tests.{le-ltb, eq-eqb, ne_eqb}
use lib.ListN.{length, length-append}
use lib.Dec.{eqb}
use Rattle.ftd.specs.Bytes.{part}
use Rattle.ftd.specs.Chain.{pieces_of, chain_at}
use Rattle.ftd.specs.Fields.{shaped}
use Rattle.ftd.specs.Chain.Laws.{piece_at_place}
use Rattle.ftd.proofs.chain.Pieces.{shaped-facts}
use Rattle.ftd.specs.declared.refusal.Refusal.{Refusal}
use Rattle.ftd.specs.declared.packet.Span.{Span}
use Rattle.ftd.specs.declared.packet.Header.{Header}
use Rattle.flow.specs.declared.receiver.LiveSeries.{LiveSeries}
use Rattle.flow.specs.declared.receiver.Receiver.{Receiver}
use Rattle.flow.specs.declared.receiver.Received.{Received}
use Rattle.flow.specs.Ends.{Wrote, most_messages, differs, is_open, kept_of, live_of, logged_in, holding, with_series}
use Rattle.flow.specs.Ends.{all_parts, most_pieces}
use Rattle.flow.specs.Receiving.{out_of_line, broken_chain, misplaced, buffer_short, chain_long}
use Rattle.flow.specs.Answers.{Message, received_said, message_in}
use Rattle.flow.proofs.common.Bools.{clash}
use Rattle.flow.proofs.ends.ReceiverLookups.{Eight, with-changed}
use Rattle.flow.proofs.calls.Receive.{Sooner, Later, Why, other-day, out-of-line, astray, broken, no-room-first}
use Rattle.flow.proofs.calls.Receive.{no-room-later}
use Rattle.flow.proofs.calls.Receive.{Took, unknown, not_in, refuses, repeats, hands-single, holds-first}
use Rattle.flow.proofs.calls.Receive.{holds-middle, hands-last, Next}
use Rattle.flow.proofs.pieces.Pieces.{first_pieces, first-suc, first-inside, at-single, at_first, at-middle}
use Rattle.flow.proofs.pieces.Pieces.{at_last}
use Rattle.flow.proofs.pieces.Chained.{Chain-open, Holding}
use Rattle.flow.proofs.pieces.Outcomes.{content-single, content-last}
use Rattle.std.specs.Prelude.{Some}

-- Series s is open and logged in, k is the next number of its kept day d, and the buffer has all parts.
pub record Wants (e : Receiver) (buffer : List ℕ) (s k d : ℕ) : Type 0 where
  pub open-series : is_open e s ≡ true
  pub login : (live_of e s).login ≡ true
  pub date : (kept_of e s).date ≡ Some d
  pub number : k ≡ (kept_of e s).last + 1
  pub few : k ≤ 1000000
  pub room : all_parts e ≤ length buffer

-- As it was before a call that left day and last, and no shorter buffer.
ready-before : (e : Receiver) → Eight e → (s k d : ℕ) (live : LiveSeries) (buffer after : List ℕ) → is_open e s ≡ true
    → (live_of e s).login ≡ true → length after ≡ length buffer
    → Wants (with_series e s (kept_of e s).date (kept_of e s).last live) after s k d → Wants e buffer s k d
ready-before e eight s k d live buffer after o l n r =
    let c = with-changed e eight s o (kept_of e s).date (kept_of e s).last live in
    let m = c.all-parts in
    let p = r.room in
    record {
      open-series = o;
      login = l;
      date = sym c.date ∙ r.date;
      number = r.number ∙ ap (λ (x : ℕ). x + 1) c.last;
      few = r.few;
      room = omega arith;
    }

-- A packet at place j of a message.
module _ (e : Receiver) (eight : Eight e) (h : Header) (d : ℕ) (at : Span) (p buffer c : List ℕ) (j : ℕ)
    (good : shaped c 32768 ≡ true)
    (letter : h.chain ≡ chain_at (eqb j 0) (eqb (j + 1) (length (pieces_of c))))
    (inside : j < length (pieces_of c))
    (low : j < most_pieces)
    (piece : part p at.start at.len ≡ (piece_at_place c j).bytes)
    (before : 0 < j → Next e h (Some d) → Holding e buffer h.series h.tid h.number d c j)
    (opens : 0 < j → Wants e buffer h.series h.number d → Chain-open e h.series)
  where
    abbrev s : ℕ
    s = h.series

    -- What is held and the piece are within the content.
    fits : (held : ℕ) → held ≡ length (first_pieces c j) → held + length (piece_at_place c j).bytes ≤ 32768
    fits held q =
        let f = shaped-facts c 32768 (shaped c 32768) refl good in
        let n = first-inside c 32768 (suc j) good in
        let k : length (first_pieces c (suc j)) ≡ length (first_pieces c j) + length (piece_at_place c j).bytes =
        ap length (first-suc c j inside) ∙ length-append (first_pieces c j) (piece_at_place c j).bytes in
        omega (arith, f.0)

    later : Later h → 0 < j
    later (inl q) = (at-middle j (length (pieces_of c)) (sym letter ∙ q)).0
    later (inr q) = (at_last j (length (pieces_of c)) (sym letter ∙ q)).0

    sooner : Sooner h → j ≡ 0
    sooner (inl q) = (at-single j (length (pieces_of c)) (sym letter ∙ q)).0
    sooner (inr q) = (at_first j (length (pieces_of c)) (sym letter ∙ q)).0

    -- What a run gives is more than the count gives.
    by_count : 0 < j → Next e h (Some d) → (live_of e s).pieces ≡ j → Holding e buffer h.series h.tid h.number d c j
    by_count p n q = before p n

    roomy : Wants e buffer s h.number d → (held : ℕ) → held ≡ length (first_pieces c j)
        → (buffer_short e buffer || chain_long held (piece_at_place c j).bytes) ≡ false
    roomy r held q =
        rw (le-ltb (length buffer) (all_parts e) r.room)
        (le-ltb 32768 (held + length (piece_at_place c j).bytes) (fits held q))

    -- Wants, it is not refused from 15 on.
    not-refused : Wants e buffer s h.number d → (r : Refusal) → Why e h (Some d) (Some j) (piece_at_place c j).bytes buffer r → ⊥
    not-refused r f (other-day q) = clash (differs (Some d) (kept_of e s).date) q (rw (r.date, eq-eqb d d refl))
    not-refused r f (out-of-line q) =
        let last = (kept_of e s).last in
        let k = h.number in
        let n = r.number in
        clash (out_of_line last k) q
        (rw (ne_eqb k 0 (λ z. omega arith), le-ltb (last + 1) k (omega arith)) (le-ltb most_messages k r.few))
    not-refused r f (astray n l q) =
        clash (misplaced (Some j) 0) q (ap not (eq-eqb j 0 (sooner l)))
    not-refused r f (broken n l q) =
        let o = opens (later l) r in
        let x = before (later l) n o in
        clash (broken_chain (live_of e s) h || misplaced (Some j) (live_of e s).pieces) q
        (rw (o.chain, eq-eqb (live_of e s).tid h.tid x.tid) (ap not (eq-eqb j (live_of e s).pieces (sym x.pieces))))
    not-refused r f (no-room-first n x q) =
        let z = (at_first j (length (pieces_of c)) (sym letter ∙ x)).0 in
        clash (buffer_short e buffer || chain_long 0 (piece_at_place c j).bytes) q (roomy r 0 (rw z))
    not-refused r f (no-room-later n l g q) =
        let x = before (later l) n (opens (later l) r) in
        clash (buffer_short e buffer || chain_long (live_of e s).held (piece_at_place c j).bytes) q
        (roomy r (live_of e s).held x.held)

    -- ─── Before the last packet: behind it there is a chain ───

    chain-there : (held pieces : ℕ) → is_open e s ≡ true
        → Chain-open (with_series e s (kept_of e s).date (kept_of e s).last (holding h.tid held pieces)) s
    chain-there held pieces o =
        let x = with-changed e eight s o (kept_of e s).date (kept_of e s).last (holding h.tid held pieces) in
        record {
          open-series = x.opens s
              ∙ o;
          login = ap (λ (l : LiveSeries). l.login) x.live;
          chain = ap (λ (l : LiveSeries). l.chain)
              x.live;
        }

    pub took-opens : j + 1 < length (pieces_of c) → (r : Wrote Receiver Received)
        → Took e h (Some d) (Some j) at (piece_at_place c j).bytes buffer r
        → Wants r.end r.bytes s h.number d → Chain-open r.end s
    took-opens more r (unknown q) = λ y. clash (is_open e s) y.open-series q
    took-opens more r (not_in q) = λ y. clash (live_of e s).login y.login q
    took-opens more r (refuses f w n) = λ y.
        absurd (not-refused
        (ready-before e eight s h.number d logged_in buffer buffer n.open-series n.login refl y) f w)
    took-opens more r (repeats n q l) = λ y.
        let z =
        (ready-before e eight s h.number d logged_in buffer buffer n.open-series n.login refl y).number in
        absurd (omega arith)
    took-opens more r (hands-single n q y) =
        λ y. let z = (at-single j (length (pieces_of c)) (sym letter ∙ q)).1 in absurd (omega arith)
    took-opens more r (holds-first n q y room) = λ y. chain-there _ _ n.reached.open-series
    took-opens more r (holds-middle n q g room) = λ y. chain-there _ _ n.reached.open-series
    took-opens more r (hands-last n q g room) =
        λ y. let z = (at_last j (length (pieces_of c)) (sym letter ∙ q)).1 in absurd (omega arith)

    -- ─── The last packet: it is handed on ───

    pub took-completes : j + 1 ≡ length (pieces_of c) → Wants e buffer s h.number d → (r : Wrote Receiver Received)
        → Took e h (Some d) (Some j) at (piece_at_place c j).bytes buffer r
        → message_in (received_said p r.bytes r.answer) ≡ record { tid = h.tid; content = c } ∷ []
    took-completes end y r (unknown q) = clash (is_open e s) y.open-series q
    took-completes end y r (not_in q) = clash (live_of e s).login y.login q
    took-completes end y r (refuses f w n) = absurd (not-refused y f w)
    took-completes end y r (repeats n q l) = let z = y.number in absurd (omega arith)
    took-completes end y r (hands-single n q i) =
        ap (λ (x : Message). x ∷ [])
        (content-single e eight h d at p buffer c 32768 j good letter inside piece low by_count q)
    took-completes end y r (holds-first n q i room) = absurd ((at_first j (length (pieces_of c)) (sym letter ∙ q)).1 end)
    took-completes end y r (holds-middle n q g room) =
        absurd ((at-middle j (length (pieces_of c)) (sym letter ∙ q)).1 end)
    took-completes end y r (hands-last n q g room) =
        ap (λ (x : Message). x ∷ [])
        (content-last e eight h d at p buffer c 32768 j good letter inside piece low by_count n q g room)
