-- What an open chain holds right behind packet j of a message: a packet that goes on with a chain bears its place, which
-- is the count of the pieces held. Assumes nothing.
use Prim.Native.Nat.{ℕ, suc, ◌+◌, ◌<◌, ◌≤◌}
use native.Mathlib.Omega.{arith}
use mathlib.Core.Path.{◌≡◌, refl, sym, ap, ◌∙◌}
use mathlib.Core.List.{List, ◌++◌}
use mathlib.Core.Bool.{true}
use borrow.Author.Tests.{eqb-true, lt-ltb, not-false}
use lib.ListN.{length, length-append}
use lib.Dec.{eqb}
use Rattle.ftd.specs.Bytes.{part, put}
use Rattle.ftd.specs.Chain.{pieces_of, chain_at}
use Rattle.ftd.specs.Chain.Laws.{piece_at_place}
use Rattle.ftd.specs.Types.{TradeDate}
use Rattle.ftd.specs.declared.packet.Span.{Span}
use Rattle.ftd.specs.declared.packet.Header.{Header}
use Rattle.flow.specs.declared.receiver.KeptSeries.{KeptSeries}
use Rattle.flow.specs.declared.receiver.LiveSeries.{LiveSeries}
use Rattle.flow.specs.declared.receiver.Receiver.{Receiver}
use Rattle.flow.specs.declared.receiver.Received.{Received}
use Rattle.flow.specs.Ends.{Wrote, is_open, kept_of, live_of, logged_in, holding, with_series, part_start, most_pieces}
use Rattle.flow.specs.Receiving.{one_more}
use Rattle.flow.proofs.common.Bools.{clash}
use Rattle.flow.proofs.ends.ReceiverLookups.{Eight, part-inside, part_stays, kept_same, live_same}
use Rattle.flow.proofs.calls.Receive.{Next, Room, Goes_on, Took, unknown, not_in, refuses, repeats, hands-single}
use Rattle.flow.proofs.calls.Receive.{holds-first, holds-middle, hands-last}
use Rattle.flow.proofs.pieces.Pieces.{first_pieces, first-suc, at_first, at-middle}
use Rattle.flow.proofs.pieces.Buffers.{part-put}
use Rattle.flow.proofs.common.Days.{day-same}
use Rattle.std.specs.Prelude.{Some}

-- A series that is open and logged in has a chain.
pub record Chain-open (e : Receiver) (s : ℕ) : Type 0 where
  pub open-series : is_open e s ≡ true
  pub login : (live_of e s).login ≡ true
  pub chain : (live_of e s).chain ≡ true

-- Of the message of a series s, TID t and number k, with day d and content c, the first n pieces are held; it is the
-- next one of the kept day.
pub record Held (e : Receiver) (buffer : List ℕ) (s t k d : ℕ) (c : List ℕ) (n : ℕ) : Type 0 where
  pub tid : (live_of e s).tid ≡ t
  pub held : (live_of e s).held ≡ length (first_pieces c n)
  pub pieces : (live_of e s).pieces ≡ n
  pub bytes : part buffer (part_start e s) (length (first_pieces c n)) ≡ first_pieces c n
  pub date : (kept_of e s).date ≡ Some d
  pub number : k ≡ (kept_of e s).last + 1

-- If there is a chain at all.
abbrev pub Holding : Receiver → List ℕ → ℕ → ℕ → ℕ → ℕ → List ℕ → ℕ → Type 0
Holding e buffer s t k d c n = Chain-open e s → Held e buffer s t k d c n

-- A packet at place j: its letter is that of the place, its content the piece there.
module _ (e : Receiver) (eight : Eight e) (h : Header) (d : ℕ) (at : Span) (buffer c : List ℕ) (j : ℕ)
    (letter : h.chain ≡ chain_at (eqb j 0) (eqb (j + 1) (length (pieces_of c))))
    (inside : j < length (pieces_of c))
    (low : j < most_pieces)
    (before : 0 < j → Next e h (Some d) → (live_of e h.series).pieces ≡ j
    → Holding e buffer h.series h.tid h.number d c j)
  where
    abbrev s : ℕ
    s = h.series

    -- A chain that is dropped is none.
    no-chain : (date : TradeDate) (last : ℕ) (b : List ℕ) → is_open e s ≡ true
        → Holding (with_series e s date last logged_in) b h.series h.tid h.number d c (suc j)
    no-chain date last b o x =
        clash (live_of (with_series e s date last logged_in) s).chain x.chain
        (ap (λ (l : LiveSeries). l.chain) (live_same e eight s o date last logged_in))

    -- Behind the first n pieces in its part, piece j is put.
    piece-put : (n : ℕ) → n ≡ j → is_open e s ≡ true → (held : ℕ) → held ≡ length (first_pieces c n)
        → part buffer (part_start e s) held ≡ first_pieces c n
        → Room e buffer held (piece_at_place c j).bytes
        → (held + length (piece_at_place c j).bytes ≡ length (first_pieces c (suc j)))
        × (part (put buffer (part_start e s + held) (piece_at_place c j).bytes) (part_start e s)
        (held + length (piece_at_place c j).bytes) ≡ first_pieces c (suc j))
    piece-put n q o held k b room =
        let f : first_pieces c (suc j) ≡ first_pieces c n ++ (piece_at_place c j).bytes = rw q (first-suc c j inside) in
        let g : part_start e s + held ≤ length buffer =
        omega (arith, part-inside e eight s o, room.parts, room.chain) in (
          rw (f, length-append (first_pieces c n) (piece_at_place c j).bytes) (omega arith),
          part-put buffer (piece_at_place c j).bytes (part_start e s) held g ∙ rw (b, f),
        )

    -- A piece that was held.
    now-holding : Next e h (Some d) → (held pieces : ℕ) (b : List ℕ) → held ≡ length (first_pieces c (suc j))
        → pieces ≡ j → part b (part_start e s) held ≡ first_pieces c (suc j)
        → Holding (with_series e s (kept_of e s).date (kept_of e s).last (holding h.tid held (one_more pieces))) b
        h.series h.tid h.number d c (suc j)
    now-holding n held pieces b k a q x =
        let date = (kept_of e s).date in
        let last = (kept_of e s).last in
        let o = n.reached.open-series in
        let l = live_same e eight s o date last (holding h.tid held (one_more pieces)) in
        let m = kept_same e eight s o date last (holding h.tid held (one_more pieces)) in
        let one : one_more pieces ≡ suc j = rw (a, lt-ltb j most_pieces low) (omega arith) in
        record {
          tid = ap (λ (y : LiveSeries). y.tid) l;
          held = ap (λ (y : LiveSeries). y.held) l ∙ k;
          pieces = ap (λ (y : LiveSeries). y.pieces) l ∙ one;
          bytes = rw (part_stays e eight s o date last (holding h.tid held (one_more pieces)) s, ← k) q;
          date = ap (λ (y : KeptSeries). y.date) m ∙ day-same d date n.day;
          number = rw m n.number;
        }

    -- What is held where a chain goes on.
    pub counted : Goes_on (live_of e s) h (Some j) → (live_of e s).pieces ≡ j
    counted g = sym (eqb-true j (live_of e s).pieces (not-false (eqb j (live_of e s).pieces) g.counted))

    held-here : 0 < j → Next e h (Some d) → Goes_on (live_of e s) h (Some j)
        → Held e buffer h.series h.tid h.number d c j
    held-here p n g =
        before p n (counted g) (record { open-series = n.reached.open-series; login = n.reached.login; chain = g.chain })

    pub goes-on-put : 0 < j → Next e h (Some d) → Goes_on (live_of e s) h (Some j)
        → Room e buffer (live_of e s).held (piece_at_place c j).bytes
        → ((live_of e s).held + length (piece_at_place c j).bytes ≡ length (first_pieces c (suc j)))
        × (part (put buffer (part_start e s + (live_of e s).held) (piece_at_place c j).bytes) (part_start e s)
        ((live_of e s).held + length (piece_at_place c j).bytes) ≡ first_pieces c (suc j))
    goes-on-put p n g room =
        let x = held-here p n g in
        piece-put j refl n.reached.open-series (live_of e s).held x.held (rw x.held x.bytes) room

    pub took-holding : (r : Wrote Receiver Received) → Took e h (Some d) (Some j) at (piece_at_place c j).bytes buffer r
        → Holding r.end r.bytes h.series h.tid h.number d c (suc j)
    took-holding r (unknown q) = λ x. clash (is_open e s) x.open-series q
    took-holding r (not_in q) = λ x. clash (live_of e s).login x.login q
    took-holding r (refuses f q n) = no-chain _ _ _ n.open-series
    took-holding r (repeats n q l) = no-chain _ _ _ n.open-series
    took-holding r (hands-single n q y) = no-chain _ _ _ n.reached.open-series
    took-holding r (holds-first n q y room) =
        let z = at_first j (length (pieces_of c)) (sym letter ∙ q) in
        let p = piece-put 0 (sym z.0) n.reached.open-series 0 refl refl room in
        now-holding n _ 0 _ p.0 (sym z.0) p.1
    took-holding r (holds-middle n q g room) =
        let p = goes-on-put (at-middle j (length (pieces_of c)) (sym letter ∙ q)).0 n g room in
        now-holding n _ (live_of e s).pieces _ p.0 (counted g) p.1
    took-holding r (hands-last n q g room) = no-chain _ _ _ n.reached.open-series
