-- What a packet of a message comes to, in terms of trade date and last number of each series. Assumes nothing.
use Prim.Native.Nat.{ℕ, suc, ◌+◌, ◌<◌}
use native.Mathlib.Omega.{arith}
use mathlib.Core.Path.{◌≡◌, sym, ap, ◌∙◌}
use mathlib.Core.List.{List, [], ◌∷◌}
use mathlib.Core.Bool.{true}
use lib.ListN.{length}
use lib.Dec.{eqb}
use Rattle.ftd.specs.Bytes.{part, put}
use Rattle.ftd.specs.Chain.{pieces_of, chain_at}
use Rattle.ftd.specs.Fields.{shaped}
use Rattle.ftd.specs.Chain.Laws.{piece_at_place}
use Rattle.ftd.specs.declared.packet.Span.{Span}
use Rattle.ftd.specs.declared.packet.Chain.TheVariants.{Single, Last}
use Rattle.ftd.specs.declared.packet.Header.{Header}
use Rattle.flow.specs.declared.receiver.LiveSeries.{LiveSeries}
use Rattle.flow.specs.declared.receiver.Receiver.{Receiver}
use Rattle.flow.specs.declared.receiver.Received.{Received}
use Rattle.flow.specs.Ends.{Wrote, is_open, kept_of, live_of, logged_in, holding, with_series, part_start, day_of}
use Rattle.flow.specs.Ends.{last_of, most_pieces}
use Rattle.flow.specs.Answers.{Message, received_said, message_in, report_in}
use Rattle.flow.proofs.ends.ReceiverLookups.{Eight}
use Rattle.flow.proofs.calls.Receive.{Next, Room, Goes_on, Took, unknown, not_in, refuses, repeats, hands-single}
use Rattle.flow.proofs.calls.Receive.{holds-first, holds-middle, hands-last}
use Rattle.flow.proofs.steps.Moves.{Moves, moves_not, moves-with}
use Rattle.flow.proofs.pieces.Pieces.{first_pieces, first-suc, first-all, at-single, at_last}
use Rattle.flow.proofs.pieces.Chained.{Holding, goes-on-put}
use Rattle.flow.proofs.common.Days.{day-same}
use Rattle.std.specs.Prelude.{Some}

-- ─── What a packet of the message (d, k, x) of series s comes to: the end, what is handed on, what is reported ───

pub data Delivered (e : Receiver) (s d k : ℕ) (x : Message) : Receiver → List Message → List ℕ → Type 0 where
  keeps : {after : Receiver} → Moves e after s (day_of e s) (last_of e s) → Delivered e s d k x after [] []
  reports : {after : Receiver} {n : ℕ} → Moves e after s (day_of e s) (last_of e s) → day_of e s ≡ Some d → n ≡ last_of e s
      → Delivered e s d k x after [] (n ∷ [])
  hands : {after : Receiver} {y : Message} → Moves e after s (Some d) k → day_of e s ≡ Some d → k ≡ last_of e s + 1 → y ≡ x
      → Delivered e s d k x after (y ∷ []) (k ∷ [])

module _ (e : Receiver) (eight : Eight e) (h : Header) (d : ℕ) (at : Span) (p buffer c : List ℕ) (limit j : ℕ)
    (good : shaped c limit ≡ true)
    (letter : h.chain ≡ chain_at (eqb j 0) (eqb (j + 1) (length (pieces_of c))))
    (inside : j < length (pieces_of c))
    (piece : part p at.start at.len ≡ (piece_at_place c j).bytes)
    (low : j < most_pieces)
    (before : 0 < j → Next e h (Some d) → (live_of e h.series).pieces ≡ j
    → Holding e buffer h.series h.tid h.number d c j)
  where
    abbrev s : ℕ
    s = h.series

    abbrev x : Message
    x = record { tid = h.tid; content = c }

    -- As it was, whatever the chain.
    stays : (live : LiveSeries) → is_open e s ≡ true
        → Moves e (with_series e s (kept_of e s).date (kept_of e s).last live) s (day_of e s) (last_of e s)
    stays live o = rw o (moves-with e eight s o (kept_of e s).date (kept_of e s).last live)

    on-day : Next e h (Some d) → (kept_of e s).date ≡ Some d
    on-day n = day-same d (kept_of e s).date n.day

    day-open : is_open e s ≡ true → (kept_of e s).date ≡ Some d → day_of e s ≡ Some d
    day-open o q = rw o q

    last-open : is_open e s ≡ true → (kept_of e s).last ≡ last_of e s
    last-open o = rw o

    handed : Next e h (Some d) → (y : Message) → y ≡ x
        → Delivered e s d h.number x (with_series e s (kept_of e s).date h.number logged_in) (y ∷ [])
        (h.number ∷ [])
    handed n y q =
        let o = n.reached.open-series in
        let m : Moves e (with_series e s (kept_of e s).date h.number logged_in) s (Some d) h.number =
        rw (on-day n) (moves-with e eight s o (Some d) h.number logged_in) in
        hands m (day-open o (on-day n)) (n.number ∙ ap (λ (m : ℕ). m + 1) (last-open o)) q

    -- The whole content: of the only piece, and of all.
    pub content-single : h.chain ≡ Single → record { tid = h.tid; content = part p at.start at.len } ≡ x
    content-single q =
        let z = at-single j (length (pieces_of c)) (sym letter ∙ q) in
        let f = first-suc c j inside in
        let g : first_pieces c j ≡ [] = rw z.0 in
        ap (λ (l : List ℕ). record { tid = h.tid; content = l })
        (piece ∙ sym (rw g at f) ∙ first-all c limit (suc j) good (omega arith))

    pub content-last : Next e h (Some d) → h.chain ≡ Last → Goes_on (live_of e s) h (Some j)
        → Room e buffer (live_of e s).held (piece_at_place c j).bytes
        → record {
          tid = h.tid;
          content =
              part (put buffer (part_start e s + (live_of e s).held) (piece_at_place c j).bytes) (part_start e s)
              ((live_of e s).held + length (piece_at_place c j).bytes);
        } ≡ x
    content-last n q g room =
        let z = at_last j (length (pieces_of c)) (sym letter ∙ q) in
        let b = goes-on-put e eight h d at buffer c j letter inside low before z.0 n g room in
        ap (λ (l : List ℕ). record { tid = h.tid; content = l }) (b.1 ∙ first-all c limit (suc j) good (omega arith))

    pub took-delivered : (r : Wrote Receiver Received) → Took e h (Some d) (Some j) at (piece_at_place c j).bytes buffer r
        → Delivered e s d h.number x r.end (message_in (received_said p r.bytes r.answer))
        (report_in (received_said p r.bytes r.answer))
    took-delivered r (unknown q) = keeps (moves_not e s)
    took-delivered r (not_in q) = keeps (moves_not e s)
    took-delivered r (refuses f q n) = keeps (stays logged_in n.open-series)
    took-delivered r (repeats n q l) =
        reports (stays logged_in n.open-series) (day-open n.open-series (day-same d (kept_of e s).date q))
        (last-open n.open-series)
    took-delivered r (hands-single n q y) = handed n _ (content-single q)
    took-delivered r (holds-first n q y room) =
        let o = n.reached.open-series in
        reports (stays (holding _ _ _) o) (day-open o (on-day n)) (last-open o)
    took-delivered r (holds-middle n q g room) =
        let o = n.reached.open-series in
        reports (stays (holding _ _ _) o) (day-open o (on-day n)) (last-open o)
    took-delivered r (hands-last n q g room) = handed n _ (content-last n q g room)
