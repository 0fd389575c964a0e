-- Right for a source, of a chain: what a series holds is the first pieces of the message that is next, as it was
-- published. A predicate of the end, its buffer and the published lists alone, not of how the chain came about. Assumes
-- nothing.
use Prim.Native.Nat.{ℕ, ◌+◌}
use native.Mathlib.Omega.{arith}
use mathlib.Core.Path.{◌≡◌, refl, sym, ap, ◌∙◌}
use mathlib.Core.List.{List, ◌++◌}
use mathlib.Core.Bool.{true, false}
use mathlib.Core.Option.{some}
use lib.ListN.{length, get_elem?}
use Rattle.ftd.specs.Fields.{shaped, most_content}
use Rattle.ftd.proofs.chain.Pieces.{shaped-facts}
use Rattle.ftd.specs.Types.{TradeDate}
use Rattle.flow.specs.declared.receiver.KeptSeries.{KeptSeries}
use Rattle.flow.specs.declared.receiver.LiveSeries.{LiveSeries}
use Rattle.flow.specs.declared.receiver.Receiver.{Receiver}
use Rattle.flow.specs.Ends.{kept_of, live_of}
use Rattle.flow.specs.Answers.{Message}
use Rattle.flow.specs.World.{Dated}
use Rattle.flow.specs.Agreement.{of}
use Rattle.flow.proofs.common.Bools.{clash}
use Rattle.flow.proofs.common.Extends.{place-append, same_some}
use Rattle.flow.proofs.common.Histories.{of-append}
use Rattle.flow.proofs.pieces.Pieces.{first_pieces, first-inside}
use Rattle.flow.proofs.pieces.Chained.{Chain-open, Held, Holding}
use Rattle.flow.proofs.pieces.Others.{Elsewhere}
use Rattle.std.specs.Prelude.{Some}

-- As many pieces as were counted of the message that is next, number last + 1 of the kept day.
pub record NextHeld (P : List (Dated Message)) (e : Receiver) (buffer : List ℕ) (s : ℕ) : Type 0 where
  pub day : ℕ
  pub message : Message
  pub pieces : ℕ
  pub placed : get_elem? (of s day P) (kept_of e s).last ≡ some message
  pub good : shaped message.content most_content ≡ true
  pub held : Held e buffer s message.tid ((kept_of e s).last + 1) day message.content pieces

-- If there is a chain at all.
abbrev pub ChainRight : List (Dated Message) → Receiver → List ℕ → ℕ → Type 0
ChainRight P e buffer s = Chain-open e s → NextHeld P e buffer s

-- ─── Kept ───

-- More is published.
pub chain-grows : (P Q : List (Dated Message)) (e : Receiver) (buffer : List ℕ) (s : ℕ) → ChainRight P e buffer s
    → ChainRight (P ++ Q) e buffer s
chain-grows P Q e buffer s f o =
    let n = f o in
    record {
      day = n.day;
      message = n.message;
      pieces = n.pieces;
      placed =
          rw (of-append s n.day P Q)
          (place-append (of s n.day P) (of s n.day Q) (kept_of e s).last n.message n.placed);
      good = n.good;
      held = n.held;
    }

-- No chain.
pub chain-none : (P : List (Dated Message)) (e : Receiver) (buffer : List ℕ) (s : ℕ) → (live_of e s).chain ≡ false
    → ChainRight P e buffer s
chain-none P e buffer s q o = clash (live_of e s).chain o.chain q

-- Of a series of which nothing changed.
pub chain-elsewhere : (P : List (Dated Message)) (e : Receiver) (buffer : List ℕ) (after : Receiver) (bytes : List ℕ)
    (s : ℕ) → Elsewhere e buffer after bytes s
    → ChainRight P e buffer s → ChainRight P after bytes s
chain-elsewhere P e buffer after bytes s x f o =
    let l = x.live in
    let k = x.kept in
    let n =
    f (record
    { open-series = sym x.opens ∙ o.open-series; login = rw l at o.login; chain = rw l at o.chain }) in
    let h = n.held in
    let last : (kept_of after s).last ≡ (kept_of e s).last = ap (λ (y : KeptSeries). y.last) k in
    let inside = first-inside n.message.content most_content n.pieces n.good in
    let few =
    (shaped-facts n.message.content most_content (shaped n.message.content most_content) refl n.good).0 in
    record {
      day = n.day;
      message = n.message;
      pieces = n.pieces;
      placed = rw last n.placed;
      good = n.good;
      held =
          record {
            tid = ap (λ (y : LiveSeries). y.tid) l ∙ h.tid;
            held = ap (λ (y : LiveSeries). y.held) l ∙ h.held;
            pieces = ap (λ (y : LiveSeries). y.pieces) l ∙ h.pieces;
            bytes = x.stays (length (first_pieces n.message.content n.pieces)) (omega arith) ∙ h.bytes;
            date = ap (λ (y : KeptSeries). y.date) k ∙ h.date;
            number = refl;
          };
    }

-- ─── Used: what a chain holds is known from how many pieces it has counted ───

same_at : (t : TradeDate) (a b : ℕ) → t ≡ Some a → t ≡ Some b → a ≡ b
same_at t a b p q = cc

-- Where message x of day d is next, and j pieces were counted, the chain holds the first j pieces of x.
pub counted-holding : (P : List (Dated Message)) (e : Receiver) (buffer : List ℕ) (s : ℕ) → ChainRight P e buffer s
    → (d k : ℕ) (x : Message)
    → get_elem? (of s d P) (kept_of e s).last ≡ some x → (kept_of e s).date ≡ Some d → k ≡ (kept_of e s).last + 1 → (j : ℕ)
    → (live_of e s).pieces ≡ j → Holding e buffer s x.tid k d x.content j
counted-holding P e buffer s f d k x placed date number j count o =
    let n = f o in
    let h = n.held in
    let day : n.day ≡ d = same_at (kept_of e s).date n.day d h.date date in
    let there : get_elem? (of s d P) (kept_of e s).last ≡ some n.message = rw day at n.placed in
    let same : n.message ≡ x = same_some (get_elem? (of s d P) (kept_of e s).last) n.message x there placed in
    let many : n.pieces ≡ j = sym h.pieces ∙ count in
    record {
      tid = h.tid ∙ ap (λ (y : Message). y.tid) same;
      held = rw (same, many) at h.held;
      pieces = count;
      bytes = rw (same, many) at h.bytes;
      date = date;
      number = number;
    }
