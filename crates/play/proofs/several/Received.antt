-- A turn of the player's walk over packets, and over records, over plain variables. Assumes nothing.
use Prim.Native.Nat.{ℕ, ◌+◌, ◌-◌, ◌*◌, ◌≤◌}
use mathlib.Core.Path.{◌≡◌, sym, ap, ◌∙◌}
use mathlib.Core.List.{List}
use mathlib.Core.Option.{none}
use native.Mathlib.Omega.{arith}
use lib.ListN.{length, take, drop, length-take, length-drop}
use Rattle.ftd.specs.Runs.{front, run_of}
use Rattle.ftd.specs.Chain.Laws.{packet_form}
use Rattle.ftd.specs.declared.refusal.Refusal.{Refusal}
use Rattle.ftd.proofs.runs.Laws.{entry-head}
use Rattle.flow.specs.declared.receiver.Receiver.{Receiver}
use Rattle.flow.specs.declared.receiver.ReceiveStep.{ReceiveStep}
use Rattle.flow.specs.declared.receiver.Received.{Received}
use Rattle.flow.specs.declared.receiver.Received.TheVariants.{Idle, Duplicate, Partial, Complete}
use Rattle.flow.specs.declared.receiver.Received.TheVariants.{Refused as NotTaken}
use Rattle.flow.specs.declared.sender.Sender.{Sender}
use Rattle.flow.specs.declared.sender.PublishStep.{PublishStep}
use Rattle.flow.specs.declared.several.ReceivedSeveral.{ReceivedSeveral}
use Rattle.flow.specs.declared.several.PublishedSeveral.TheVariants.{Refused as PublishedRefused}
use Rattle.flow.specs.Types.{ReceiveTurn}
use Rattle.flow.specs.Ends.{wrote}
use Rattle.flow.specs.Promises.{Receives}
use Rattle.flow.specs.Receiving.{receive_of}
use Rattle.flow.specs.Several.{received_stops, receiving, record_form, publish_record, publishing}
use Rattle.flow.specs.SeveralHelpers.{turn_stop, PublishesRecord}
use Rattle.flow.proofs.common.Extends.{none-some}
use Rattle.flow.proofs.several.Received.{some-packet}
use Rattle.flow.proofs.several.Published.{some-record}
use Rattle.listing.specs.Text.{WroteText}
use Rattle.play.specs.Lines.{received_line, published_line, Passing}
use Rattle.play.specs.Several.{lines_over, record_line}
use Rattle.play.proofs.several.Lines.{Completes, lines-stop, lines-on}
use Rattle.std.specs.Prelude.{Ok, Err}
use Rattle.std.specs.Prelude.{Some, None}

-- ─── Room ───

-- The line of an answer that the call goes on behind is short.
pub passing : (at : ℕ) (a : Received) → received_stops at a ≡ none → (to end : ℕ) → Passing a to end → end ≤ to + 28
passing at Idle q to end h = h
passing at (Duplicate k) q to end h = h
passing at (Partial k) q to end h = h
passing at (Complete last tid origin c) q to end h = absurd (none-some _ (sym q))
passing at (NotTaken r) q to end h = absurd (none-some _ (sym q))

-- A packet has at least four bytes, a record ten.
module _ (s : List ℕ) (at n : ℕ) (z : n ≡ 0 → ⊥) (to end : ℕ) (h : to ≤ 7 * at) (k : end ≤ to + 28) where
  pub packet-room : n ≡ front packet_form (drop at s) → end ≤ 7 * (at + n)
  unfolding packet_form
  packet-room m = let g : 4 ≤ n = entry-head packet_form some-packet s at n m z in omega arith

  pub record-room : n ≡ front record_form (drop at s) → end ≤ 7 * (at + n)
  unfolding record_form
  record-room m = let g : 10 ≤ n = entry-head record_form some-record s at n m z in omega arith

pub on_room : (s : List ℕ) (at n : ℕ) → n ≡ front packet_form (drop at s) → (n ≡ 0 → ⊥) → (a : Received) (t : ReceiveTurn)
    → turn_stop t ≡ received_stops at a → t ≡ None → (to to' : ℕ) → to ≤ 7 * at → Passing a to to' → to' ≤ 7 * (at + n)
on_room s at n m z a t k q to to' h p =
    packet-room s at n z to to' h (passing at a (sym k ∙ ap turn_stop q) to to' p) m

-- The text has room for a packet's line.
pub packet-fits : (s t t₀ : List ℕ) (at n to k : ℕ) → n ≤ length s - at → at ≤ length s → to ≤ 7 * at
    → 64 + 7 * length s + k ≤ length t₀ → length t ≡ length t₀
    → to + (64 + 2 * length (take (at + n - at) (drop at s))) ≤ length t
packet-fits s t t₀ at n to k h g f r e =
    let c : length (take (at + n - at) (drop at s)) ≤ n = rw (length-take, length-drop) (omega arith) in omega arith

-- ─── The turn over packets ───

module _ (text₀ all s : List ℕ) (at n : ℕ) (m : n ≡ front packet_form (drop at s)) (e : Receiver) (l text : List ℕ) (to : ℕ)
    (inv : Completes text₀ text to (lines_over receiving received_line e l at (run_of packet_form (drop at s))) all)
    (z : n ≡ 0 → ⊥) (r : ReceiveStep) (after : List ℕ) (c : Receives e (take (at + n - at) (drop at s)) l r after)
    (text' : List ℕ) (to' : ℕ)
    (w : WroteText text to (received_line (take (at + n - at) (drop at s)) after r.answer) text' to')
    (t : ReceiveTurn) (k : turn_stop t ≡ received_stops at r.answer) where
  whole : wrote r.end r.answer after ≡ receive_of e (take (at + n - at) (drop at s)) l
  whole = rw (c.0, c.2, c.3)

  pub stop-lines : (a : ReceivedSeveral) → t ≡ Some a → WroteText text₀ 0 all text' to'
  stop-lines a q =
      lines-stop receiving received_line some-packet s at n m e l text₀ text to all inv z
      (wrote r.end r.answer after) whole text' to' w a (sym k ∙ ap turn_stop q)

  pub on-lines : t ≡ None → to ≤ length text
      → Completes text₀ text' to' (lines_over receiving received_line r.end after (at + n)
      (run_of packet_form (drop (at + n) s))) all
  on-lines q h =
      lines-on receiving received_line some-packet s at n m e l text₀ text to all inv z
      (wrote r.end r.answer after) whole text' to' w h (sym k ∙ ap turn_stop q)

-- ─── The turn over records ───

module _ (text₀ all s : List ℕ) (at n : ℕ) (m : n ≡ front record_form (drop at s)) (e : Sender) (l text : List ℕ) (to : ℕ)
    (inv : Completes text₀ text to (lines_over publishing record_line e l at (run_of record_form (drop at s))) all)
    (z : n ≡ 0 → ⊥) (r : PublishStep) (after : List ℕ)
    (c : PublishesRecord e (take (at + n - at) (drop at s)) l r after) (text' : List ℕ) (to' : ℕ)
    (w : WroteText text to (published_line r.answer) text' to') where
  published : wrote r.end r.answer after ≡ publish_record e (take (at + n - at) (drop at s)) l
  unfolding publish_record
  published = rw (c.0, c.1.1, c.2)

  pub refused-lines : (x : Refusal) → r.answer ≡ Err x → WroteText text₀ 0 all text' to'
  refused-lines x q =
      lines-stop publishing record_line some-record s at n m e l text₀ text to all inv z
      (wrote r.end r.answer after) published text' to' w (PublishedRefused x) (rw q)

  pub number-lines : (k : ℕ) → r.answer ≡ Ok k → to ≤ length text
      → Completes text₀ text' to' (lines_over publishing record_line r.end after (at + n)
      (run_of record_form (drop (at + n) s))) all
  number-lines k q h =
      lines-on publishing record_line some-record s at n m e l text₀ text to all inv z
      (wrote r.end r.answer after) published text' to' w h (rw q)
