-- A turn of the receiving end's walk. Assumes nothing.
use Prim.Native.Nat.{ℕ, ◌+◌, ◌-◌, ◌<◌, ◌≤◌}
use mathlib.Core.Path.{◌≡◌, refl, sym, ap, ◌∙◌}
use mathlib.Core.List.{List}
use native.Mathlib.Omega.{arith}
use lib.ListN.{length, take, drop, length-take}
use lib.Seq.{get_or-take}
use Rattle.ftd.specs.Bytes.{be16_of, part}
use Rattle.ftd.specs.Runs.{front, run_of}
use Rattle.ftd.specs.Packet.{span, dated_of}
use Rattle.ftd.specs.Chain.Laws.{packet_form}
use Rattle.ftd.proofs.Lists.{byte-append}
use Rattle.ftd.proofs.runs.Joined.{Local}
use Rattle.ftd.specs.declared.refusal.Refusal.{Refusal}
use Rattle.ftd.specs.Types.{TradeDate}
use Rattle.ftd.specs.Types.{PacketPlace}
use Rattle.ftd.specs.declared.packet.Header.{Header}
use Rattle.ftd.specs.declared.packet.Span.{Span}
use Rattle.flow.specs.declared.receiver.Receiver.{Receiver}
use Rattle.flow.specs.declared.receiver.ReceiveStep.{ReceiveStep}
use Rattle.flow.specs.declared.receiver.Origin.{Origin}
use Rattle.flow.specs.declared.receiver.Origin.TheVariants.{Packet, Buffer}
use Rattle.flow.specs.declared.receiver.Received.{Received}
use Rattle.flow.specs.declared.receiver.Received.TheVariants.{Complete}
use Rattle.flow.specs.declared.receiver.Received.TheVariants.{Refused as NotTaken}
use Rattle.flow.specs.declared.several.ReceivedSeveral.{ReceivedSeveral}
use Rattle.flow.specs.declared.several.ReceivedSeveral.TheVariants.{Complete as StopComplete}
use Rattle.flow.specs.declared.several.ReceivedSeveral.TheVariants.{Refused as StopRefused}
use Rattle.flow.specs.Types.{ReceiveTurn}
use Rattle.flow.specs.Ends.{Wrote, wrote}
use Rattle.flow.specs.Receiving.{receive_of}
use Rattle.flow.specs.Promises.{Receives, ReceivesSeveral}
use Rattle.flow.specs.Several.{walk_over, received_stops, receiving}
use Rattle.flow.specs.Several.{placed_from, receive_several_of}
use Rattle.flow.specs.SeveralHelpers.{LiesIn, AnswerIn, turn_stop}
use Rattle.flow.proofs.calls.Receive as calls
use Rattle.flow.proofs.login.Whole.{read-inside}
use Rattle.flow.proofs.several.Walks.{input-length, turn-stop, turn_on}
use Rattle.std.specs.Prelude.{Some, None}

-- ─── The content that Receive tells lies in the packet ───

took-inside : (e : Receiver) (h : Header) (date : TradeDate) (place : PacketPlace) (c : Span) (content buffer : List ℕ) (n : ℕ)
    → c.start + c.len ≤ n → (w : Wrote Receiver Received) → calls.Took e h date place c content buffer w
    → AnswerIn n w.answer
took-inside e h date place c content buffer n k _ (calls.unknown a) = tt
took-inside e h date place c content buffer n k _ (calls.not_in a) = tt
took-inside e h date place c content buffer n k _ (calls.refuses r a b) = tt
took-inside e h date place c content buffer n k _ (calls.repeats a b d) = tt
took-inside e h date place c content buffer n k _ (calls.hands-single a b d) = k
took-inside e h date place c content buffer n k _ (calls.holds-first a b d f) = tt
took-inside e h date place c content buffer n k _ (calls.holds-middle a b d f) = tt
took-inside e h date place c content buffer n k _ (calls.hands-last a b d f) = tt

pub received-inside : (e : Receiver) (p buffer : List ℕ) → AnswerIn (length p) (receive_of e p buffer).answer
received-inside e p buffer = go (receive_of e p buffer) (calls.receive-as e p buffer)
  where
    go : (w : Wrote Receiver Received) → calls.Received-as e p buffer w → AnswerIn (length p) w.answer
    go _ (calls.unread r a) = tt
    go _ calls.idles = tt
    go w (calls.reads h extension c q t) =
        took-inside e h (dated_of p).date (dated_of p).place c (part p c.start c.len) buffer (length p)
        (read-inside p (dated_of p) refl h extension c q) w t

-- ─── The turn ───

pub some-packet : 0 < packet_form.head
unfolding packet_form
some-packet = omega arith

-- How many bytes a packet takes is said by its first four.
pub packet-local : Local packet_form
unfolding packet_form be16_of
packet-local l r n h k =
    let long : length (take n l) ≡ n = rw length-take (omega arith) in
    rw (
      byte-append (take n l) r 1 (omega arith),
      byte-append (take n l) r 2 (omega arith),
      byte-append (take n l) r 3 (omega arith),
      get_or-take {A = ℕ} n l 1 0 (omega arith),
      get_or-take {A = ℕ} n l 2 0 (omega arith),
      get_or-take {A = ℕ} n l 3 0 (omega arith),
    )

module _ (e₀ : Receiver) (s l₀ : List ℕ) where
  module _ (at n : ℕ) (m : n ≡ front packet_form (drop at s)) (e : Receiver) (l : List ℕ)
      (inv : walk_over receiving e l at (run_of packet_form (drop at s)) ≡ receive_several_of e₀ s l₀) where
    module _ (z : n ≡ 0 → ⊥) (r : ReceiveStep) (after : List ℕ)
        (c : Receives e (take (at + n - at) (drop at s)) l r after) where
      whole : wrote r.end r.answer after ≡ receive_of e (take (at + n - at) (drop at s)) l
      whole = rw (c.0, c.2, c.3)

      pub answer-in : AnswerIn n r.answer
      answer-in =
          let h = received-inside e (take (at + n - at) (drop at s)) l in
          rw c.2 (rw (input-length receiving some-packet s at n m e l _ inv) at h)

      module _ (t : ReceiveTurn) (k : turn_stop t ≡ received_stops at r.answer) where
        pub stop-turn : (a : ReceivedSeveral) → t ≡ Some a
            → ReceivesSeveral e₀ s l₀ (record { end = r.end; answer = a; taken = at + n }) after
        stop-turn a q =
            turn-stop receiving some-packet s at n m e l _ inv z (wrote r.end r.answer after) whole a
            (sym k ∙ ap turn_stop q)

        pub on-turn : t ≡ None
            → walk_over receiving r.end after (at + n) (run_of packet_form (drop (at + n) s))
            ≡ receive_several_of e₀ s l₀
        on-turn q =
            turn_on receiving some-packet s at n m e l _ inv z (wrote r.end r.answer after) whole
            (sym k ∙ ap turn_stop q)

-- ─── Where the content lies ───

module _ (n : ℕ) (o : Origin) (c : Span) where
  pub lies-inside : LiesIn n o c → o ≡ Packet → c.start + c.len ≤ n
  lies-inside h q = rw q at h

module _ (at : ℕ) (o : Origin) (c : Span) where
  pub placed-packet : o ≡ Packet → span (at + c.start) c.len ≡ placed_from at o c
  placed-packet q = rw q

  pub placed-buffer : o ≡ Buffer → c ≡ placed_from at o c
  placed-buffer q = rw q

module _ (at n : ℕ) (a : Received) where
  pub complete-in : AnswerIn n a → (last tid : ℕ) (o : Origin) (c : Span) → a ≡ Complete last tid o c → LiesIn n o c
  complete-in h last tid o c q = rw q at h

  pub complete-stops : (last tid : ℕ) (o : Origin) (c d : Span) → a ≡ Complete last tid o c → d ≡ placed_from at o c
      → turn_stop (Some (StopComplete last tid o d)) ≡ received_stops at a
  complete-stops last tid o c d q k = rw (q, k)

  pub refused-stops : (r : Refusal) → a ≡ NotTaken r → turn_stop (Some (StopRefused r)) ≡ received_stops at a
  refused-stops r q = rw q
