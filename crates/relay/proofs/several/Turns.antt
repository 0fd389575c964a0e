-- A turn of the box's walk over packets. Assumes nothing.
use Prim.Native.Nat.{ℕ, ◌+◌, ◌-◌}
use mathlib.Core.Path.{◌≡◌, refl, sym, ap, ◌∙◌}
use mathlib.Core.List.{List, []}
use lib.ListN.{length, take, drop}
use Rattle.ftd.specs.Runs.{front, run_of}
use Rattle.ftd.specs.Packet.{dated_of}
use Rattle.ftd.specs.Chain.Laws.{packet_form}
use Rattle.flow.specs.declared.receiver.Receiver.{Receiver}
use Rattle.flow.specs.declared.receiver.Received.{Received}
use Rattle.flow.specs.declared.several.ReceivedSeveral.{ReceivedSeveral}
use Rattle.flow.specs.Types.{ReceiveTurn}
use Rattle.flow.specs.Ends.{Wrote, wrote}
use Rattle.flow.specs.Promises.{LeavesSeveral}
use Rattle.flow.specs.Receiving.{receive_of}
use Rattle.flow.specs.World.{series_in}
use Rattle.flow.specs.Several.{Took, walk_over, rest_of, received_stops, receiving}
use Rattle.flow.specs.SeveralHelpers.{AnswerIn, turn_stop}
use Rattle.flow.proofs.several.Received.{received-inside, some-packet}
use Rattle.flow.proofs.several.Walks.{input-length, start-turn, rest-turn, turn-stop, turn_on}
use Rattle.relay.specs.declared.relay.Relay.{Relay}
use Rattle.relay.specs.declared.relay.ReceiveStep.{ReceiveStep}
use Rattle.relay.specs.State.{Box, box_for}
use Rattle.relay.specs.Box.{ReceiveWay, late, refuses, through, publishes, receive_by, receive_way, receive_box_of}
use Rattle.relay.specs.Promises.{ReceivesBox}
use Rattle.relay.specs.Bufferful.{Logged, logged, relay_one, relaying, receive_several_box_of, ReceivesSeveralBox}
use Rattle.std.specs.Prelude.{Some, None}

-- ─── The content that Receive tells lies in the packet ───

way-inside : (n : ℕ) (b : Box) (s : ℕ) (log buffer : List ℕ) (r : Wrote Receiver Received) (w : ReceiveWay)
    → AnswerIn n r.answer → AnswerIn n (receive_by b s log buffer r w).answer
way-inside n b s log buffer r late h = tt
way-inside n b s log buffer r (refuses x) h = tt
way-inside n b s log buffer r through h = h
way-inside n b s log buffer r (publishes m q) h = h

pub relayed-inside : (b : Box) (p log buffer : List ℕ) → AnswerIn (length p) (receive_box_of b p log buffer).answer
unfolding receive_box_of
relayed-inside b p log buffer =
    way-inside (length p) b (series_in (dated_of p).packet) log buffer (receive_of b.receiver p buffer)
    (receive_way b p log buffer) (received-inside b.receiver p buffer)

-- ─── The turn ───

leaves-box : (x : Logged) (s : List ℕ) (meant : Took Logged ReceivedSeveral) (a : ReceivedSeveral) (to : ℕ) (g : List ℕ)
    → LeavesSeveral relaying meant s x a to g
    → (x.box ≡ meant.end.box)
    × (relaying.told s g a ≡ relaying.told s meant.bytes meant.answer)
    × (a ≡ meant.answer)
    × (to ≡ meant.taken)
    × (x.log ≡ meant.end.log)
    × (g ≡ meant.bytes)
leaves-box x s meant a to g h = (
  ap (λ (y : Logged). y.box) h.0,
  h.1,
  h.2,
  h.3,
  ap (λ (y : Logged). y.log) h.0,
  h.4,
)

module _ (b₀ : Relay) (s log₀ l₀ : List ℕ) where
  -- What is left to walk, from a place on with a box and what is lent, comes to what is meant.
  abbrev pub Left : Relay → List ℕ → List ℕ → ℕ → Type 0
  Left e log l at =
      (seats : List ℕ) → walk_over relaying (logged (box_for e seats) log) l at (run_of packet_form (drop at s))
      ≡ receive_several_box_of (box_for b₀ seats) s log₀ l₀

  module _ (at n : ℕ) (m : n ≡ front packet_form (drop at s)) (e : Relay) (log l : List ℕ) (inv : Left e log l at) where
    pub rest-box : n ≡ 0 → (a : ReceivedSeveral) → a ≡ rest_of receiving (take (length s - at) (drop at s))
        → ReceivesSeveralBox b₀ s log₀ l₀ (record { end = e; answer = a; taken = at }) log l
    rest-box z a q =
        λ seats.
        leaves-box (logged (box_for e seats) log) s _ a at l
        (rest-turn relaying some-packet s at n m (logged (box_for e seats) log) l _ (inv seats) z a q)

    module _ (z : n ≡ 0 → ⊥) (r : ReceiveStep) (later after : List ℕ)
        (c : ReceivesBox e (take (at + n - at) (drop at s)) log l r later after) where
      abbrev x : List ℕ
      x = take (at + n - at) (drop at s)

      whole : (seats : List ℕ) → wrote (logged (box_for r.end seats) later) r.answer after
          ≡ relay_one (logged (box_for e seats) log) x l
      whole seats =
          let g = c seats in
          rw (g.0, g.2, g.3, g.4) refl

      pub answer-in : AnswerIn n r.answer
      answer-in =
          let h = relayed-inside (box_for e []) x log l in
          let g = c [] in
          rw g.2 (rw (input-length relaying some-packet s at n m (logged (box_for e []) log) l _ (inv [])) at h)

      module _ (t : ReceiveTurn) (k : turn_stop t ≡ received_stops at r.answer) where
        pub stop-box : (a : ReceivedSeveral) → t ≡ Some a
            → ReceivesSeveralBox b₀ s log₀ l₀ (record { end = r.end; answer = a; taken = at + n }) later after
        stop-box a q =
            λ seats.
            leaves-box (logged (box_for r.end seats) later) s _ a (at + n) after
            (turn-stop relaying some-packet s at n m (logged (box_for e seats) log) l _ (inv seats) z
            (wrote (logged (box_for r.end seats) later) r.answer after) (whole seats) a (sym k ∙ ap turn_stop q))

        pub on-box : t ≡ None → Left r.end later after (at + n)
        on-box q =
            λ seats.
            turn_on relaying some-packet s at n m (logged (box_for e seats) log) l _ (inv seats) z
            (wrote (logged (box_for r.end seats) later) r.answer after) (whole seats) (sym k ∙ ap turn_stop q)

  pub start-box : Left b₀ log₀ l₀ 0
  start-box = λ seats. start-turn relaying (logged (box_for b₀ seats) log₀) s l₀
