-- Layer "pieces counted": what Receive makes of packet j of a message, of an end in any state and with any buffer, if a
-- chain that has counted j pieces of the message that is next holds the pieces before it (`Before`). That is the chain's
-- own invariant (layer "right"), so packets may come in any order and number. In a run moreover there is such a chain
-- where the end is ready for the message (`Running`, `Run`, `Behind`), which the arrival of all that is sent needs.
pub mod Buffers
pub mod Pieces
pub mod Chained
pub mod Outcomes
pub mod Completes
pub mod Others
pub mod Takes
pub mod Runs
use Prim.Native.Nat.{ℕ, suc, ◌+◌, ◌<◌}
use mathlib.Core.Path.{◌≡◌}
use mathlib.Core.List.{List, [], ◌∷◌}
use lib.ListN.{length}
use Rattle.ftd.specs.Chain.{pieces_of, packets_of}
use Rattle.flow.specs.declared.receiver.Receiver.{Receiver}
use Rattle.flow.specs.Answers.{received_said, message_in, report_in}
use Rattle.flow.specs.Receiving.{receive_of}
use Rattle.flow.proofs.packets.Genuine.{headed}
use Rattle.flow.proofs.ends.ReceiverLookups.{Eight}
use Rattle.flow.proofs.pieces.Chained.{Chain-open, Holding}
use Rattle.flow.proofs.pieces.Outcomes.{Delivered}
use Rattle.flow.proofs.pieces.Completes.{Wants}
use Rattle.flow.proofs.pieces.Others.{Elsewhere}
use Rattle.flow.proofs.pieces.Takes.{PacketAt, Before, Running, take-holds, take-opens, take-delivers, take-completes}
use Rattle.flow.proofs.pieces.Takes.{take-elsewhere}

pub record PieceLaws : Type 0 where
  -- One piece more is held, if a chain is there at all.
  pub holds : {s t k d : ℕ} {c : List ℕ} {j : ℕ} {p : List ℕ} → PacketAt s t k d c j p → (e : Receiver) → Eight e
      → (buffer : List ℕ) → Before e buffer s t k d c j
      → Holding (receive_of e p buffer).end (receive_of e p buffer).bytes s t k d c (suc j)
  -- No trade date moves; last may be reported; or the message is handed on, whole, as number last + 1 of the kept day.
  pub delivers : {s t k d : ℕ} {c : List ℕ} {j : ℕ} {p : List ℕ} → PacketAt s t k d c j p → (e : Receiver) → Eight e
      → (buffer : List ℕ) → Before e buffer s t k d c j →
      let r = receive_of e p buffer in
      Delivered e s d k (record { tid = t; content = c }) r.end (message_in (received_said p r.bytes r.answer))
      (report_in (received_said p r.bytes r.answer))
  -- In a run, where the end wants the message, each packet but the last leaves a chain, and the last one hands it on.
  pub opens : {s t k d : ℕ} {c : List ℕ} {j : ℕ} {p : List ℕ} → PacketAt s t k d c j p → (e : Receiver) → Eight e
      → (buffer : List ℕ) → Running e buffer s t k d c j
      → suc j < length (pieces_of c) → Wants (receive_of e p buffer).end (receive_of e p buffer).bytes s k d
      → Chain-open (receive_of e p buffer).end s
  pub completes : {s t k d : ℕ} {c : List ℕ} {j : ℕ} {p : List ℕ} → PacketAt s t k d c j p → (e : Receiver) → Eight e
      → (buffer : List ℕ) → Running e buffer s t k d c j →
      let r = receive_of e p buffer in
      j + 1 ≡ length (packets_of (headed s t k d) c) → Wants e buffer s k d
      → message_in (received_said p r.bytes r.answer) ≡ record { tid = t; content = c } ∷ []
  -- Of every other series nothing changes.
  pub elsewhere : {s t k d : ℕ} {c : List ℕ} {j : ℕ} {p : List ℕ} → PacketAt s t k d c j p → (e : Receiver) → Eight e
      → (buffer : List ℕ) (u : ℕ) → (u ≡ s → ⊥)
      → Elsewhere e buffer (receive_of e p buffer).end (receive_of e p buffer).bytes u

pub piece-laws : PieceLaws
piece-laws =
    record {
      holds = take-holds;
      delivers = take-delivers;
      opens = take-opens;
      completes = take-completes;
      elsewhere = take-elsewhere;
    }
