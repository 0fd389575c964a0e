-- Pieces in runs: right behind the packets of a message up to j, one after the other, a chain holds their pieces, and where
-- the end is ready for the message there is one. Only the arrival of all that is sent needs it. Assumes nothing.
use Prim.Native.Nat.{ℕ, zero, suc, ◌<◌}
use native.Mathlib.Omega.{arith}
use mathlib.Core.Path.{◌≡◌, refl, sym, ◌∙◌}
use mathlib.Core.List.{List}
use mathlib.Core.Bool.{true}
use borrow.Author.Tests.{eqb-true}
use mathlib.Core.Option.{some}
use lib.ListN.{length, get_elem?}
use lib.Dec.{eqb}
use Rattle.ftd.specs.Chain.{pieces_of, packets_of}
use Rattle.ftd.specs.Fields.{shaped, most_content}
use Rattle.flow.specs.declared.receiver.Receiver.{Receiver}
use Rattle.flow.specs.World.{Transmission, Previous, came, other, behind, continues}
use Rattle.flow.proofs.common.Bools.{and_both, clash}
use Rattle.flow.proofs.common.Extends.{Extends, extends-along}
use Rattle.flow.proofs.common.Transmissions.{Onward, onward-at}
use Rattle.flow.proofs.packets.Genuine.{headed}
use Rattle.flow.proofs.pieces.Chained.{Chain-open, Holding}
use Rattle.flow.proofs.pieces.Completes.{Wants}

-- Right behind n packets of the message of series s, TID t, number k and day d with content c, a chain of its series
-- holds their pieces; and before the last packet there is one where the end is ready for the message.
pub record Run (e : Receiver) (buffer : List ℕ) (s t k d : ℕ) (c : List ℕ) (n : ℕ) : Type 0 where
  pub holding : Holding e buffer s t k d c n
  pub opens : n < length (pieces_of c) → Wants e buffer s k d → Chain-open e s

-- Of a series s and day d, by the receiving end's previous call: packet j of the transmission at place i of the line, at
-- the end of a run; of every message of that series and day that the transmission is the start of. Nothing is known
-- otherwise. It holds if none of them was turned away since the run began.
abbrev pub Behind : ℕ → ℕ → List Transmission → Receiver → List ℕ → Previous → Type 0
Behind s d ts e buffer (came i j) =
    (m : Transmission) × (get_elem? ts i ≡ some m)
    × (m.series ≡ s → (t k : ℕ) (c : List ℕ) → Extends m.packets (packets_of (headed m.series t k d) c)
    → shaped c most_content ≡ true → Run e buffer m.series t k d c (suc j))
Behind s d ts e buffer other = Unit

-- The transmissions go on: a longer start is one of no more messages.
pub behind-onward : (s d : ℕ) (ts us : List Transmission) → Onward ts us → (e : Receiver) (buffer : List ℕ)
    (p : Previous) → Behind s d ts e buffer p → Behind s d us e buffer p
behind-onward s d ts us o e buffer (came i j) b =
    let x = onward-at ts us o i b.0 b.1 in
    let l = x.2 in (
      x.0,
      x.1,
      λ n t k c w q.
          let f : Extends x.0.packets (packets_of (headed b.0.series t k d) c) = rw l.series at w in
          rw l.series
          (b.2 (sym l.series ∙ n) t k c (extends-along b.0.packets x.0.packets _ l.packets f) q),
    )
behind-onward s d ts us o e buffer other b = tt

-- A packet that continues a run comes right behind the one before it.
was-before : (p : Previous) (i j : ℕ) → behind p i j ≡ true → p ≡ came i j
was-before (came a b) i j q =
    let x = and_both (eqb a i) (eqb b j) q in
    let u = eqb-true a i x.0 in
    let v = eqb-true b j x.1 in
    rw (u, v)
was-before other i j q = clash _ q refl

pub run-before : (p : Previous) (i j : ℕ) → continues p i j ≡ true → (n : ℕ) → j ≡ suc n → p ≡ came i n
run-before p i zero l n q = absurd (omega arith)
run-before p i (suc j) l n q = let f : j ≡ n = omega arith in rw f at (was-before p i j l)
