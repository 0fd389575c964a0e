-- What is refused leaves everything as it was. Assumes nothing.
use Prim.Native.Nat.{ℕ}
use mathlib.Core.Path.{◌≡◌, sym}
use mathlib.Core.List.{List}
use Rattle.ftd.specs.declared.refusal.Refusal.{Refusal}
use Rattle.fix.specs.declared.read.Judged.TheVariants.{Refused}
use Rattle.fix.specs.Read.{read_of}
use Rattle.fix.specs.Refusals.{RefusalsLeave}
use Rattle.fix.proofs.write.Answers.{kept}
use Rattle.fix.proofs.Follow.{did-stay, read-did}

reads : (b : List ℕ) (expected : ℕ) (r : Refusal) → (read_of b expected).answer ≡ Refused r
    → (read_of b expected).expected ≡ expected
reads b expected r e = did-stay expected (read_of b expected) (read-did b expected) (rw e)

pub refusals-leave : RefusalsLeave
refusals-leave = record { reads = reads; writes = λ name run out r e. sym (kept name run out r (sym e)) }
