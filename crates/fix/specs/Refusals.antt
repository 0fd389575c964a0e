-- What is refused leaves everything as it was (01, demand 1): the number that the reader expects, and each byte of the
-- writer's output.
use Rattle.std.specs.Prelude.{ℕ, ◌≡◌, List, length}
use Rattle.ftd.specs.declared.refusal.Refusal.{Refusal}
use Rattle.fix.specs.declared.read.Judged.TheVariants.{Refused as Turned}
use Rattle.fix.specs.Read.{read_of}
use Rattle.fix.specs.Write.{write_answer, write_output}
use Rattle.std.specs.Prelude.{Err}
use Rattle.ftd.specs.declared.write.WriteError.TheVariants.{Refused}

pub record RefusalsLeave : Type 0 where
  -- Any bytes, read with any expected number.
  pub reads : (b : List ℕ) (expected : ℕ) (r : Refusal) → (read_of b expected).answer ≡ Turned r
      → (read_of b expected).expected ≡ expected
  -- Any type and fields, written into any output.
  pub writes : (name run out : List ℕ) (r : Refusal) → write_answer name run (length out) ≡ Err (Refused r)
      → write_output name run out ≡ out
