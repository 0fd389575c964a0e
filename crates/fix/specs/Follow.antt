-- The numbers that the reader calls next follow each other (02, No. 12): ftd's statement (Follow), from any expected
-- number and along any bytes. The caller applies resets: it may set the number that it expects.
use Rattle.std.specs.Prelude.{ℕ, ◌≡◌, List, Bool, true, false}
use Rattle.std.proofs.Math.Option.{Option, none, some}
use Rattle.ftd.specs.Follow.{Numbered}
use Rattle.fix.specs.declared.read.Judged.{Judged}
use Rattle.fix.specs.declared.read.Judged.TheVariants.{Refused, Next, Again, Gap, Reset}
use Rattle.fix.specs.Read.{read_of}

-- Any bytes are read with the number expected; or the caller sets it.
pub data Event : Type 0 where
  frame : List ℕ → Event
  set_to : ℕ → Event

-- The number expected then.
abbrev pub expected_then : ℕ → Event → ℕ
expected_then expected (frame b) = (read_of b expected).expected
expected_then expected (set_to n) = n

-- The number of a message that is next.
abbrev pub number_if_next : Judged → Option ℕ
number_if_next (Refused r) = none
number_if_next (Next m) = some m.number
number_if_next (Again m) = none
number_if_next (Gap m) = none
number_if_next (Reset m) = none

abbrev pub took_number : ℕ → Event → Option ℕ
took_number expected (frame b) = number_if_next (read_of b expected).answer
took_number expected (set_to n) = none

-- Only the caller starts a new numbering.
abbrev pub is_set : ℕ → Event → Bool
is_set expected (frame b) = false
is_set expected (set_to n) = true

abbrev pub frames : Numbered ℕ Event
frames = record { wanted = λ n. n; step = expected_then; took = took_number; anew = is_set }

-- The number expected is the caller's, who may keep it and come back to it (No. 13): then it is the one kept.
abbrev pub ComesBack : ℕ → ℕ → ℕ → Type 0
ComesBack kept now back = back ≡ kept
