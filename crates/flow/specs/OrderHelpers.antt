-- Definitions of private contracts of the order of two serving ends (02, No. 14): what its helpers promise each other.
use Rattle.std.specs.Prelude.{ℕ, ◌+◌, ◌-◌, ◌<◌, ◌≤◌, ◌≡◌, List, [], ◌∷◌, Bool, true, false, length, take, drop, eqb}
use Rattle.std.proofs.Math.Option.{Option, none, some}
use Rattle.ftd.specs.Bytes.{part}
use Rattle.ftd.specs.Runs.{run_of}
use Rattle.flow.specs.declared.sender.Sender.{Sender}
use Rattle.flow.specs.Ends.{◌when◌else◌}
use Rattle.flow.specs.Log.{entry, entry_series, entry_of}
use Rattle.flow.specs.Answers.{Message}
use Rattle.flow.specs.Order.{message_of}
use Rattle.std.specs.Prelude.{Some, None}
use Rattle.flow.specs.Types.{MaybeEntry}

-- The messages of a series among entries, and among the entries that bytes start with: no test is made on the way.
abbrev pub of_series : ℕ → List (List ℕ) → List Message
of_series s [] = []
of_series s (x ∷ xs) = message_of x ∷ of_series s xs when eqb (entry_series x) s else of_series s xs

unfoldable pub messages_in : ℕ → List ℕ → List Message
messages_in s l = of_series s (run_of entry l).entries

-- The next of n messages o of a series, in the bytes l: none is left; or it lies there, and the others behind it.
abbrev pub NextIn : List Message → ℕ → ℕ → List ℕ → MaybeEntry → Type 0
NextIn o s n l None = o ≡ []
NextIn o s n l (Some found) =
    (o ≡ message_of (part l found.start found.size) ∷ take (n - 1) (messages_in s (drop (found.start + found.size) l)))
    × (16 ≤ found.size) × (found.start + found.size ≤ length l) × (0 < n)

-- Entry n of a series is found, where n is not 0.
abbrev pub is_found : Option (List ℕ) → Bool
is_found none = false
is_found (some x) = true

unfoldable pub last_found : Sender → List ℕ → ℕ → ℕ → Bool
last_found e log s n = true when eqb n 0 else is_found (entry_of e log s n)

-- So many of the first `used` bytes are there.
abbrev pub UsedPart : List ℕ → ℕ → ℕ → Type 0
UsedPart log used n = (n ≤ length log) × (take n log ≡ take used log)
