-- Two answers of Send with a message: equal, they have the same number and length.
use Rattle.std.specs.Prelude.{ℕ, ◌≡◌, Some, None, Ok, Err}
use mathlib.Core.Path.{ap}
use Rattle.flow.specs.Types.{SendAnswer, message_sent}

abbrev number_in : SendAnswer → ℕ
number_in (Ok (Some found)) = found.number
number_in (Ok None) = 0
number_in (Err r) = 0

pub same-message : (k n j m : ℕ) → message_sent k n ≡ message_sent j m → k ≡ j
same-message k n j m e = ap number_in e
