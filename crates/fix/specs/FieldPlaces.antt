-- Where fields lie, for the code: nothing that is promised of a frame names it.
use Rattle.std.specs.Prelude.{ℕ, ◌+◌, ◌<◌, ◌≤◌, List, length}
use Rattle.std.specs.Prelude.{Some, None}
use Rattle.fix.specs.Types.{MaybeFront}

-- At the front of so many bytes, with SOH behind it; the tag has a byte, and at most 9 digits.
abbrev pub FrontInside : ℕ → MaybeFront → Type 0
FrontInside n None = Unit
FrontInside n (Some found) = (1 ≤ found.start) × (1 ≤ found.len) × (found.start + found.len < n)

abbrev pub PlaceInside : List ℕ → MaybeFront → Type 0
PlaceInside run None = Unit
PlaceInside run (Some found) = found.start + found.len < length run

-- A place moved on is a number of 64 bits.
abbrev pub MovesIn : ℕ → MaybeFront → Type 0
MovesIn at None = Unit
MovesIn at (Some found) = at + found.start ≤ 18446744073709551615
