-- What the private functions of reading promise; only their contracts use it.
use Rattle.std.specs.Prelude.{ℕ, ◌+◌, ◌≤◌, ◌≡◌, List}
use Rattle.ftd.specs.Packet.{extension_length, body_length}
use Rattle.ftd.specs.declared.packet.Verdict.{Verdict}
use Rattle.ftd.specs.declared.packet.Judged.{Judged}
use Rattle.std.specs.Prelude.{Some, None}
use Rattle.ftd.specs.Types.{MaybeField}

-- The lengths of extension and body are those that the four say.
abbrev pub SaysLengths : List ℕ → ℕ → ℕ → Type 0
SaysLengths p ext body = (ext ≡ extension_length p) × (body ≡ body_length p)

abbrev pub FitsIn : ℕ → MaybeField → Type 0
FitsIn room None = Unit
FitsIn room (Some found) = found.start + found.len ≤ room

-- What bears neither trade date nor place.
abbrev pub bare : Verdict → Judged
bare verdict = record { verdict = verdict; date = None; place = None }
