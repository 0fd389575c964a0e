-- Definitions of private contracts of named places (02, No. 13): what keeping's and return's helpers promise each other.
use Rattle.std.specs.Prelude.{ℕ, ◌+◌, ◌<◌, ◌≡◌, true, false, set, ltb}
use Rattle.ftd.specs.declared.refusal.Refusal.TheVariants.{FifthName}
use Rattle.flow.specs.declared.receiver.KeptSeries.{KeptSeries}
use Rattle.flow.specs.declared.receiver.Kept.{Kept}
use Rattle.flow.specs.declared.receiver.Receiver.{Receiver}
use Rattle.flow.specs.declared.checkpoint.Checkpoints.{Checkpoints}
use Rattle.flow.specs.Types.{NamePlace}
use Rattle.flow.specs.declared.checkpoint.KeepStep.{KeepStep}
use Rattle.flow.specs.Ends.{◌when◌else◌, member, index_of, day_of, last_of}
use Rattle.flow.specs.Checkpoints.{checkpoint, used_names}
use Rattle.std.specs.Prelude.{Some, None, Ok, Err}

-- Where a name, as its number, stands among those in use.
abbrev pub FindsName : Checkpoints → ℕ → NamePlace → Type 0
FindsName c n None = member n (used_names c) ≡ false
FindsName c n (Some i) = (member n (used_names c) ≡ true) × (i ≡ index_of n (used_names c)) × (i < 4)

-- So many names, and what is kept under one at a place.
abbrev pub placed_name : Checkpoints → ℕ → ℕ → ℕ → Kept → Checkpoints
placed_name c count i n kept = record { count = count; places = set c.places i (checkpoint n kept) }

-- Keeping under a name that is not in use.
abbrev pub kept_new : Checkpoints → ℕ → Kept → KeepStep
kept_new c n kept =
    record { checkpoints = placed_name c (c.count + 1) c.count n kept; answer = (Ok tt) } when ltb c.count 4 else
    record { checkpoints = c; answer = Err FifthName }

-- A series with what another end has of it.
abbrev pub brought_from : Receiver → KeptSeries → KeptSeries
brought_from from x =
    record { series = x.series; date = day_of from x.series; last = last_of from x.series }
