-- Definitions of private contracts: what the calls' helpers promise each other. No call's promise names them.
use Rattle.std.specs.Prelude.{ℕ, suc, ◌+◌, ◌<◌, ◌≤◌, ◌≡◌, List, true, false, not, length, get_or, drop, set, eqb}
use Rattle.std.proofs.Math.Option.{Option, none, some}
use Rattle.ftd.specs.Bytes.{part}
use Rattle.ftd.specs.Fields.{shaped, most_content}
use Rattle.ftd.specs.declared.refusal.Refusal.{Refusal}
use Rattle.flow.specs.Types.{SeriesPlace}
use Rattle.flow.specs.declared.sender.Sender.{Sender}
use Rattle.ftd.specs.declared.refusal.Refusal.TheVariants.{Opening}
use Rattle.flow.specs.declared.sender.OpenStep.{OpenStep}
use Rattle.flow.specs.declared.sender.PublishStep.{PublishStep}
use Rattle.flow.specs.declared.receiver.KeptSeries.{KeptSeries}
use Rattle.flow.specs.declared.receiver.LiveSeries.{LiveSeries}
use Rattle.flow.specs.declared.receiver.Receiver.{Receiver}
use Rattle.flow.specs.declared.log.EntryStep.{EntryStep}
use Rattle.flow.specs.declared.log.EntryStep.TheVariants.{Wrong, Wanted, Passed}
use Rattle.flow.specs.Ends.{◌when◌else◌, index_of, day_series, is_served, sender}
use Rattle.flow.specs.Ends.{kept_series, is_open, receiver}
use Rattle.flow.specs.Log.{entry_series, entry_number, strange_series, nonzero, misshapen, is_wanted}
use Rattle.std.specs.Prelude.{Some, None, Err}
use Rattle.flow.specs.Types.{MaybePlace}

-- Where a series stands among the open ones.
abbrev pub Finds : Sender → ℕ → SeriesPlace → Type 0
Finds e s None = is_served e s ≡ false
Finds e s (Some i) = (is_served e s ≡ true) × (i ≡ index_of s (day_series e)) × (i < 8)

-- A refused Opening leaves the end.
abbrev pub unopened : Sender → OpenStep
unopened e = record { end = e; answer = Err Opening }

-- A refused Publish leaves the end.
abbrev pub unpublished : Sender → Refusal → PublishStep
unpublished e r = record { end = e; answer = Err r }

-- The series at place i with a login, and a number next, of which so many packets were written one by one.
abbrev pub placed_at : Sender → ℕ → ℕ → ℕ → Sender
placed_at e i next piece =
    sender e.day.date e.day.count e.day.series e.day.used
    (set e.seat.places i (record { login = true; next = next; piece = piece }))

-- ─── The walk over the log ───

-- An entry, with the last number of each place so far: a turn of `walk` (Log), which counts the series of the entries
-- before it.
unfoldable pub checked : Sender → List ℕ → ℕ → ℕ → List ℕ → EntryStep
checked e last s k x =
    Wrong when strange_series e x else
    Wrong when nonzero x else
    Wrong when not (eqb (entry_number x) (suc (get_or last (index_of (entry_series x) (day_series e)) 0))) else
    Wrong when misshapen x else
    Wanted when is_wanted s k x else
    Passed (index_of (entry_series x) (day_series e)) (entry_number x)

-- A place is one of the 8.
abbrev pub PlaceInside : EntryStep → Type 0
PlaceInside Wrong = Unit {0}
PlaceInside Wanted = Unit {0}
PlaceInside (Passed place number) = place < 8

-- An entry that is looked for among the bytes, and where it lies, with content that 7 lets pass.
abbrev pub EntryIn : Option (List ℕ) → List ℕ → MaybePlace → Type 0
EntryIn o l None = o ≡ none
EntryIn o l (Some found) =
    (o ≡ some (part l found.start found.size)) × (16 ≤ found.size) × (found.start + found.size ≤ length l)
    × (shaped (drop 16 (part l found.start found.size)) most_content ≡ true)

-- ─── The receiving end ───

-- Where a series stands among the open ones.
abbrev pub FindsKept : Receiver → ℕ → SeriesPlace → Type 0
FindsKept e s None = is_open e s ≡ false
FindsKept e s (Some i) = (is_open e s ≡ true) × (i ≡ index_of s (kept_series e)) × (i < 8)

-- The series at place i with what is now kept of it and what it now has on this connection.
abbrev pub series_at : Receiver → ℕ → KeptSeries → LiveSeries → Receiver
series_at e i kept live = receiver e.kept.count (set e.kept.series i kept) (set e.live.series i live)
