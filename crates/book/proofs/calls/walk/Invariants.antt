use Prim.Native.Nat.{◌-◌, ◌≤◌}
use mathlib.Core.Path.{◌≡◌}
use mathlib.Core.List.{map}
use lib.ListN.{length, drop}
use Rattle.ftd.specs.Runs.{run_of}
use Rattle.ftd.specs.Fields.{field}
use Rattle.book.specs.Event.{event_of}
use Rattle.book.specs.Calls.{walked, events_of}
use Rattle.book.proofs.calls.walk.Given as goal

abbrev pub invariant-loop-code : goal.invariant-loop-code
invariant-loop-code l =
    (l.at ≤ length l.content) × (length l.code ≡ 10)
    × (walked l.current (map (event_of l.code l.tid) (run_of field (drop l.at l.content)).entries)
    ≡ walked l.initial.current (events_of l.code l.tid l.content))

abbrev pub decreases-loop-code : goal.decreases-loop-code
decreases-loop-code l = length l.content - l.at
