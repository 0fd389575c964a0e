use Prim.Native.Nat.{◌-◌, ◌≤◌}
use mathlib.Core.Path.{◌≡◌}
use lib.ListN.{length, drop}
use Rattle.ftd.specs.Runs.{run_of}
use Rattle.ftd.specs.Tags.{tag, good_run, good_tags}
use Rattle.ftd.proofs.tags.Walk.{Seen}
use Rattle.ftd.proofs.tags.read_tags.Given as goal

abbrev pub invariant-loop-at : goal.invariant-loop-at
invariant-loop-at l =
    (l.at ≤ length l.extension) × (l.dates ≤ l.at) × (l.places ≤ l.at)
    × (good_run (run_of tag (drop l.at l.extension)) l.dates l.places ≡ good_tags l.extension)
    × Seen l.extension 0x05 4 l.at l.dates l.date × Seen l.extension 0x70 2 l.at l.places l.place

abbrev pub decreases-loop-at : goal.decreases-loop-at
decreases-loop-at l = length l.extension - l.at
