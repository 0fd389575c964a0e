use Prim.Native.Nat.{◌-◌, ◌*◌, ◌≤◌}
use mathlib.Core.Path.{◌≡◌}
use lib.ListN.{length, drop}
use Rattle.ftd.specs.Runs.{run_of}
use Rattle.flow.specs.Several.{publishing, record_form, walk_over, publish_several_of}
use Rattle.play.specs.Several.{lines_over, record_line, published_lines}
use Rattle.play.proofs.several.Lines.{Completes}
use Rattle.play.proofs.several.publish_records.Given as goal

abbrev pub invariant-loop-end : goal.invariant-loop-end
invariant-loop-end l =
    (l.at ≤ length l.records) × (length l.log ≡ length l.initial.log) × (length l.text ≡ length l.initial.text) × (l.to ≤ 7 * l.at)
    × (l.to ≤ length l.text)
    × (walk_over publishing l.end l.log l.at (run_of record_form (drop l.at l.records)) ≡ publish_several_of l.initial.end l.records l.initial.log)
    × Completes l.initial.text l.text l.to (lines_over publishing record_line l.end l.log l.at (run_of record_form (drop l.at l.records)))
    (published_lines l.initial.end l.records l.initial.log)

abbrev pub decreases-loop-end : goal.decreases-loop-end
decreases-loop-end l = length l.records - l.at
