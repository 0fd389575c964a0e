-- No more records differ than there are, and there are no more of them than turns.
use Rattle.std.proofs.Common.{◌≡◌, ◌≤◌, length}
use Rattle.captures.proofs.all_records.Given as goal

abbrev pub invariant-loop : goal.invariant-loop
invariant-loop g l =
    (65536 ≡ length l.capture) × (65536 ≡ length l.text) × (l.t.differ ≤ l.t.records) × (l.t.records ≤ l.counter)
