-- No more records differ than there are, and there are no more of them than turns.
use Rattle.std.proofs.Common.{◌≤◌}
use Rattle.calendarcheck.proofs.all_records.Given as goal

abbrev pub invariant-loop : goal.invariant-loop
invariant-loop g l = (l.t.differ ≤ l.t.records) × (l.t.records ≤ l.counter)
