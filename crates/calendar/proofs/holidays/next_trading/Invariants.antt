use Prim.Native.Nat.{◌+◌, ◌-◌, ◌≤◌}
use mathlib.Core.Path.{◌≡◌}
use Rattle.calendar.specs.Calendar.{trading_from, next_trading}
use Rattle.calendar.proofs.holidays.next_trading.Given as goal

abbrev pub invariant-loop-next : goal.invariant-loop-next
invariant-loop-next l =
    (trading_from l.s (l.day + 48 - l.next) l.next ≡ next_trading l.s l.day) × (l.day + 1 ≤ l.next) × (l.next ≤ l.day + 47)

abbrev pub decreases-loop-next : goal.decreases-loop-next
decreases-loop-next l = l.day + 48 - l.next
