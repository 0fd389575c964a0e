-- A refused Set leaves the calendar. Assumes nothing.
use Rattle.calendar.specs.Refusals.{RefusalsLeave}
use Rattle.calendar.proofs.trading.Leaving.{set-leaves}

pub refusals-leave : RefusalsLeave
refusals-leave = record { set = set-leaves }
