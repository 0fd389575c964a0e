-- What a refused call leaves: the calendar as it was (01, "a refusal .. leaves all as before").
use Rattle.std.specs.Prelude.{ℕ, ◌≡◌, List}
use Rattle.ftd.specs.declared.refusal.Refusal.{Refusal}
use Rattle.calendar.specs.declared.trading.Calendar.{Calendar}
use Rattle.calendar.specs.Calendar.{set_of}
use Rattle.std.specs.Prelude.{Err}

pub record RefusalsLeave : Type 0 where
  pub set : (c : Calendar) (sessions holidays : List ℕ) (r : Refusal)
      → (set_of c sessions holidays).answer ≡ Err r
      → (set_of c sessions holidays).calendar ≡ c
