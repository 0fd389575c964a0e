-- What a call of the calendar shows, as the definitions mean it, over plain variables. Assumes nothing.
use Prim.Native.Nat.{ℕ}
use mathlib.Core.Path.{◌≡◌}
use mathlib.Core.List.{List}
use Rattle.calendar.specs.declared.trading.SetStep.{SetStep}
use Rattle.calendar.specs.Types.{TradeTime}
use Rattle.listing.specs.Text.{WroteText}
use Rattle.play.specs.declared.player.Player.{Player}
use Rattle.play.specs.declared.player.Played.{Played}
use Rattle.play.specs.Lines.{set_line, time_line, date_line}
use Rattle.play.specs.Played.{with_calendar, ShowsCalendar}

pub calendar-is : (p pl : Player) (s m : SetStep) → pl ≡ with_calendar p s.calendar → s ≡ m
    → pl ≡ with_calendar p m.calendar
calendar-is p pl s m q f = rw (← f) q

module _ {l t : List ℕ} {to : ℕ} where
  pub set_is : (s m : SetStep) → s ≡ m → WroteText l 0 (set_line s.answer) t to → WroteText l 0 (set_line m.answer) t to
  set_is s m e q = rw (← e) q

  pub time-is : (a m : TradeTime) → a ≡ m → WroteText l 0 (time_line a) t to → WroteText l 0 (time_line m) t to
  time-is a m e q = rw (← e) q

  pub day-is : (a m : ℕ) → a ≡ m → WroteText l 0 (date_line a) t to → WroteText l 0 (date_line m) t to
  day-is a m e q = rw (← e) q

-- The call of a line.
pub calendar-played : (p : Player) (r : Played) (t t' sessions holidays times dates : List ℕ)
    → ShowsCalendar p sessions holidays r t t' → sessions ≡ times → holidays ≡ dates → ShowsCalendar p times dates r t t'
calendar-played p r t t' sessions holidays times dates h e f = rw (e, f) at h
