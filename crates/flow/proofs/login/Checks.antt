-- What each way through Login's checks decides, over plain variables: what each test gave, and what that is by
-- definition. Assumes nothing.
use Prim.Native.Nat.{ℕ}
use mathlib.Core.Path.{◌≡◌}
use mathlib.Core.Bool.{Bool, true, false}
use Rattle.ftd.specs.declared.refusal.Refusal.TheVariants.{UnknownSeries}
use Rattle.ftd.specs.declared.refusal.Refusal.TheVariants.{OtherDay, OutOfLine}
use Rattle.ftd.specs.Types.{TradeDate}
use Rattle.ftd.specs.declared.packet.Header.{Header}
use Rattle.ftd.specs.declared.resume.Resume.{Resume}
use Rattle.flow.specs.Ends.{before}
use Rattle.flow.specs.Serving.{not_zero, start_elsewhere}
use Rattle.flow.specs.LoginHelpers.{login_line}
use Rattle.std.specs.Prelude.{Ok, Err}

-- ─── Rows 13, of the start field, 15 and 16 ───

module _ (day : TradeDate) (s : ℕ) (h : Header) (date : TradeDate) (start : Resume) (a : Bool)
    (p : a ≡ start_elsewhere s start) where
  pub by-series : a ≡ true → Err UnknownSeries ≡ login_line day s h date start
  unfolding login_line
  by-series x = rw (← p, x)

  module _ (y1 : a ≡ false) (b : Bool) (q : b ≡ before day date) where
    pub by-day : b ≡ true → Err OtherDay ≡ login_line day s h date start
    unfolding login_line
    by-day x = rw (← p, y1, ← q, x)

    module _ (y2 : b ≡ false) (d : Bool) (t : d ≡ not_zero h) where
      pub by-zeros : d ≡ true → Err OutOfLine ≡ login_line day s h date start
      unfolding login_line
      by-zeros x = rw (← p, y1, ← q, y2, ← t, x)

      pub in-line : d ≡ false → (Ok tt) ≡ login_line day s h date start
      unfolding login_line
      in-line x = rw (← p, y1, ← q, y2, ← t, x)
