-- What a refused Set leaves. Assumes nothing.
use Prim.Native.Nat.{ℕ}
use native.Mathlib.Omega.{arith}
use mathlib.Core.Path.{◌≡◌, refl}
use mathlib.Core.List.{List}
use mathlib.Core.Bool.{Bool, true, false, cond}
use Rattle.ftd.specs.declared.refusal.Refusal.{Refusal}
use Rattle.ftd.specs.declared.refusal.Refusal.TheVariants.{Sessions, Holiday}
use Rattle.calendar.specs.declared.trading.Calendar.{Calendar}
use Rattle.calendar.specs.declared.trading.SetStep.{SetStep}
use Rattle.calendar.specs.Calendar.{wrong_sessions, wrong_holidays, padded, step, set_of}
use Rattle.std.specs.Prelude.{Ok, Err}

-- What Set leaves where it refuses nothing.
abbrev newly : List ℕ → List ℕ → SetStep
newly ss hs = step (record { sessions = padded 24 ss; holidays = padded 32 hs }) (Ok tt)

pub set-leaves : (c : Calendar) (ss hs : List ℕ) (r : Refusal) → (set_of c ss hs).answer ≡ Err r
    → (set_of c ss hs).calendar ≡ c
unfolding set_of
set-leaves c ss hs r e = go (wrong_sessions ss) (wrong_holidays hs) e
  where
    go : (a b : Bool)
        → (cond a (step c (Err Sessions)) (cond b (step c (Err Holiday)) (newly ss hs))).answer ≡ Err r
        → (cond a (step c (Err Sessions)) (cond b (step c (Err Holiday)) (newly ss hs))).calendar ≡ c
    go true b q = refl
    go false true q = refl
    go false false q = absurd (let z : ◌≡◌ {A = ℕ} 0 1 = cc in omega arith)
