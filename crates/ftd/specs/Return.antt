-- The numbers follow each other also where a receiver is brought back to what was kept of it before (02, No. 13): one
-- statement of any numbered receiver (Follow), over the events that count, those up to the keeping followed by those
-- after the return. A receiver of either family is one of these.
use Rattle.std.specs.Prelude.{ℕ, ◌-◌, ◌≤◌, ◌≡◌, List, [], ◌++◌, true, false}
use Rattle.ftd.specs.Follow.{Numbered, also, counting}

-- What is reached from a state o: a state, what was wanted when the numbers last started anew, and the numbers taken
-- since, by the events that count. A return from t to what was kept at s, both reached before, leaves a state b as
-- `Back s t b` says; then what counted at s counts.
pub data Counted {S E : Type 0} (R : Numbered S E) (Back : S → S → S → Type 0) (o : S) : S → ℕ → List ℕ → Type 0 where
  start : Counted R Back o o (R.wanted o) []
  event : {s : S} {w : ℕ} {l : List ℕ} → Counted R Back o s w l → (e : E) → R.anew s e ≡ false
      → Counted R Back o (R.step s e) w (l ++ also (R.took s e) [])
  anew : {s : S} {w : ℕ} {l : List ℕ} → Counted R Back o s w l → (e : E) → R.anew s e ≡ true
      → Counted R Back o (R.step s e) (R.wanted (R.step s e)) []
  return : {s t b : S} {w v : ℕ} {l m : List ℕ} → Counted R Back o s w l → Counted R Back o t v m → Back s t b
      → Counted R Back o b w l

-- The number wanted is not below, and those taken are the ones from there up to it, none twice.
pub record Returns {S E : Type 0} (R : Numbered S E) (Back : S → S → S → Type 0) : Type 0 where
  pub follow : (o s : S) (w : ℕ) (l : List ℕ) → Counted R Back o s w l
      → (w ≤ R.wanted s) × (l ≡ counting w (R.wanted s - w))
