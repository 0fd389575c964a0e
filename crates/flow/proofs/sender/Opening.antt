-- Opening, test by test: what the call leaves meets its promise; and the day's places. Assumes nothing.
use Prim.Native.Nat.{ℕ, zero, suc, ◌+◌, ◌-◌, ◌<◌, ◌≤◌}
use native.Mathlib.Omega.{arith}
use native.Mathlib.Nat.{suc-sub-suc}
use mathlib.Core.Path.{◌≡◌, refl, ap, ◌∙◌}
use mathlib.Core.List.{List, [], ◌∷◌, ◌++◌}
use mathlib.Core.Bool.{Bool, false}
use lib.ListN.{length, get_or, take, set, replicate}
use lib.Seq.{take-length}
use Rattle.flow.specs.declared.sender.DaySeries.{DaySeries}
use Rattle.flow.specs.declared.sender.Sender.{Sender}
use Rattle.flow.specs.Ends.{wrong_series, filled, up_to, no_series, new_series, opened_series, no_place, sender}
use Rattle.flow.specs.Serving.{wrong_reserves, open_day_of}
use Rattle.flow.specs.Promises.{OpensDay}
use Rattle.std.specs.Prelude.{Some, Ok}

-- ─── The tests ───

module _ (e : Sender) (date : ℕ) (ss rs log : List ℕ) (wrong : Bool) (w : wrong ≡ wrong_series ss)
    (right : wrong ≡ false) (late : Bool) (u : late ≡ up_to date e.day.date) (early : late ≡ false) (much : Bool)
    (v : much ≡ wrong_reserves ss rs log) where
  pub opening-done : much ≡ false → (all : List DaySeries) → all ≡ filled no_series (opened_series ss rs)
      → OpensDay e date ss rs log
      (record { end = sender (Some date) (length ss) all 0 (replicate 8 no_place); answer = (Ok tt) })
  unfolding open_day_of
  opening-done t all f = rw (← w, right, ← u, early, ← v, t, f) (refl, (refl, refl))

-- ─── The day's places, filled one by one ───

-- n places, the first ones given.
abbrev among : ℕ → List DaySeries → List DaySeries
among n l = l ++ replicate (n - length l) no_series

abbrev upto : ℕ → List ℕ → List ℕ → List DaySeries
upto i ss rs = opened_series (take i ss) rs

set-among : (n i : ℕ) (ss rs : List ℕ) → i < length ss → length ss ≤ n
    → set (among n (upto i ss rs)) i (new_series (get_or ss i 0) (get_or rs i 0)) ≡ among n (upto (suc i) ss rs)
set-among n i [] rs inside few = absurd (omega arith)
set-among zero i (s ∷ ss) rs inside few = absurd (omega arith)
set-among (suc n) zero (s ∷ ss) [] inside few =
    let a : suc n - 0 ≡ suc n = omega arith in
    let b : suc n - 1 ≡ n = omega arith in
    rw (a, b) refl
set-among (suc n) zero (s ∷ ss) (r ∷ rs) inside few =
    let a : suc n - 0 ≡ suc n = omega arith in
    let b : suc n - 1 ≡ n = omega arith in
    rw (a, b) refl
set-among (suc n) (suc i) (s ∷ ss) [] inside few =
    rw (suc-sub-suc n (length (upto i ss [])), suc-sub-suc n (length (upto (suc i) ss [])))
    (ap (λ (l : List DaySeries). new_series s 0 ∷ l) (set-among n i ss [] (omega arith) (omega arith)))
set-among (suc n) (suc i) (s ∷ ss) (r ∷ rs) inside few =
    rw (suc-sub-suc n (length (upto i ss rs)), suc-sub-suc n (length (upto (suc i) ss rs)))
    (ap (λ (l : List DaySeries). new_series s r ∷ l) (set-among n i ss rs (omega arith) (omega arith)))

module _ (ss rs : List ℕ) (i : ℕ) (all : List DaySeries) (w : all ≡ filled no_series (opened_series (take i ss) rs)) where
  pub places-turn : i < length ss → length ss ≤ 8
      → set all i (new_series (get_or ss i 0) (get_or rs i 0)) ≡ filled no_series (opened_series (take (i + 1) ss) rs)
  places-turn inside few =
      let e : i + 1 ≡ suc i = omega arith in
      rw (w, e) (set-among 8 i ss rs inside few)

  pub places-end : i ≤ length ss → length ss ≤ i → all ≡ filled no_series (opened_series ss rs)
  places-end inside whole =
      let e : i ≡ length ss = omega arith in
      w ∙ rw (e, take-length ss)
