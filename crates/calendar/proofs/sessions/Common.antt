-- Two sessions that have a second overlap. Assumes nothing.
use Prim.Native.Nat.{ℕ}
use native.Mathlib.Omega.{arith}
use mathlib.Core.Path.{◌≡◌, refl}
use mathlib.Core.List.{List}
use mathlib.Core.Bool.{Bool, true, false, ◌&&◌, false≢true}
use borrow.Author.Tests.{lt-ltb, leb-true, ltb-true}
use lib.Dec.{ltb, leb}
use Rattle.calendar.specs.Calendar.{overlap, holds}
use Rattle.calendar.specs.Calendar.{first_of, last_of}

pub both : (a b : Bool) → (a && b) ≡ true → (a ≡ true) × (b ≡ true)
both true b e = (refl, e)
both false b e = absurd (false≢true e)

module _ (l : List ℕ) (second : ℕ) where
  pub common : (i j : ℕ) → holds l second i ≡ true → holds l second j ≡ true → overlap l i j ≡ true
  unfolding holds overlap
  common i j p q =
      let a = both (leb (first_of l i) second) (ltb second (last_of l i)) p in
      let b = both (leb (first_of l j) second) (ltb second (last_of l j)) q in
      let a₀ = leb-true (first_of l i) second a.0 in
      let a₁ = ltb-true second (last_of l i) a.1 in
      let b₀ = leb-true (first_of l j) second b.0 in
      let b₁ = ltb-true second (last_of l j) b.1 in
      rw (lt-ltb (first_of l i) (last_of l j) (omega arith), lt-ltb (first_of l j) (last_of l i) (omega arith))
