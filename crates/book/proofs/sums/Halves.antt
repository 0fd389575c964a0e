-- A quotient cut down, and when it goes up. Assumes nothing.
use Prim.Native.Nat.{ℕ, ◌-◌, ◌%◌, ◌<◌, ◌≤◌}
use mathlib.Core.Path.{◌≡◌, refl, sym}
use mathlib.Core.Bool.{Bool, true, false, cond, false≢true}
use native.Mathlib.Omega.{arith}
use native.Mathlib.Nat.{mod-lt}
use borrow.Author.Tests.{lt-ltb, ltb-true, ltb-false, eqb-true, eqb-false}
use lib.Dec.{ltb, eqb}
use Rattle.book.specs.Sums.{goes_up}

module _ (q r v : ℕ) where
  pub up_above : v - r < r → true ≡ goes_up q r v
  unfolding goes_up
  up_above h = rw (lt-ltb (v - r) r h)

  -- Going up is right, and so is staying.
  pub up_right : goes_up q r v ≡ true → (v - r ≤ r) × (v - r ≡ r → q % 2 ≡ 1)
  unfolding goes_up
  up_right e = go (ltb (v - r) r) refl (ltb r (v - r)) refl e
    where
      go : (s : Bool) → ltb (v - r) r ≡ s → (t : Bool) → ltb r (v - r) ≡ t
          → cond s true (cond t false (eqb (q % 2) 1)) ≡ true
          → (v - r ≤ r) × (v - r ≡ r → q % 2 ≡ 1)
      go true p t u e = let l = ltb-true (v - r) r p in (omega (arith, l), λ k. absurd (omega (arith, l, k)))
      go false p true u e = absurd (false≢true e)
      go false p false u e = (ltb-false r (v - r) u, λ k. eqb-true (q % 2) 1 e)

  pub up-wrong : goes_up q r v ≡ false → (r ≤ v - r) × (r ≡ v - r → q % 2 ≡ 0)
  unfolding goes_up
  up-wrong e = go (ltb (v - r) r) refl (ltb r (v - r)) refl e
    where
      go : (s : Bool) → ltb (v - r) r ≡ s → (t : Bool) → ltb r (v - r) ≡ t
          → cond s true (cond t false (eqb (q % 2) 1)) ≡ false
          → (r ≤ v - r) × (r ≡ v - r → q % 2 ≡ 0)
      go true p t u e = absurd (false≢true (sym e))
      go false p true u e =
          let l = ltb-true r (v - r) u in
          (ltb-false (v - r) r p, λ k. absurd (omega (arith, l, k)))
      go false p false u e =
          let two : 0 < 2 = omega arith in
          let n = eqb-false (q % 2) 1 e in
          (ltb-false (v - r) r p, λ k. omega (arith, n, mod-lt q two))
