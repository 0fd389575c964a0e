-- The whole number nearest to a size over a volume. Assumes nothing.
use Prim.Native.Nat.{ℕ, zero, suc, ◌+◌, ◌-◌, ◌*◌, ◌/◌, ◌%◌, ◌<◌, ◌≤◌}
use mathlib.Core.Path.{◌≡◌, refl, sym, ◌∙◌}
use mathlib.Core.Bool.{Bool, true, false}
use native.Mathlib.Omega.{arith}
use native.Mathlib.Nat.{div-add-mod', mod-lt, mul-le-mul_right, eq_of_mul-eq-mul_right}
use borrow.Author.Tests.{ltb-true, ltb-false}
use lib.Dec.{ltb}
use mir.Syntax.{w64}
use mir.Val.{Fits}
use Rattle.book.specs.Sums.{goes_up, nearest_of}
use Rattle.book.proofs.sums.Halves.{up_right, up-wrong}

-- ─── The nearest ───

-- How far two numbers are apart.
abbrev pub apart : ℕ → ℕ → ℕ
apart x y = (x - y) + (y - x)

-- At most half a unit off, and where it is just that, even.
abbrev pub Near : ℕ → ℕ → ℕ → Type 0
Near a v n = (2 * apart (n * v) a ≤ v) × (2 * apart (n * v) a ≡ v → n % 2 ≡ 0)

module _ (a v : ℕ) (h : 0 < v) where
  pub nearest-up : goes_up (a / v) (a % v) v ≡ true → nearest_of a v ≡ a / v + 1
  unfolding nearest_of
  nearest-up e = rw e

  pub nearest-stays : goes_up (a / v) (a % v) v ≡ false → nearest_of a v ≡ a / v
  unfolding nearest_of
  nearest-stays e = rw e

  pub nearest-near : Near a v (nearest_of a v)
  nearest-near = go (goes_up (a / v) (a % v) v) refl
    where
      d : a / v * v + a % v ≡ a
      d = div-add-mod' a v

      m : a % v < v
      m = mod-lt a h

      go : (t : Bool) → goes_up (a / v) (a % v) v ≡ t → Near a v (nearest_of a v)
      go true e = let u = up_right (a / v) (a % v) v e in
          rw (nearest-up e) (omega (arith, d, m, u.0), λ k. omega (arith, u.1 (omega (arith, d, m, u.0, k))))
      go false e = let u = up-wrong (a / v) (a % v) v e in
          rw (nearest-stays e) (omega (arith, d, m, u.0), λ k. u.1 (omega (arith, d, m, u.0, k)))

  not-below : (n k : ℕ) → Near a v n → Near a v k → n < k → ⊥
  not-below n k x y l =
      let s : suc n * v ≤ k * v = mul-le-mul_right v l in
      let e : suc n ≡ k = eq_of_mul-eq-mul_right v h (suc n) k (omega (arith, s, x.0, y.0)) in
      let f = x.1 (omega (arith, s, x.0, y.0)) in
      let g = y.1 (omega (arith, s, x.0, y.0)) in
      omega (arith, e, f, g)

  -- No other number is as near.
  pub near-only : (n : ℕ) → Near a v n → nearest_of a v ≡ n
  near-only n x = go (ltb (nearest_of a v) n) refl (ltb n (nearest_of a v)) refl
    where
      go : (s : Bool) → ltb (nearest_of a v) n ≡ s → (t : Bool) → ltb n (nearest_of a v) ≡ t → nearest_of a v ≡ n
      go true p t u = absurd (not-below (nearest_of a v) n nearest-near x (ltb-true (nearest_of a v) n p))
      go false p true u = absurd (not-below n (nearest_of a v) x nearest-near (ltb-true n (nearest_of a v) u))
      go false p false u = omega (arith, ltb-false (nearest_of a v) n p, ltb-false n (nearest_of a v) u)

  -- Between whole numbers that the quotient lies between.
  pub nearest-most : (b : ℕ) → a ≤ b * v → nearest_of a v ≤ b
  nearest-most b l = go (ltb b (nearest_of a v)) refl
    where
      go : (t : Bool) → ltb b (nearest_of a v) ≡ t → nearest_of a v ≤ b
      go true p =
          let s : suc b * v ≤ nearest_of a v * v = mul-le-mul_right v (ltb-true b (nearest_of a v) p) in
          absurd (omega (arith, s, nearest-near.0))
      go false p = ltb-false b (nearest_of a v) p

  pub nearest-least : (b : ℕ) → b * v ≤ a → b ≤ nearest_of a v
  nearest-least b l = go (ltb (nearest_of a v) b) refl
    where
      go : (t : Bool) → ltb (nearest_of a v) b ≡ t → b ≤ nearest_of a v
      go true p =
          let s : suc (nearest_of a v) * v ≤ b * v = mul-le-mul_right v (ltb-true (nearest_of a v) b p) in
          absurd (omega (arith, s, nearest-near.0))
      go false p = ltb-false (nearest_of a v) b p

  -- It is no larger than the size itself.
  pub nearest-small : nearest_of a v ≤ a
  nearest-small =
      let s : suc zero * a ≤ v * a = mul-le-mul_right a h in
      nearest-most a (omega (arith, s))

-- ─── As the program computes it ───

module _ (a v : ℕ) (h : 0 < v) where
  pub remainder-small : a % v ≤ v
  remainder-small = omega (arith, mod-lt a h)

  module _ (t : Bool) (e : t ≡ goes_up (a / v) (a % v) v) where
    pub up-nearest : t ≡ true → (a / v + 1 ≡ nearest_of a v) × (a / v + 1 ≤ a)
    up-nearest u = let n = nearest-up a v h (sym e ∙ u) in (sym n, omega (arith, n, nearest-small a v h))

    pub cut-nearest : t ≡ false → (a / v ≡ nearest_of a v) × (a / v ≤ a)
    cut-nearest u = let n = nearest-stays a v h (sym e ∙ u) in (sym n, omega (arith, n, nearest-small a v h))

    pub up_fits : t ≡ true → Fits w64 a → Fits w64 (a / v + 1)
    up_fits u f = record { fits = omega (arith, (up-nearest u).1, f.fits) }
