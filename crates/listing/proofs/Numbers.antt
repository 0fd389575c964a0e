-- Digits: a number is the digits of its tenth, or sixteenth, and the last one; and how many decimal digits it has.
-- Assumes nothing.
use Prim.Native.Nat.{ℕ, zero, suc, ◌+◌, ◌-◌, ◌^◌, ◌/◌, ◌%◌, ◌≤◌, ◌<◌}
use mathlib.Core.Path.{◌≡◌, refl, ap}
use mathlib.Core.List.{List, [], ◌∷◌, ◌++◌}
use mathlib.Core.Bool.{Bool, true, false}
use native.Mathlib.Omega.{arith}
use borrow.Author.Tests.{lt-ltb, le-ltb, ltb-true, ltb-false}
use lib.ListN.{length, length-append}
use lib.Dec.{ltb}
use Rattle.listing.specs.Text.{decimal_in, decimal_of, hex_digit, hex_of}

fuel : (f g n : ℕ) → n ≤ f → n ≤ g → decimal_in f n ≡ decimal_in g n
unfolding decimal_in
fuel zero zero n p q = refl
fuel zero (suc g) n p q = rw (lt-ltb n 10 (omega arith))
fuel (suc f) zero n p q = rw (lt-ltb n 10 (omega arith))
fuel (suc f) (suc g) n p q = go (ltb n 10) refl (λ m a b. fuel f g m a b)
  where
    go : (b : Bool) → ltb n 10 ≡ b → ((m : ℕ) → m ≤ f → m ≤ g → decimal_in f m ≡ decimal_in g m)
        → decimal_in (suc f) n ≡ decimal_in (suc g) n
    go true e ih = rw e
    go false e ih =
        rw e (ap (λ (l : List ℕ). l ++ ((48 + n % 10) ∷ []))
        (ih (n / 10) (omega (arith, ltb-false n 10 e)) (omega (arith, ltb-false n 10 e))))

pub decimal-small : (n : ℕ) → n < 10 → decimal_of n ≡ (48 + n) ∷ []
unfolding decimal_of decimal_in
decimal-small zero h = refl
decimal-small (suc n) h = rw (lt-ltb (suc n) 10 h)

pub decimal-large : (n : ℕ) → 10 ≤ n → decimal_of n ≡ decimal_of (n / 10) ++ ((48 + n % 10) ∷ [])
unfolding decimal_of decimal_in
decimal-large zero h = absurd (omega arith)
decimal-large (suc n) h =
    rw (le-ltb (suc n) 10 h)
    (ap (λ (l : List ℕ). l ++ ((48 + suc n % 10) ∷ [])) (fuel n (suc n / 10) (suc n / 10) (omega arith) (omega arith)))

pub decimal-longer : (n : ℕ) → 10 ≤ n → length (decimal_of n) ≡ length (decimal_of (n / 10)) + 1
decimal-longer n h = rw (decimal-large n h) (length-append (decimal_of (n / 10)) ((48 + n % 10) ∷ []))

-- Below ten to the power of k + 1 there are at most k + 1 digits.
pub digits-most : (k n : ℕ) → n < 10 ^ suc k → length (decimal_of n) ≤ suc k
digits-most zero n h = rw (decimal-small n h) (omega arith)
digits-most (suc k) n h = go (ltb n 10) refl (λ m b. digits-most k m b)
  where
    go : (b : Bool) → ltb n 10 ≡ b → ((m : ℕ) → m < 10 ^ suc k → length (decimal_of m) ≤ suc k)
        → length (decimal_of n) ≤ suc (suc k)
    go true e ih = rw (decimal-small n (ltb-true n 10 e)) (omega arith)
    go false e ih = rw (decimal-longer n (ltb-false n 10 e)) (omega (arith, ih (n / 10) (omega arith)))

-- With the code's k - 1.
pub hex-more : (k n : ℕ) → 0 < k → hex_of k n ≡ hex_of (k - 1) (n / 16) ++ (hex_digit (n % 16) ∷ [])
unfolding hex_of
hex-more zero n h = absurd (omega arith)
hex-more (suc k) n h = let e : suc k - 1 ≡ k = omega arith in rw e
