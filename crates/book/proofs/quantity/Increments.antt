-- A quantity after a quotation, case by case. Assumes nothing.
use Prim.Native.Nat.{ℕ, suc, ◌+◌, ◌-◌, ◌%◌, ◌<◌, ◌≤◌}
use mathlib.Core.Path.{◌≡◌}
use mathlib.Core.Bool.{Bool, true, false}
use native.Mathlib.Omega.{arith}
use borrow.Author.Tests.{lt-ltb, le-ltb, le-leb, lt-leb}
use lib.IntN.{pos, negsuc}
use Rattle.book.specs.Quantity.{twos, new_of}
use Rattle.std.specs.Prelude.{Some, None, SomeIff}
use Rattle.book.specs.Types.{Quantity}

-- An increment below zero.
pub twos-below : (v : ℕ) → 2147483648 ≤ v → v ≤ 4294967295 → twos v ≡ negsuc (4294967295 - v)
unfolding twos
twos-below v l h =
    let e : 4294967296 - v ≡ suc (4294967295 - v) = omega arith in
    rw (le-ltb v 2147483648 l, e)

pub twos-above : (v : ℕ) → v < 2147483648 → twos v ≡ pos v
unfolding twos
twos-above v l = rw (lt-ltb v 2147483648 l)

module _ (absolute : Bool) (old v : ℕ) where
  pub new-absolute : absolute ≡ true → Some v ≡ new_of absolute old v
  unfolding new_of
  new-absolute a = rw a

  module _ (a : absolute ≡ false) where
    module _ (l : v < 2147483648) where
      pub new-more : (r : Quantity) → SomeIff r (old + v < 4294967296) (old + v) → r ≡ new_of absolute old v
      unfolding new_of
      new-more None h = rw (a, twos-above v l, lt-leb (old + v) 4294967295 (omega (arith, h)))
      new-more (Some n) h = rw (a, twos-above v l, le-leb (old + v) 4294967295 (omega (arith, h.0)), h.1)

    module _ (l : 2147483648 ≤ v) (w : v ≤ 4294967295) (size : ℕ) (f : size < 4294967296)
        (q : (size + v) % 4294967296 ≡ 0) where
      z : size ≡ 4294967296 - v
      z = omega (arith, q)

      pub new-less : (r : Quantity) → old ≤ 4294967295 → SomeIff r (size ≤ old) (old - size) → r ≡ new_of absolute old v
      unfolding new_of
      new-less None o h = rw (a, twos-below v l w, lt-ltb old (suc (4294967295 - v)) (omega (arith, h, z)))
      new-less (Some n) o h =
          let e : n ≡ old - suc (4294967295 - v) = omega (arith, h.1, z) in
          rw (
            a,
            twos-below v l w,
            le-ltb old (suc (4294967295 - v)) (omega (arith, h.0, z)),
            e,
            le-leb (old - suc (4294967295 - v)) 4294967295 (omega arith),
          )
