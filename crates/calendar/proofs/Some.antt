-- Some number below n has a property: found, none, and as std's `any` says it. Assumes nothing.
use Prim.Native.Nat.{ℕ, zero, suc, ◌+◌, ◌<◌}
use native.Mathlib.Omega.{arith}
use mathlib.Core.List.{List, [], ◌∷◌}
use mathlib.Core.Path.{◌≡◌, refl, sym, ap, ◌∙◌}
use mathlib.Core.Bool.{Bool, true, false, ◌||◌, false≢true}
use borrow.Author.Tests.{eqb-true, eqb-false}
use lib.Dec.{eqb}
use lib.ListN.{length, get_or}
use Rattle.std.specs.List.{list_any, range_with_len}
use Rattle.std.proofs.Math.Bool.{or_assoc, or-false}
use Rattle.std.proofs.lemmas.List.FromFn.{length-range_with_len, get_or-range_with_len}
use Rattle.calendar.specs.Calendar.{some}

pub or_right : (a : Bool) → (a || true) ≡ true
or_right true = refl
or_right false = refl

pub or-neither : (a b : Bool) → (a || b) ≡ false → (a ≡ false) × (b ≡ false)
or-neither true b e = absurd (false≢true (sym e))
or-neither false b e = (refl, e)

module _ (p : ℕ → Bool) where
  pub some_at : (n i : ℕ) → i < n → p i ≡ true → some n p ≡ true
  some_at zero i h e = absurd (omega arith)
  some_at (suc n) i h e = go (eqb i n) refl (λ k. some_at n i k e)
    where
      go : (b : Bool) → eqb i n ≡ b → (i < n → some n p ≡ true) → (some n p || p n) ≡ true
      go true q rest =
          let f : p n ≡ true = rw (eqb-true i n q) at e in
          rw f (or_right (some n p))
      go false q rest =
          let d = eqb-false i n q in
          rw (rest (omega arith))

  -- One that has it, where some has.
  pub some-found : (n : ℕ) → some n p ≡ true → (i : ℕ) × (i < n) × (p i ≡ true)
  some-found zero e = absurd (false≢true e)
  some-found (suc n) e = go (some n p) refl (some-found n) e
    where
      go : (a : Bool) → some n p ≡ a → (some n p ≡ true → (i : ℕ) × (i < n) × (p i ≡ true)) → (a || p n) ≡ true
          → (i : ℕ) × (i < suc n) × (p i ≡ true)
      go true q rest f =
          let x = rest q in
          (x.0, omega (arith, x.1), x.2)
      go false q rest f = (n, omega arith, f)

  -- None has it: not this one.
  pub none-at : (n i : ℕ) → some n p ≡ false → i < n → p i ≡ false
  none-at n i e h = go (p i) refl
    where
      go : (b : Bool) → p i ≡ b → b ≡ false
      go true q = absurd (false≢true (sym e ∙ some_at n i h q))
      go false q = refl

  -- A number below so many, asked by a list: of its elements in order, or of the numbers themselves.
  after : (xs : List ℕ) (q : ℕ → Bool) (a : ℕ) → ((i j : ℕ) → j ≡ a + i → i < length xs → p j ≡ q (get_or xs i 0))
      → some (a + length xs) p ≡ (some a p || list_any q xs)
  after [] q a h =
      let e : a + 0 ≡ a = omega arith in
      rw (e, or-false (some a p))
  after (x ∷ xs) q a h =
      let e : a + suc (length xs) ≡ suc a + length xs = omega arith in
      let here : p a ≡ q x = h 0 a (omega arith) (omega arith) in
      let there = λ (i j : ℕ) (w : j ≡ suc a + i) (k : i < length xs). h (suc i) j (omega arith) (omega arith) in
      rw (e, after xs q (suc a) there, ← here, or_assoc (some a p) (p a) (list_any q xs))

  pub some-list : (xs : List ℕ) (q : ℕ → Bool) (n : ℕ) → length xs ≡ n
      → ((i : ℕ) → i < n → p i ≡ q (get_or xs i 0)) → list_any q xs ≡ some n p
  some-list xs q n e h =
      let z : 0 + length xs ≡ n = omega (arith, e) in
      let each : (i j : ℕ) → j ≡ 0 + i → i < length xs → p j ≡ q (get_or xs i 0) = λ i j w k.
      let s : j ≡ i = omega arith in
      rw s (h i (omega (arith, e))) in
      rw z at (sym (after xs q 0 each))

  pub some-range : (n : ℕ) → list_any p (range_with_len 0 n) ≡ some n p
  some-range n =
      some-list (range_with_len 0 n) p n (length-range_with_len 0 n)
      (λ i k. let e : i ≡ get_or (range_with_len 0 n) i 0 = omega (arith, get_or-range_with_len 0 n i 0 k) in ap p e)
