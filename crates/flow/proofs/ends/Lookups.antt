-- Series in a list of numbers: where a number stands, and lists with one place changed. Assumes nothing.
use Prim.Native.Nat.{ℕ, zero, suc, ◌<◌, ◌≤◌}
use native.Mathlib.Omega.{arith}
use mathlib.Core.Path.{◌≡◌, refl, sym, ap, ◌∙◌}
use mathlib.Core.List.{List, [], ◌∷◌, map}
use mathlib.Core.Bool.{Bool, true, false, cond, ◌||◌}
use borrow.Author.Tests.{eqb-true}
use lib.ListN.{length, get_or, take, set}
use lib.Dec.{eqb}
use Rattle.flow.specs.Ends.{member, index_of}

-- ─── Where a number stands ───

pub index-inside : (s : ℕ) (l : List ℕ) → member s l ≡ true → index_of s l < length l
index-inside s [] h = let z : ◌≡◌ {A = ℕ} 0 1 = cc in absurd (omega arith)
index-inside s (x ∷ l) h = go (eqb x s) h (index-inside s l)
  where
    go : (b : Bool) → (b || member s l) ≡ true → (member s l ≡ true → index_of s l < length l)
        → cond b 0 (suc (index_of s l)) < suc (length l)
    go true h f = omega arith
    go false h f = omega (arith, f h)

-- Another number stands elsewhere.
pub index-differs : (s t : ℕ) (l : List ℕ) → member t l ≡ true → (s ≡ t → ⊥) → index_of s l ≡ index_of t l → ⊥
index-differs s t [] h n e = let z : ◌≡◌ {A = ℕ} 0 1 = cc in absurd (omega arith)
index-differs s t (x ∷ l) h n e = go (eqb x s) refl (eqb x t) refl h e (index-differs s t l)
  where
    go : (a : Bool) → eqb x s ≡ a → (b : Bool) → eqb x t ≡ b → (b || member t l) ≡ true
        → cond a 0 (suc (index_of s l)) ≡ cond b 0 (suc (index_of t l))
        → (member t l ≡ true → (s ≡ t → ⊥) → index_of s l ≡ index_of t l → ⊥) → ⊥
    go true p true q h e f = n (sym (eqb-true x s p) ∙ eqb-true x t q)
    go true p false q h e f = omega arith
    go false p true q h e f = omega arith
    go false p false q h e f = f h n (omega arith)

-- ─── Numbers read off a list ───

module _ {A : Type 0} (f : A → ℕ) where
  -- The first n keep their numbers where the place of s is given to something of number s.
  pub numbers-set : (n : ℕ) (l : List A) (s : ℕ) (y : A) → f y ≡ s → member s (map f (take n l)) ≡ true
      → map f (take n (set l (index_of s (map f (take n l))) y)) ≡ map f (take n l)
  numbers-set zero l s y q h = let z : ◌≡◌ {A = ℕ} 0 1 = cc in absurd (omega arith)
  numbers-set (suc n) [] s y q h = let z : ◌≡◌ {A = ℕ} 0 1 = cc in absurd (omega arith)
  numbers-set (suc n) (x ∷ l) s y q h = go (eqb (f x) s) refl h (numbers-set n l s y q)
    where
      go : (b : Bool) → eqb (f x) s ≡ b → (b || member s (map f (take n l))) ≡ true
          → (member s (map f (take n l)) ≡ true
          → map f (take n (set l (index_of s (map f (take n l))) y)) ≡ map f (take n l))
          → map f (take (suc n) (set (x ∷ l) (cond b 0 (suc (index_of s (map f (take n l))))) y)) ≡ f x ∷ map f
          (take n l)
      go true p h g = ap (λ (k : ℕ). k ∷ map f (take n l)) (q ∙ sym (eqb-true (f x) s p))
      go false p h g = ap (λ (r : List ℕ). f x ∷ r) (g h)

  pub numbers-few : (n : ℕ) (l : List A) → length (map f (take n l)) ≤ length l
  numbers-few zero l = omega arith
  numbers-few (suc n) [] = omega arith
  numbers-few (suc n) (x ∷ l) = omega (arith, numbers-few n l)

  pub numbers-first : (n : ℕ) (l : List A) → length (map f (take n l)) ≤ n
  numbers-first zero l = omega arith
  numbers-first (suc n) [] = omega arith
  numbers-first (suc n) (x ∷ l) = omega (arith, numbers-first n l)

  -- At the place of s among the first n stands something of number s.
  pub number_at : (n : ℕ) (l : List A) (s : ℕ) (d : A) → member s (map f (take n l)) ≡ true
      → f (get_or l (index_of s (map f (take n l))) d) ≡ s
  number_at zero l s d h = let z : ◌≡◌ {A = ℕ} 0 1 = cc in absurd (omega arith)
  number_at (suc n) [] s d h = let z : ◌≡◌ {A = ℕ} 0 1 = cc in absurd (omega arith)
  number_at (suc n) (x ∷ l) s d h = go (eqb (f x) s) refl h (number_at n l s d)
    where
      go : (b : Bool) → eqb (f x) s ≡ b → (b || member s (map f (take n l))) ≡ true
          → (member s (map f (take n l)) ≡ true → f (get_or l (index_of s (map f (take n l))) d) ≡ s)
          → f (get_or (x ∷ l) (cond b 0 (suc (index_of s (map f (take n l))))) d) ≡ s
      go true p h g = eqb-true (f x) s p
      go false p h g = g h
