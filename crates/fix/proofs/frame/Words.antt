-- Words at the front of bytes, and the bytes before the first of a kind, over plain lists. Assumes nothing.
use Prim.Native.Nat.{ℕ, suc, ◌/◌, ◌<◌}
use mathlib.Core.Path.{◌≡◌, refl, ap}
use mathlib.Core.List.{List, [], ◌∷◌, ◌++◌, append-nil}
use mathlib.Core.Bool.{Bool, true, false, cond, ◌&&◌}
use native.Mathlib.Omega.{arith}
use borrow.Author.Tests.{eqb-true, eq-eqb, ne_eqb}
use lib.ListN.{length, take, drop}
use lib.Dec.{ltb, eqb}
use Rattle.fix.specs.Text.{soh, until, begins, letter, length_text}

-- ─── Tests ───

pub and_both : (a b : Bool) → (a && b) ≡ true → (a ≡ true) × (b ≡ true)
and_both true b h = (refl, h)
and_both false b h = (h, cc)

-- A test whose other side is not what came out.
module _ {A : Type 0} (x y z : A) where
  pub first_taken : (t : Bool) → (y ≡ z → ⊥) → cond t x y ≡ z → (t ≡ true) × (x ≡ z)
  first_taken true n e = (refl, e)
  first_taken false n e = absurd (n e)

  pub other-taken : (t : Bool) → (x ≡ z → ⊥) → cond t x y ≡ z → (t ≡ false) × (y ≡ z)
  other-taken true n e = absurd (n e)
  other-taken false n e = (refl, e)

-- ─── Words ───

pub begins-with : (l w : List ℕ) → begins l w ≡ true → l ≡ w ++ drop (length w) l
begins-with l [] e = refl
begins-with [] (v ∷ w) e = cc
begins-with (x ∷ l) (v ∷ w) e =
    let p = and_both (eqb x v) (begins l w) e in
    rw (← begins-with l w p.1, eqb-true x v p.0)

pub begins-own : (w r : List ℕ) → begins (w ++ r) w ≡ true
begins-own [] r = refl
begins-own (v ∷ w) r = rw (eq-eqb v v refl) (begins-own w r)

pub begins-same : (w : List ℕ) → begins w w ≡ true
begins-same w = rw append-nil at (begins-own w [])

-- ─── Up to a byte ───

-- Behind bytes that have none of it.
pub until-seam : (c : ℕ) (l r : List ℕ) → until c l ≡ length l → until c (l ++ (c ∷ r)) ≡ length l
until-seam c [] r e = rw (eq-eqb c c refl)
until-seam c (x ∷ l) r e = go (eqb x c) (until-seam c l r) e
  where
    go : (b : Bool) → (until c l ≡ length l → until c (l ++ (c ∷ r)) ≡ length l)
        → cond b 0 (suc (until c l)) ≡ suc (length l) → cond b 0 (suc (until c (l ++ (c ∷ r)))) ≡ suc (length l)
    go true ih e = e
    go false ih e = ap suc (ih (omega (arith, e)))

-- What stands before it has none of it.
pub until-before : (c : ℕ) (l : List ℕ) → until c (take (until c l) l) ≡ length (take (until c l) l)
until-before c [] = refl
until-before c (x ∷ l) = go (eqb x c) refl (until-before c l)
  where
    go : (b : Bool) → eqb x c ≡ b → until c (take (until c l) l) ≡ length (take (until c l) l)
        → until c (take (cond b 0 (suc (until c l))) (x ∷ l)) ≡ length (take (cond b 0 (suc (until c l))) (x ∷ l))
    go true e ih = refl
    go false e ih = rw e (ap suc ih)

pub until-there : (c : ℕ) (l : List ℕ) → until c l < length l
    → l ≡ take (until c l) l ++ (c ∷ drop (suc (until c l)) l)
until-there c [] h = absurd (omega arith)
until-there c (x ∷ l) h = go (eqb x c) refl (until-there c l) h
  where
    go : (b : Bool) → eqb x c ≡ b
        → (until c l < length l → l ≡ take (until c l) l ++ (c ∷ drop (suc (until c l)) l))
        → cond b 0 (suc (until c l)) < suc (length l)
        → x ∷ l ≡ take (cond b 0 (suc (until c l))) (x ∷ l)
        ++ (c ∷ drop (suc (cond b 0 (suc (until c l)))) (x ∷ l))
    go true e ih h = ap (λ (k : ℕ). k ∷ l) (eqb-true x c e)
    go false e ih h = ap (λ (m : List ℕ). x ∷ m) (ih (omega arith))

-- ─── Digits are no separators ───

letter-other : (n : ℕ) → eqb (letter n) soh ≡ false
letter-other n = ne_eqb (letter n) 1 (λ e. omega arith)

pub digits-plain : (n : ℕ) → until soh (length_text n) ≡ length (length_text n)
unfolding length_text
digits-plain n = go (ltb n 10) (ltb n 100) (ltb n 1000)
  where
    go : (x y z : Bool) →
        let w =
        cond x (letter n ∷ [])
        (cond y (letter (n / 10) ∷ letter n ∷ [])
        (cond z (letter (n / 100) ∷ letter (n / 10) ∷ letter n ∷ [])
        (letter (n / 1000) ∷ letter (n / 100) ∷ letter (n / 10) ∷ letter n ∷ []))) in
        until soh w ≡ length w
    go true y z = rw (letter-other n)
    go false true z = rw (letter-other (n / 10), letter-other n)
    go false false true = rw (letter-other (n / 100), letter-other (n / 10), letter-other n)
    go false false false =
        rw (letter-other (n / 1000), letter-other (n / 100), letter-other (n / 10), letter-other n)
