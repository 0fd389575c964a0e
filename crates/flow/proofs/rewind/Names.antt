-- Names as lists of letters and as numbers: different names have different numbers. Assumes nothing.
use Prim.Native.Nat.{ℕ, ◌+◌, ◌*◌, ◌≤◌}
use native.Mathlib.Omega.{arith}
use mathlib.Core.Path.{◌≡◌, refl}
use mathlib.Core.List.{List, [], ◌∷◌}
use mathlib.Core.Bool.{true, false, not, ◌&&◌, ◌||◌}
use borrow.Author.Tests.{eqb-true, eq-eqb, leb-true, not-false}
use lib.ListN.{length}
use lib.Dec.{ltb, leb, eqb}
use Rattle.ftd.specs.Bench.{same}
use Rattle.flow.specs.Checkpoints.{all_letters, wrong_name, name_code, most_letters}
use Rattle.flow.proofs.common.Bools.{or-neither, and_both, clash}

-- ─── Lists of numbers, tested ───

pub same-is : (a b : List ℕ) → same a b ≡ true → a ≡ b
same-is [] [] h = refl
same-is [] (y ∷ b) h = clash _ h refl
same-is (x ∷ a) [] h = clash _ h refl
same-is (x ∷ a) (y ∷ b) h =
    let p = and_both (eqb x y) (same a b) h in
    let q = eqb-true x y p.0 in
    let r = same-is a b p.1 in
    rw (q, r)

pub same_self : (a : List ℕ) → same a a ≡ true
same_self [] = refl
same_self (x ∷ a) = rw (eq-eqb x x refl, same_self a)

pub same_of : (a b : List ℕ) → a ≡ b → same a b ≡ true
same_of a b q = rw q (same_self b)

-- ─── Numbers of names ───

head-is : (x y m n : ℕ) → x ≤ 90 → y ≤ 90 → x + 256 * m ≡ y + 256 * n → (x ≡ y) × (m ≡ n)
head-is x y m n a b q = (omega arith, omega arith)

letters-code : (a b : List ℕ) → all_letters a ≡ true → all_letters b ≡ true → name_code a ≡ name_code b → a ≡ b
letters-code [] [] h k q = refl
letters-code [] (y ∷ b) h k q =
    let p = and_both (leb 65 y && leb y 90) (all_letters b) k in
    let l = leb-true 65 y (and_both (leb 65 y) (leb y 90) p.0).0 in
    absurd (omega arith)
letters-code (x ∷ a) [] h k q =
    let p = and_both (leb 65 x && leb x 90) (all_letters a) h in
    let l = leb-true 65 x (and_both (leb 65 x) (leb x 90) p.0).0 in
    absurd (omega arith)
letters-code (x ∷ a) (y ∷ b) h k q =
    let p = and_both (leb 65 x && leb x 90) (all_letters a) h in
    let r = and_both (leb 65 y && leb y 90) (all_letters b) k in
    let z = head-is x y (name_code a) (name_code b) (leb-true x 90 (and_both (leb 65 x) (leb x 90) p.0).1)
    (leb-true y 90 (and_both (leb 65 y) (leb y 90) r.0).1) q in
    let i = z.0 in
    let j = letters-code a b p.1 r.1 z.1 in
    rw (i, j)

pub good-letters : (a : List ℕ) → wrong_name a ≡ false → all_letters a ≡ true
unfolding wrong_name
good-letters a h =
    not-false (all_letters a)
    (or-neither (eqb (length a) 0 || ltb most_letters (length a)) (not (all_letters a)) h).1

-- Names that are allowed and have one number are one name.
pub same_code : (a b : List ℕ) → wrong_name a ≡ false → wrong_name b ≡ false → name_code a ≡ name_code b → a ≡ b
same_code a b h k = letters-code a b (good-letters a h) (good-letters b k)
