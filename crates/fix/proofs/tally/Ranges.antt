-- The range of a resend request: some last number that isn't 0 is below some first one exactly where the least such
-- last number is below the greatest first one. Numbers are at most 999,999,999. Assumes nothing.
use Prim.Native.Nat.{ℕ, zero, suc, ◌+◌, ◌*◌, ◌-◌, ◌<◌, ◌≤◌}
use mathlib.Core.Path.{◌≡◌, refl, sym, ap, ◌∙◌}
use mathlib.Core.List.{List, [], ◌∷◌}
use mathlib.Core.Bool.{Bool, true, false, cond, ◌&&◌, ◌||◌, not}
use native.Mathlib.Omega.{arith}
use borrow.Author.Tests.{lt-ltb, le-ltb, ltb-true, ltb-false}
use lib.ListN.{length}
use lib.Dec.{ltb, eqb}
use Rattle.fix.specs.Types.{Number}
use Rattle.fix.specs.Text.{number_from, number_in, or_else}
use Rattle.fix.specs.Fields.{Given}
use Rattle.fix.specs.Check.{number_then, numbers_at, below_any, any_below}
use Rattle.fix.specs.Tally.{greater, lesser, no_least}
use Rattle.fix.proofs.tally.Folds.{folded, or_assoc, or-false}
use Rattle.std.specs.Prelude.{Some, None}

-- ─── The bound of a number ───

abbrev most : ℕ → ℕ → ℕ
most zero k = k
most (suc j) k = most j (k * 10 + 9)

most-grows : (j k : ℕ) → k ≤ most j k
most-grows zero k = omega arith
most-grows (suc j) k = let h : k * 10 + 9 ≤ most j (k * 10 + 9) = most-grows j (k * 10 + 9) in omega (arith, h)

from-bound : (j : ℕ) (l : List ℕ) (n k : ℕ) → length l ≤ j → n ≤ k → or_else 0 (number_from n l) ≤ most j k
from-bound j [] n k h g = let m : k ≤ most j k = most-grows j k in omega (arith, m, g)
from-bound zero (c ∷ l) n k h g = absurd (omega arith)
from-bound (suc j) (c ∷ l) n k h g = low (ltb c 48) (λ x p. from-bound j l x (k * 10 + 9) (omega arith) p)
  where
    high : (b : Bool) → ltb 57 c ≡ b
        → ((x : ℕ) → x ≤ k * 10 + 9 → or_else 0 (number_from x l) ≤ most j (k * 10 + 9))
        → or_else 0 (cond b None (number_from (n * 10 + (c - 48)) l)) ≤ most j (k * 10 + 9)
    high true e ih = omega arith
    high false e ih = let i : c ≤ 57 = ltb-false 57 c e in ih (n * 10 + (c - 48)) (omega (arith, i, g))

    low : (b : Bool) → ((x : ℕ) → x ≤ k * 10 + 9 → or_else 0 (number_from x l) ≤ most j (k * 10 + 9))
        → or_else 0 (cond b None (cond (ltb 57 c) None (number_from (n * 10 + (c - 48)) l))) ≤ most j (k * 10 + 9)
    low true ih = omega arith
    low false ih = high (ltb 57 c) refl ih

pub number_bound : (l : List ℕ) → or_else 0 (number_in l) ≤ 999999999
unfolding number_in
number_bound l = go (eqb (length l) 0) (ltb 9 (length l)) refl
  where
    go : (a b : Bool) → ltb 9 (length l) ≡ b
        → or_else 0 (cond a None (cond b None (number_from 0 l))) ≤ 999999999
    go true b e = omega arith
    go false true e = omega arith
    go false false e = from-bound 9 l 0 0 (ltb-false 9 (length l) e) (omega arith)

-- ─── The greatest first number, and the least last one ───

abbrev pub greatest : ℕ → List ℕ → ℕ
greatest n [] = n
greatest n (m ∷ ms) = greatest (cond (ltb n m) m n) ms

abbrev pub least : ℕ → List ℕ → ℕ
least n [] = n
least n (m ∷ ms) = least (cond (eqb m 0) n (cond (ltb m n) m n)) ms

-- As the tally keeps them.
pub greatest-fold : (n tag : ℕ) (fs : List Given)
    → folded (λ (n : ℕ) (f : Given). greater n (eqb f.tag tag) (number_in f.text)) n fs
    ≡ greatest n (numbers_at tag fs)
unfolding greater
greatest-fold n tag [] = refl
greatest-fold n tag (f ∷ fs) =
    greatest-fold (greater n (eqb f.tag tag) (number_in f.text)) tag fs
    ∙ step (eqb f.tag tag) (number_in f.text) (numbers_at tag fs)
  where
    step : (hit : Bool) (x : Number) (l : List ℕ)
        → greatest (greater n hit x) l ≡ greatest n (cond hit (number_then x l) l)
    step false x l = refl
    step true None l = refl
    step true (Some m) l = refl

pub least-fold : (n tag : ℕ) (fs : List Given)
    → folded (λ (n : ℕ) (f : Given). lesser n (eqb f.tag tag) (number_in f.text)) n fs
    ≡ least n (numbers_at tag fs)
unfolding lesser
least-fold n tag [] = refl
least-fold n tag (f ∷ fs) =
    least-fold (lesser n (eqb f.tag tag) (number_in f.text)) tag fs
    ∙ step (eqb f.tag tag) (number_in f.text) (numbers_at tag fs)
  where
    step : (hit : Bool) (x : Number) (l : List ℕ) → least (lesser n hit x) l ≡ least n (cond hit (number_then x l) l)
    step false x l = refl
    step true None l = refl
    step true (Some m) l = refl

-- The greatest is a number too.
greatest-bound : (n tag : ℕ) (fs : List Given) → n ≤ 999999999 → greatest n (numbers_at tag fs) ≤ 999999999
greatest-bound n tag [] h = h
greatest-bound n tag (f ∷ fs) h = go (eqb f.tag tag) (number_in f.text) (number_bound f.text)
    (λ k p. greatest-bound k tag fs p)
  where
    pick : (b : Bool) (m : ℕ) → m ≤ 999999999
        → ((k : ℕ) → k ≤ 999999999 → greatest k (numbers_at tag fs) ≤ 999999999)
        → greatest (cond b m n) (numbers_at tag fs) ≤ 999999999
    pick true m p ih = ih m p
    pick false m p ih = ih n h

    go : (hit : Bool) (x : Number) → or_else 0 x ≤ 999999999
        → ((k : ℕ) → k ≤ 999999999 → greatest k (numbers_at tag fs) ≤ 999999999)
        → greatest n (cond hit (number_then x (numbers_at tag fs)) (numbers_at tag fs)) ≤ 999999999
    go false x p ih = ih n h
    go true None p ih = ih n h
    go true (Some m) p ih = pick (ltb n m) m p ih

-- ─── Below some, and some below ───

-- Below the greater of two: below one of them. The lesser of two is below: one of them is.
below-greater : (a n m : ℕ) → ltb a (cond (ltb n m) m n) ≡ (ltb a n || ltb a m)
below-greater a n m = go (ltb n m) refl (ltb a n) refl
  where
    go : (b : Bool) → ltb n m ≡ b → (d : Bool) → ltb a n ≡ d → ltb a (cond b m n) ≡ (d || ltb a m)
    go true e true g =
        let p : n < m = ltb-true n m e in
        let q : a < n = ltb-true a n g in
        lt-ltb a m (omega (arith, p, q))
    go true e false g = refl
    go false e true g = g
    go false e false g =
        let p : m ≤ n = ltb-false n m e in
        let q : n ≤ a = ltb-false a n g in
        g ∙ sym (le-ltb a m (omega (arith, p, q)))

lesser-below : (n m g : ℕ) → ltb (cond (ltb m n) m n) g ≡ (ltb n g || ltb m g)
lesser-below n m g = go (ltb m n) refl (ltb n g) refl
  where
    go : (b : Bool) → ltb m n ≡ b → (d : Bool) → ltb n g ≡ d → ltb (cond b m n) g ≡ (d || ltb m g)
    go true e true h =
        let p : m < n = ltb-true m n e in
        let q : n < g = ltb-true n g h in
        lt-ltb m g (omega (arith, p, q))
    go true e false h = refl
    go false e true h = h
    go false e false h =
        let p : n ≤ m = ltb-false m n e in
        let q : g ≤ n = ltb-false n g h in
        h ∙ sym (le-ltb m g (omega (arith, p, q)))

below-greatest : (a n : ℕ) (firsts : List ℕ) → ltb a (greatest n firsts) ≡ (ltb a n || below_any a firsts)
below-greatest a n [] = sym (or-false (ltb a n))
below-greatest a n (m ∷ ms) =
    below-greatest a (cond (ltb n m) m n) ms
    ∙ ap (λ b. b || below_any a ms) (below-greater a n m)
    ∙ or_assoc (ltb a n) (ltb a m) (below_any a ms)

below-any : (a : ℕ) (firsts : List ℕ) → below_any a firsts ≡ ltb a (greatest 0 firsts)
below-any a firsts =
    let z : ltb a 0 ≡ false = le-ltb a 0 (omega arith) in
    sym (below-greatest a 0 firsts ∙ ap (λ b. b || below_any a firsts) z)

least-below : (n : ℕ) (firsts lasts : List ℕ)
    → ltb (least n lasts) (greatest 0 firsts) ≡ (ltb n (greatest 0 firsts) || any_below lasts firsts)
least-below n firsts [] = sym (or-false (ltb n (greatest 0 firsts)))
least-below n firsts (m ∷ ms) =
    least-below (cond (eqb m 0) n (cond (ltb m n) m n)) firsts ms
    ∙ ap (λ b. b || any_below ms firsts) (step (eqb m 0))
    ∙ or_assoc (ltb n (greatest 0 firsts)) (not (eqb m 0) && below_any m firsts) (any_below ms firsts)
  where
    step : (b : Bool) → ltb (cond b n (cond (ltb m n) m n)) (greatest 0 firsts)
        ≡ (ltb n (greatest 0 firsts) || (not b && below_any m firsts))
    step true = sym (or-false (ltb n (greatest 0 firsts)))
    step false =
        lesser-below n m (greatest 0 firsts) ∙ ap (λ b. ltb n (greatest 0 firsts) || b) (sym (below-any m firsts))

-- No last number but 0 was seen: none is below.
pub range-seen : (fs : List Given)
    → ltb (least no_least (numbers_at 16 fs)) (greatest 0 (numbers_at 7 fs)) ≡ any_below (numbers_at 16 fs) (numbers_at 7 fs)
range-seen fs =
    let h : greatest 0 (numbers_at 7 fs) ≤ 999999999 = greatest-bound 0 7 fs (omega arith) in
    let z : ltb no_least (greatest 0 (numbers_at 7 fs)) ≡ false =
    le-ltb no_least (greatest 0 (numbers_at 7 fs)) (omega (arith, h)) in
    least-below no_least (numbers_at 7 fs) (numbers_at 16 fs)
    ∙ ap (λ b. b || any_below (numbers_at 16 fs) (numbers_at 7 fs)) z
