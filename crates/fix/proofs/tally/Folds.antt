-- What a tally keeps, field by field of it: whether some field was one, and how often a tag was met. Assumes nothing.
use Prim.Native.Nat.{ℕ, ◌+◌, ◌<◌, ◌≤◌}
use mathlib.Core.Path.{◌≡◌, refl, sym, ap, ◌∙◌}
use mathlib.Core.List.{List, [], ◌∷◌}
use mathlib.Core.Bool.{Bool, true, false, cond, ◌||◌, not}
use native.Mathlib.Omega.{arith}
use borrow.Author.Tests.{lt-ltb, le-ltb, ltb-true, ltb-false, ne_eqb, eqb-true, eqb-false}
use lib.Dec.{ltb, eqb}
use Rattle.fix.specs.declared.kinds.Kind.{Kind}
use Rattle.fix.specs.declared.tally.Tally.{Tally}
use Rattle.fix.specs.Fields.{Given, tags_of}
use Rattle.fix.specs.Check.{times}
use Rattle.fix.specs.Tally.{one_more, tallied, tallied_from}

abbrev pub folded : {A : Type 0} → (A → Given → A) → A → List Given → A
folded step a [] = a
folded step a (f ∷ fs) = folded step (step a f) fs

-- A part of the tally that goes by itself is a fold.
pub tally-fold : {A : Type 0} (part : Tally → A) (step : A → Given → A) (kind : Kind)
    → ((t : Tally) (f : Given) → part (tallied kind t f) ≡ step (part t) f)
    → (t : Tally) (fs : List Given) → part (tallied_from kind t fs) ≡ folded step (part t) fs
tally-fold part step kind h t [] = refl
tally-fold part step kind h t (f ∷ fs) =
    tally-fold part step kind h (tallied kind t f) fs ∙ ap (λ a. folded step a fs) (h t f)

-- ─── Whether some field was one ───

pub or_assoc : (a b c : Bool) → ((a || b) || c) ≡ (a || (b || c))
or_assoc true b c = refl
or_assoc false b c = refl

pub or-false : (a : Bool) → (a || false) ≡ a
or-false true = refl
or-false false = refl

pub any-fold : (is : Given → Bool) (any : List Given → Bool) → any [] ≡ false
    → ((f : Given) (fs : List Given) → any (f ∷ fs) ≡ (is f || any fs))
    → (a : Bool) (fs : List Given) → folded (λ (b : Bool) (f : Given). b || is f) a fs ≡ (a || any fs)
any-fold is any none some a [] = sym (ap (λ b. a || b) none ∙ or-false a)
any-fold is any none some a (f ∷ fs) =
    any-fold is any none some (a || is f) fs ∙ or_assoc a (is f) (any fs) ∙ ap (λ b. a || b) (sym (some f fs))

-- ─── How often: 0, 1, or 2 for more ───

abbrev capped : ℕ → ℕ
capped m = cond (ltb m 2) m 2

one-capped : (m : ℕ) (hit : Bool) → one_more (capped m) hit ≡ capped (m + cond hit 1 0)
unfolding one_more
one-capped m false = let k : m + 0 ≡ m = omega arith in ap capped (sym k)
one-capped m true = go (ltb m 2) refl
  where
    next : (b : Bool) → eqb m 0 ≡ b → m < 2 → cond b 1 2 ≡ capped (m + 1)
    next true e h =
        let z : m ≡ 0 = eqb-true m 0 e in
        let k : 1 ≡ m + 1 = omega (arith, z) in
        rw (lt-ltb (m + 1) 2 (omega (arith, z))) k
    next false e h =
        let z : 1 ≤ m = omega (arith, eqb-false m 0 e) in
        rw (le-ltb (m + 1) 2 (omega (arith, z)))

    go : (b : Bool) → ltb m 2 ≡ b → cond (eqb (cond b m 2) 0) 1 2 ≡ capped (m + 1)
    go true e = next (eqb m 0) refl (ltb-true m 2 e)
    go false e = let h : 2 ≤ m = ltb-false m 2 e in rw (le-ltb (m + 1) 2 (omega (arith, h)))

pub count-fold : (k m : ℕ) (fs : List Given)
    → folded (λ (n : ℕ) (f : Given). one_more n (eqb f.tag k)) (capped m) fs ≡ capped (m + times k (tags_of fs))
count-fold k m [] = let z : m + 0 ≡ m = omega arith in ap capped (sym z)
count-fold k m (f ∷ fs) =
    ap (λ n. folded (λ (n : ℕ) (f : Given). one_more n (eqb f.tag k)) n fs) (one-capped m (eqb f.tag k))
    ∙ count-fold k (m + cond (eqb f.tag k) 1 0) fs
    ∙ ap capped (more (cond (eqb f.tag k) 1 0) (times k (tags_of fs)))
  where
    more : (x y : ℕ) → m + x + y ≡ m + (x + y)
    more x y = omega arith

-- Exactly once, and more than once, are seen.
pub capped-one : (m : ℕ) → eqb (capped m) 1 ≡ eqb m 1
capped-one m = go (ltb m 2) refl
  where
    go : (b : Bool) → ltb m 2 ≡ b → eqb (cond b m 2) 1 ≡ eqb m 1
    go true e = refl
    go false e = let h : 2 ≤ m = ltb-false m 2 e in sym (ne_eqb m 1 (λ z. omega (arith, h, z)))

pub capped-more : (m : ℕ) → ltb 1 (capped m) ≡ ltb 1 m
capped-more m = go (ltb m 2) refl
  where
    go : (b : Bool) → ltb m 2 ≡ b → ltb 1 (cond b m 2) ≡ ltb 1 m
    go true e = refl
    go false e = sym (lt-ltb 1 m (ltb-false m 2 e))

module _ (part : Tally → ℕ) (k : ℕ) (kind : Kind)
    (goes : (t : Tally) (f : Given) → part (tallied kind t f) ≡ one_more (part t) (eqb f.tag k))
    (t : Tally) (none : part t ≡ 0) (fs : List Given) where
  counted : part (tallied_from kind t fs) ≡ capped (times k (tags_of fs))
  counted =
      let z : 0 + times k (tags_of fs) ≡ times k (tags_of fs) = omega arith in
      tally-fold part (λ (n : ℕ) (f : Given). one_more n (eqb f.tag k)) kind goes t fs
      ∙ ap (λ n. folded (λ (n : ℕ) (f : Given). one_more n (eqb f.tag k)) n fs) none
      ∙ count-fold k 0 fs
      ∙ ap capped z

  pub count-one : eqb (part (tallied_from kind t fs)) 1 ≡ eqb (times k (tags_of fs)) 1
  count-one = ap (λ n. eqb n 1) counted ∙ capped-one (times k (tags_of fs))

  pub count-more : ltb 1 (part (tallied_from kind t fs)) ≡ ltb 1 (times k (tags_of fs))
  count-more = ap (λ n. ltb 1 n) counted ∙ capped-more (times k (tags_of fs))

-- ─── Whether a tag was met at all ───

abbrev pub met : ℕ → List ℕ → Bool
met k tags = not (eqb (times k tags) 0)

pub met_next : (k t : ℕ) (ts : List ℕ) → met k (t ∷ ts) ≡ (eqb t k || met k ts)
met_next k t ts = go (eqb t k)
  where
    go : (b : Bool) → not (eqb (cond b 1 0 + times k ts) 0) ≡ (b || not (eqb (times k ts) 0))
    go true = ap not (ne_eqb (1 + times k ts) 0 (λ z. omega (arith, z)))
    go false = let z : 0 + times k ts ≡ times k ts = omega arith in ap (λ n. not (eqb n 0)) z
