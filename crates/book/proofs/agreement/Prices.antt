-- Prices are ordered, and equal where neither is below the other. Assumes nothing.
use mathlib.Core.Path.{◌≡◌, refl, sym, ap, ◌∙◌}
use mathlib.Core.Bool.{Bool, true, false, cond, false≢true}
use native.Mathlib.Omega.{arith}
use borrow.Author.Tests.{ltb-true, ltb-false, lt-ltb, le-ltb}
use lib.IntN.{ℤ, pos, negsuc}
use lib.Signed.{lt_z}
use Rattle.book.specs.Levels.{better, same_price}

lt_irrefl : (a : ℤ) → lt_z a a ≡ false
lt_irrefl (pos n) = le-ltb n n (omega arith)
lt_irrefl (negsuc n) = le-ltb n n (omega arith)

lt_trans : (a b c : ℤ) → lt_z a b ≡ true → lt_z b c ≡ true → lt_z a c ≡ true
lt_trans (pos a) (pos b) (pos c) e f = lt-ltb a c (omega (arith, ltb-true a b e, ltb-true b c f))
lt_trans (pos a) (pos b) (negsuc c) e f = f
lt_trans (pos a) (negsuc b) c e f = absurd (false≢true e)
lt_trans (negsuc a) (pos b) (pos c) e f = refl
lt_trans (negsuc a) (pos b) (negsuc c) e f = absurd (false≢true f)
lt_trans (negsuc a) (negsuc b) (pos c) e f = refl
lt_trans (negsuc a) (negsuc b) (negsuc c) e f = lt-ltb c a (omega (arith, ltb-true b a e, ltb-true c b f))

lt-equal : (a b : ℤ) → lt_z a b ≡ false → lt_z b a ≡ false → a ≡ b
lt-equal (pos a) (pos b) e f =
    let q : a ≡ b = omega (arith, ltb-false a b e, ltb-false b a f) in
    ap pos q
lt-equal (pos a) (negsuc b) e f = absurd (false≢true (sym f))
lt-equal (negsuc a) (pos b) e f = absurd (false≢true (sym e))
lt-equal (negsuc a) (negsuc b) e f =
    let q : a ≡ b = omega (arith, ltb-false b a e, ltb-false a b f) in
    ap negsuc q

pub same-equal : (a b : ℤ) → same_price a b ≡ true → a ≡ b
unfolding same_price
same-equal a b e = go (lt_z a b) refl (lt_z b a) refl e
  where
    go : (t : Bool) → lt_z a b ≡ t → (u : Bool) → lt_z b a ≡ u → cond t false (cond u false true) ≡ true → a ≡ b
    go true f u g q = absurd (false≢true q)
    go false f true g q = absurd (false≢true q)
    go false f false g q = lt-equal a b f g

pub same_self : (a : ℤ) → same_price a a ≡ true
unfolding same_price
same_self a = rw (lt_irrefl a)

-- Neither is better than itself; one that is better is not the same; of two that differ one is better.
pub better-self : (s : Bool) (a : ℤ) → better s a a ≡ false
unfolding better
better-self true a = lt_irrefl a
better-self false a = lt_irrefl a

pub better-trans : (s : Bool) (a b c : ℤ) → better s a b ≡ true → better s b c ≡ true → better s a c ≡ true
unfolding better
better-trans true a b c e f = lt_trans c b a f e
better-trans false a b c e f = lt_trans a b c e f

pub better-other : (s : Bool) (a b : ℤ) → better s a b ≡ true → same_price a b ≡ false
better-other s a b e = go (same_price a b) refl
  where
    go : (t : Bool) → same_price a b ≡ t → same_price a b ≡ false
    go false f = f
    go true f = absurd (false≢true (sym (better-self s b) ∙ (rw (same-equal a b f) at e)))

pub better-one : (s : Bool) (a b : ℤ) → better s a b ≡ false → same_price a b ≡ false → better s b a ≡ true
unfolding better same_price
better-one s a b e f = go s (lt_z a b) refl (lt_z b a) refl e f
  where
    go : (s : Bool) (t : Bool) → lt_z a b ≡ t → (u : Bool) → lt_z b a ≡ u → cond s (lt_z b a) (lt_z a b) ≡ false
        → cond t false (cond u false true) ≡ false
        → cond s (lt_z a b) (lt_z b a) ≡ true
    go true true g u h x y = g
    go true false g true h x y = absurd (false≢true (sym x ∙ h))
    go true false g false h x y = absurd (false≢true (sym y))
    go false true g u h x y = absurd (false≢true (sym x ∙ g))
    go false false g true h x y = h
    go false false g false h x y = absurd (false≢true (sym y))
