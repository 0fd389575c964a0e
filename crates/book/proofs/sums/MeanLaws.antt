-- What the mean is: the nearest, and no other. Assumes nothing.
use Prim.Native.Nat.{ℕ, zero, suc, ◌+◌, ◌*◌, ◌<◌, ◌≤◌}
use mathlib.Core.Path.{◌≡◌, refl, sym, ap, ◌∙◌}
use mathlib.Core.List.{List}
use mathlib.Core.Bool.{Bool, true, false, false≢true}
use native.Mathlib.Omega.{arith}
use native.Mathlib.Nat.{zero-mul}
use borrow.Author.Tests.{lt-ltb, ltb-true, ltb-false, le-leb, leb-true}
use lib.IntN.{ℤ, pos, negsuc, neg_ℤ, nat_abs, sub_ℕ, ◌-ℤ◌, ◌*ℤ◌, neg_ℤ-neg_ℤ, neg_ℤ-+ℤ}
use lib.Signed.{lt_z, le_z}
use lib.Dec.{ltb}
use Rattle.book.specs.Sums.{nearest_of, with_sign, mean_of}
use Rattle.book.specs.Sums.Laws.{off, Nearest, turned, Priced, MeanLaws}
use Rattle.book.specs.declared.event.Event.{Event}
use Rattle.book.specs.Agreement.{turnover_of, volume_of}
use Rattle.book.proofs.sums.Limits.{positive}
use Rattle.book.proofs.sums.Prices.{sums-between}
use Rattle.book.proofs.sums.Rounding.{apart, Near, nearest-near, near-only, nearest-most, nearest-least}
use Rattle.std.specs.Prelude.{Some, None}

-- ─── Distances ───

gap : (x y : ℕ) → nat_abs (pos x -ℤ pos y) ≡ apart x y
gap x zero = omega arith
gap x (suc y) = go (ltb x (suc y)) refl
  where
    go : (t : Bool) → ltb x (suc y) ≡ t → nat_abs (sub_ℕ x (suc y)) ≡ apart x (suc y)
    go true e = rw e (omega (arith, ltb-true x (suc y) e))
    go false e = rw e (omega (arith, ltb-false x (suc y) e))

abs-turned : (z : ℤ) → nat_abs (neg_ℤ z) ≡ nat_abs z
abs-turned (pos zero) = refl
abs-turned (pos (suc n)) = refl
abs-turned (negsuc n) = refl

far : (x a : ℕ) → nat_abs (neg_ℤ (pos x) -ℤ pos a) ≡ x + a
far x a = ap nat_abs (sym (neg_ℤ-+ℤ (pos x) (pos a))) ∙ abs-turned (pos (x + a))

product_turned : (m : ℤ) (v : ℕ) → neg_ℤ m *ℤ pos v ≡ neg_ℤ (m *ℤ pos v)
product_turned (pos zero) v = rw (zero-mul v)
product_turned (pos (suc n)) v = refl
product_turned (negsuc n) v = sym (neg_ℤ-neg_ℤ (pos (suc n * v)))

off-turned : (s : ℤ) (v : ℕ) (m : ℤ) → off (neg_ℤ s) v (neg_ℤ m) ≡ off s v m
off-turned s v m =
    ap nat_abs
    (ap (λ (y : ℤ). y -ℤ neg_ℤ s) (product_turned m v) ∙ sym (neg_ℤ-+ℤ (m *ℤ pos v) (neg_ℤ s)))
    ∙ abs-turned (m *ℤ pos v -ℤ s)

-- ─── The nearest, with its sign ───

nearest-turned : (s : ℤ) (v : ℕ) (m : ℤ) → Nearest s v m → Nearest (neg_ℤ s) v (neg_ℤ m)
nearest-turned s v m h = record {
  near = rw (off-turned s v m) h.near;
  even = λ k. rw (abs-turned m) (h.even (rw (off-turned s v m) at k));
}

module _ (v : ℕ) (h : 0 < v) where
  unsigned : (a n : ℕ) → Near a v n → Nearest (pos a) v (pos n)
  unsigned a n x = record { near = rw (gap (n * v) a) x.0; even = λ k. x.1 (rw (gap (n * v) a) at k) }

  unsigned-again : (a n : ℕ) → Nearest (pos a) v (pos n) → Near a v n
  unsigned-again a n x =
      let near : 2 * apart (n * v) a ≤ v = rw (gap (n * v) a) at x.near in
      (near, λ k. x.even (rw (gap (n * v) a) k))

  abbrev rounded : ℤ → ℤ
  rounded s = with_sign s (nearest_of (nat_abs s) v)

  rounded-near : (s : ℤ) → Nearest s v (rounded s)
  rounded-near (pos a) = unsigned a (nearest_of a v) (nearest-near a v h)
  rounded-near (negsuc a) =
      nearest-turned (pos (suc a)) v (pos (nearest_of (suc a) v))
      (unsigned (suc a) (nearest_of (suc a) v) (nearest-near (suc a) v h))

  above-only : (a : ℕ) (m : ℤ) → Nearest (pos a) v m → pos (nearest_of a v) ≡ m
  above-only a (pos n) x = ap pos (near-only a v h n (unsigned-again a n x))
  above-only a (negsuc k) x =
      let y : 2 * (suc k * v + a) ≤ v = rw (far (suc k * v) a) at x.near in
      absurd (omega (arith, y, h))

  rounded-only : (s m : ℤ) → Nearest s v m → rounded s ≡ m
  rounded-only (pos a) m x = above-only a m x
  rounded-only (negsuc a) m x =
      ap neg_ℤ (above-only (suc a) (neg_ℤ m) (nearest-turned (negsuc a) v m x)) ∙ neg_ℤ-neg_ℤ m

  -- ─── Between two prices ───

  below-zero : (a y : ℕ) → 0 < y → le_z (pos a) (neg_ℤ (pos y)) ≡ true → ⊥
  below-zero a zero k e = omega arith
  below-zero a (suc y) k e = false≢true e

  under : (n b : ℕ) → le_z (neg_ℤ (pos n)) (pos b) ≡ true
  under zero b = le-leb 0 b (omega arith)
  under (suc n) b = refl

  sizes-down : (x y : ℕ) → le_z (negsuc x) (neg_ℤ (pos y)) ≡ true → y ≤ suc x
  sizes-down x zero e = omega arith
  sizes-down x (suc y) e = omega (arith, leb-true y x e)

  down-sizes : (x y : ℕ) → y ≤ suc x → le_z (negsuc x) (neg_ℤ (pos y)) ≡ true
  down-sizes x zero l = refl
  down-sizes x (suc y) l = le-leb y x (omega arith)

  sizes-up : (x y : ℕ) → le_z (neg_ℤ (pos y)) (negsuc x) ≡ true → suc x ≤ y
  sizes-up x zero e = absurd (false≢true e)
  sizes-up x (suc y) e = omega (arith, leb-true x y e)

  up-sizes : (x y : ℕ) → suc x ≤ y → le_z (neg_ℤ (pos y)) (negsuc x) ≡ true
  up-sizes x zero l = absurd (omega arith)
  up-sizes x (suc y) l = le-leb x y (omega arith)

  at_most : (s b : ℤ) → le_z s (b *ℤ pos v) ≡ true → le_z (rounded s) b ≡ true
  at_most (pos a) (pos b) e = le-leb (nearest_of a v) b (nearest-most a v h b (leb-true a (b * v) e))
  at_most (pos a) (negsuc k) e = absurd (below-zero a (suc k * v) (omega (arith, h)) e)
  at_most (negsuc a) (pos b) e = under (nearest_of (suc a) v) b
  at_most (negsuc a) (negsuc k) e =
      up-sizes k (nearest_of (suc a) v) (nearest-least (suc a) v h (suc k) (sizes-down a (suc k * v) e))

  at_least : (s b : ℤ) → le_z (b *ℤ pos v) s ≡ true → le_z b (rounded s) ≡ true
  at_least (pos a) (pos b) e = le-leb b (nearest_of a v) (nearest-least a v h b (leb-true (b * v) a e))
  at_least (pos a) (negsuc k) e = refl
  at_least (negsuc a) (pos b) e = absurd (false≢true e)
  at_least (negsuc a) (negsuc k) e =
      down-sizes k (nearest_of (suc a) v) (nearest-most (suc a) v h (suc k) (sizes-up a (suc k * v) e))

  -- ─── The mean ───

  pub mean-is : (s : ℤ) → mean_of s (pos v) ≡ Some (rounded s)
  unfolding mean_of
  mean-is s = rw (lt-ltb 0 v h)

no-mean : (m : ℤ) → None ≡ Some m → ⊥
no-mean m p = let z : ◌≡◌ {A = ℕ} 0 1 = cc in omega arith

mean-none : (s v : ℤ) → lt_z (pos 0) v ≡ false → mean_of s v ≡ None
unfolding mean_of
mean-none s v e = rw e

mean-signs : (s v : ℤ) → mean_of (neg_ℤ s) v ≡ turned (mean_of s v)
unfolding mean_of
mean-signs s v = go (lt_z (pos 0) v) refl
  where
    go : (t : Bool) → lt_z (pos 0) v ≡ t → mean_of (neg_ℤ s) v ≡ turned (mean_of s v)
    go true e =
        let h = positive v e in
        rw e (ap Some (rounded-only (nat_abs v) h (neg_ℤ s) (neg_ℤ (rounded (nat_abs v) h s))
        (nearest-turned s (nat_abs v) (rounded (nat_abs v) h s) (rounded-near (nat_abs v) h s))))
    go false e = rw e

mean-between : (s : ℤ) (v : ℕ) (m a b : ℤ) → mean_of s (pos v) ≡ Some m
    → le_z (a *ℤ pos v) s ≡ true
    → le_z s (b *ℤ pos v) ≡ true
    → (le_z a m ≡ true) × (le_z m b ≡ true)
mean-between s zero m a b q l k = absurd (no-mean m (sym (mean-none s (pos 0) refl) ∙ q))
mean-between s (suc v) m a b q l k =
    let h : 0 < suc v = omega arith in
    let p : Some (rounded (suc v) h s) ≡ Some m = sym (mean-is (suc v) h s) ∙ q in
    let e : rounded (suc v) h s ≡ m = cc in
    (rw e at (at_least (suc v) h s a l), rw e at (at_most (suc v) h s b k))

mean-prices : (es : List Event) (m a b : ℤ) → mean_of (turnover_of es) (volume_of es) ≡ Some m → Priced a b es
    → (le_z a m ≡ true) × (le_z m b ≡ true)
mean-prices es m a b q g =
    let r = sums-between a b es g in
    mean-between (turnover_of es) r.0 m a b (sym (ap (λ (v : ℤ). mean_of (turnover_of es) v) r.1) ∙ q) r.2 r.3

pub mean-laws : MeanLaws
mean-laws = record {
  none = mean-none;
  some = λ s v h. (rounded v h s, mean-is v h s, rounded-near v h s);
  only = λ s v m h x. mean-is v h s ∙ ap Some (rounded-only v h s m x);
  signs = mean-signs;
  between = mean-between;
  prices = mean-prices;
}
