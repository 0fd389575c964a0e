-- Sign and magnitude as one signed number of sixty-four bits. Assumes nothing.
use Prim.Native.Nat.{ℕ, zero, suc, ◌<◌, ◌≤◌}
use mathlib.Core.Path.{◌≡◌, refl, sym, ap, ◌∙◌}
use mathlib.Core.Bool.{Bool, true, false, cond, false≢true}
use native.Mathlib.Omega.{arith}
use borrow.Author.Tests.{le-leb, lt-leb, ltb-true, ltb-false}
use lib.IntN.{ℤ, pos, negsuc, neg_ℤ, nat_abs, ◌-ℤ◌, +ℤ_idl}
use lib.Signed.{lt_z, non_neg}
use lib.Dec.{leb, T}
use mir.Syntax.{w64}
use mir.Val.{to_z, of_z, SFits, Fits}
use mir.ValLaws.{to_z-of_z, to_z_pos}
use Rattle.ftd.specs.Signed.Integer.{integer_of, from_integer}
use Rattle.std.specs.Prelude.{Some, None}
use Rattle.ftd.specs.Types.{some_signed}
use Rattle.ftd.proofs.Options.{same-signed}

module _ (units : ℕ) (h : units ≤ 999999999999999999) where
  pub fits-above : SFits w64 (pos units)
  fits-above = record { sfits = omega arith }

  pub fits_below : SFits w64 (neg_ℤ (pos units))
  fits_below = go units h
    where
      go : (u : ℕ) → u ≤ 999999999999999999 → SFits w64 (neg_ℤ (pos u))
      go zero h = record { sfits = omega arith }
      go (suc u) h = record { sfits = omega arith }

  pub above-is : to_z w64 units ≡ pos units
  above-is = to_z_pos w64 units (omega arith)

  module _ (r : ℤ) (q : r ≡ pos units) where
    pub below-is : pos 0 -ℤ to_z w64 (of_z w64 r) ≡ neg_ℤ (pos units)
    below-is = rw (q, to_z-of_z w64 (pos units) fits-above) (+ℤ_idl (neg_ℤ (pos units)))

    pub below-fits : SFits w64 (pos 0 -ℤ to_z w64 (of_z w64 r))
    below-fits = rw below-is fits_below

    pub below_again : to_z w64 (of_z w64 (pos 0 -ℤ to_z w64 (of_z w64 r))) ≡ neg_ℤ (pos units)
    below_again = rw below-is (to_z-of_z w64 (neg_ℤ (pos units)) fits_below)

-- ─── And apart again ───

-- Below zero, with at most 18 digits.
negated : (n : ℕ) → pos 0 -ℤ negsuc n ≡ pos (suc n)
negated n = +ℤ_idl (pos (suc n))

from-below : (n : ℕ) → n ≤ 999999999999999998 → from_integer (negsuc n) ≡ some_signed true (suc n)
unfolding from_integer
from-below n h = rw (le-leb (suc n) 999999999999999999 (omega arith))

from-above : (n : ℕ) → n ≤ 999999999999999999 → from_integer (pos n) ≡ some_signed false n
unfolding from_integer
from-above n h = rw (le-leb n 999999999999999999 h)

wide-above : (n : ℕ) → n ≤ 999999999999999999 → (y : ℤ) → y ≡ pos n → T (non_neg y) × Fits w64 (nat_abs y)
wide-above n h y e = rw e (tt, record { fits = omega arith })

module _ (x : ℤ) (f : SFits w64 x) where
  same : to_z w64 (of_z w64 x) ≡ x
  same = to_z-of_z w64 x f

  module _ (a : lt_z (to_z w64 (of_z w64 x)) (pos 0) ≡ true) where
    pub from_low : lt_z (to_z w64 (of_z w64 x)) (negsuc 999999999999999998) ≡ true → None ≡ from_integer x
    unfolding from_integer
    from_low b = go x (rw same at a) (rw same at b)
      where
        go : (x : ℤ) → lt_z x (pos 0) ≡ true → lt_z x (negsuc 999999999999999998) ≡ true → None ≡ from_integer x
        go (pos n) a b = absurd (omega (arith, ltb-true n 0 a))
        go (negsuc n) a b = rw (lt-leb (suc n) 999999999999999999 (omega (arith, ltb-true 999999999999999998 n b)))

    module _ (b : lt_z (to_z w64 (of_z w64 x)) (negsuc 999999999999999998) ≡ false) where
      minus : (n : ℕ) × (x ≡ negsuc n) × (n ≤ 999999999999999998)
      minus = go x (rw same at a) (rw same at b)
        where
          go : (x : ℤ) → lt_z x (pos 0) ≡ true → lt_z x (negsuc 999999999999999998) ≡ false
              → (n : ℕ) × (x ≡ negsuc n) × (n ≤ 999999999999999998)
          go (pos n) a b = absurd (omega (arith, ltb-true n 0 a))
          go (negsuc n) a b = (n, refl, ltb-false 999999999999999998 n b)

      turned : pos 0 -ℤ to_z w64 (of_z w64 x) ≡ pos (suc minus.0)
      turned = ap (λ (y : ℤ). pos 0 -ℤ y) (same ∙ minus.1) ∙ negated minus.0

      pub from-fits : SFits w64 (pos 0 -ℤ to_z w64 (of_z w64 x))
      from-fits = rw turned (fits-above (suc minus.0) (omega (arith, minus.2)))

      turned-again : to_z w64 (of_z w64 (pos 0 -ℤ to_z w64 (of_z w64 x))) ≡ pos (suc minus.0)
      turned-again =
          rw turned (to_z-of_z w64 (pos (suc minus.0)) (fits-above (suc minus.0) (omega (arith, minus.2))))

      pub from-cast : T (non_neg (to_z w64 (of_z w64 (pos 0 -ℤ to_z w64 (of_z w64 x)))))
          × Fits w64 (nat_abs (to_z w64 (of_z w64 (pos 0 -ℤ to_z w64 (of_z w64 x)))))
      from-cast = wide-above (suc minus.0) (omega (arith, minus.2)) _ turned-again

      pub from-minus : some_signed true (nat_abs (to_z w64 (of_z w64 (pos 0 -ℤ to_z w64 (of_z w64 x))))) ≡ from_integer x
      unfolding from_integer
      from-minus =
          ap (λ (y : ℤ). some_signed true (nat_abs y)) turned-again
          ∙ sym (ap from_integer minus.1 ∙ from-below minus.0 minus.2)

  module _ (a : lt_z (to_z w64 (of_z w64 x)) (pos 0) ≡ false) where
    pub from-high : lt_z (pos 999999999999999999) (to_z w64 (of_z w64 x)) ≡ true → None ≡ from_integer x
    unfolding from_integer
    from-high b = go x (rw same at a) (rw same at b)
      where
        go : (x : ℤ) → lt_z x (pos 0) ≡ false → lt_z (pos 999999999999999999) x ≡ true → None ≡ from_integer x
        go (pos n) a b = rw (lt-leb n 999999999999999999 (ltb-true 999999999999999999 n b))
        go (negsuc n) a b = absurd (false≢true (sym a))

    module _ (b : lt_z (pos 999999999999999999) (to_z w64 (of_z w64 x)) ≡ false) where
      plus : (n : ℕ) × (x ≡ pos n) × (n ≤ 999999999999999999)
      plus = go x (rw same at a) (rw same at b)
        where
          go : (x : ℤ) → lt_z x (pos 0) ≡ false → lt_z (pos 999999999999999999) x ≡ false
              → (n : ℕ) × (x ≡ pos n) × (n ≤ 999999999999999999)
          go (pos n) a b = (n, refl, ltb-false 999999999999999999 n b)
          go (negsuc n) a b = absurd (false≢true (sym a))

      pub from-wide : T (non_neg (to_z w64 (of_z w64 x))) × Fits w64 (nat_abs (to_z w64 (of_z w64 x)))
      from-wide = wide-above plus.0 plus.2 (to_z w64 (of_z w64 x)) (same ∙ plus.1)

      pub from-plus : some_signed false (nat_abs (to_z w64 (of_z w64 x))) ≡ from_integer x
      unfolding from_integer
      from-plus =
          ap (λ (y : ℤ). some_signed false (nat_abs y)) (same ∙ plus.1)
          ∙ sym (ap from_integer plus.1 ∙ from-above plus.0 plus.2)

-- ─── Round trips ───

no_value : (negative : Bool) (units : ℕ) → None ≡ some_signed negative units → ⊥
no_value negative units p = let z : ◌≡◌ {A = ℕ} 0 1 = cc in omega arith

no_number : (x : ℤ) → None ≡ Some x → ⊥
no_number x p = let z : ◌≡◌ {A = ℕ} 0 1 = cc in omega arith

pub integer-back : (x : ℤ) (negative : Bool) (units : ℕ) → from_integer x ≡ some_signed negative units
    → integer_of (some_signed negative units) ≡ Some x
unfolding from_integer integer_of
integer-back (pos n) negative units e = go (leb n 999999999999999999) refl e
  where
    go : (b : Bool) → leb n 999999999999999999 ≡ b → cond b (some_signed false n) None ≡ some_signed negative units
        → integer_of (some_signed negative units) ≡ Some (pos n)
    go true p e =
        let s : false ≡ negative = (same-signed _ _ _ _ e).0 in
        let u : n ≡ units = (same-signed _ _ _ _ e).1 in
        rw (← s, ← u, p)
    go false p e = absurd (no_value negative units e)
integer-back (negsuc n) negative units e = go (leb (suc n) 999999999999999999) refl e
  where
    go : (b : Bool) → leb (suc n) 999999999999999999 ≡ b → cond b (some_signed true (suc n)) None ≡ some_signed negative units
        → integer_of (some_signed negative units) ≡ Some (negsuc n)
    go true p e =
        let s : true ≡ negative = (same-signed _ _ _ _ e).0 in
        let u : suc n ≡ units = (same-signed _ _ _ _ e).1 in
        rw (← s, ← u, p)
    go false p e = absurd (no_value negative units e)

pub integer-again : (negative : Bool) (units : ℕ) (x : ℤ) → (negative ≡ true → 0 < units)
    → integer_of (some_signed negative units) ≡ Some x
    → from_integer x ≡ some_signed negative units
unfolding from_integer integer_of
integer-again false units x s e = go (leb units 999999999999999999) refl e
  where
    go : (b : Bool) → leb units 999999999999999999 ≡ b → cond b (Some (pos units)) None ≡ Some x
        → from_integer x ≡ some_signed false units
    go true p e =
        let v : pos units ≡ x = cc in
        rw (← v, p)
    go false p e = absurd (no_number x e)
integer-again true zero x s e = absurd (omega (arith, s refl))
integer-again true (suc n) x s e = go (leb (suc n) 999999999999999999) refl e
  where
    go : (b : Bool) → leb (suc n) 999999999999999999 ≡ b → cond b (Some (negsuc n)) None ≡ Some x
        → from_integer x ≡ some_signed true (suc n)
    go true p e =
        let v : negsuc n ≡ x = cc in
        rw (← v, p)
    go false p e = absurd (no_number x e)
