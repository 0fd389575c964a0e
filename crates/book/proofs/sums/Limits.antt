-- Signed sums and products of sixty-four bits. Assumes nothing.
use Prim.Native.Nat.{ℕ, zero, suc, ◌*◌, ◌<◌, ◌≤◌}
use mathlib.Core.Path.{◌≡◌, refl, sym, ap, ◌∙◌}
use mathlib.Core.Bool.{Bool, true, false, cond, false≢true}
use native.Mathlib.Omega.{arith}
use native.Mathlib.Nat.{mul-le-mul}
use borrow.Author.Tests.{ltb-true, ltb-false}
use lib.IntN.{ℤ, pos, negsuc, neg_ℤ, nat_abs, sub_ℕ, ◌+ℤ◌, ◌*ℤ◌}
use lib.Signed.{lt_z}
use lib.Dec.{ltb}
use mir.Syntax.{w64}
use mir.Val.{to_z, of_z, SFits}
use mir.ValLaws.{to_z-of_z}
use Rattle.book.specs.Sums.{beyond, added_to, nearest_of, with_sign, mean_of}
use Rattle.book.specs.Types.{Total}
use Rattle.book.specs.Types.{Mean}
use Rattle.std.specs.Prelude.{Some, None}

-- ─── Sizes ───

pub abs_neg : (n : ℕ) → nat_abs (neg_ℤ (pos n)) ≡ n
abs_neg zero = refl
abs_neg (suc n) = refl

pub small-fits : (z : ℤ) → nat_abs z ≤ 99999999999000000 → SFits w64 z
small-fits (pos n) h = record { sfits = omega arith }
small-fits (negsuc n) h = record { sfits = omega arith }

abs-product : (p : ℤ) (v : ℕ) → nat_abs (p *ℤ pos v) ≡ nat_abs p * v
abs-product (pos a) v = refl
abs-product (negsuc a) v = abs_neg (suc a * v)

-- Price times volume stays far below 64 bits.
pub product_small : (p : ℤ) (v : ℕ) → nat_abs p ≤ 99999999999 → v ≤ 1000000 → nat_abs (p *ℤ pos v) ≤ 99999999999000000
product_small p v h k = rw (abs-product p v) (mul-le-mul h k)

-- ─── Sums ───

fits_sub : (a b : ℕ) → a < 9223372036854775808 → b ≤ 9223372036854775808 → SFits w64 (sub_ℕ a b)
fits_sub a b h k = go (ltb a b) refl
  where
    go : (t : Bool) → ltb a b ≡ t → SFits w64 (sub_ℕ a b)
    go true e = rw e (record { sfits = omega (arith, ltb-true a b e) })
    go false e = rw e (record { sfits = omega arith })

within-pos : (n : ℕ) → beyond (pos n) ≡ false → n ≤ 9000000000000000000
unfolding beyond
within-pos n e = go (ltb 9000000000000000000 n) refl e
  where
    go : (t : Bool) → ltb 9000000000000000000 n ≡ t → cond t true false ≡ false → n ≤ 9000000000000000000
    go true e q = absurd (false≢true (sym q))
    go false e q = ltb-false 9000000000000000000 n e

within-neg : (n : ℕ) → beyond (negsuc n) ≡ false → n ≤ 8999999999999999999
unfolding beyond
within-neg n e = ltb-false 8999999999999999999 n e

pub sum_fits : (s x : ℤ) → beyond s ≡ false → nat_abs x ≤ 99999999999000000 → SFits w64 (s +ℤ x)
sum_fits (pos a) (pos b) e h = record { sfits = omega (arith, within-pos a e) }
sum_fits (pos a) (negsuc b) e h = fits_sub a (suc b) (omega (arith, within-pos a e)) (omega arith)
sum_fits (negsuc a) (pos b) e h = fits_sub b (suc a) (omega arith) (omega (arith, within-neg a e))
sum_fits (negsuc a) (negsuc b) e h = record { sfits = omega (arith, within-neg a e) }

module _ (sum x : ℤ) where
  pub added-beyond : beyond sum ≡ true → None ≡ added_to sum x
  unfolding added_to
  added-beyond e = rw e

  pub added-over : beyond sum ≡ false → beyond (sum +ℤ x) ≡ true → None ≡ added_to sum x
  unfolding added_to
  added-over e f = rw (e, f)

  pub added-within : beyond sum ≡ false → beyond (sum +ℤ x) ≡ false → Some (sum +ℤ x) ≡ added_to sum x
  unfolding added_to
  added-within e f = rw (e, f)

-- ─── As the program holds them ───

plain : (z : ℤ) → SFits w64 z → to_z w64 (of_z w64 z) ≡ z
plain z f = to_z-of_z w64 z f

module _ (sum x : ℤ) (f : SFits w64 sum) (g : SFits w64 x) (r : Bool) (e : r ≡ beyond (to_z w64 (of_z w64 sum))) where
  here : beyond sum ≡ r
  here = sym (rw (plain sum f) at e)

  pub sum-beyond : r ≡ true → None ≡ added_to sum x
  sum-beyond t = added-beyond sum x (here ∙ t)

  module _ (t : r ≡ false) (h : nat_abs x ≤ 99999999999000000) where
    pub next_fits : SFits w64 (to_z w64 (of_z w64 sum) +ℤ to_z w64 (of_z w64 x))
    next_fits = rw (plain sum f, plain x g) (sum_fits sum x (here ∙ t) h)

    next-is : to_z w64 (of_z w64 (to_z w64 (of_z w64 sum) +ℤ to_z w64 (of_z w64 x))) ≡ sum +ℤ x
    next-is = rw (plain sum f, plain x g, plain (sum +ℤ x) (sum_fits sum x (here ∙ t) h))

    module _ (q : Bool) (d : q ≡ beyond (to_z w64 (of_z w64 (to_z w64 (of_z w64 sum) +ℤ to_z w64 (of_z w64 x))))) where
      pub next-beyond : q ≡ true → None ≡ added_to sum x
      next-beyond u = added-over sum x (here ∙ t) (sym (rw next-is at d) ∙ u)

      pub next-within : q ≡ false
          → Some (to_z w64 (of_z w64 (to_z w64 (of_z w64 sum) +ℤ to_z w64 (of_z w64 x)))) ≡ added_to sum x
      next-within u = ap Some next-is ∙ added-within sum x (here ∙ t) (sym (rw next-is at d) ∙ u)

-- What is added is the number meant.
pub added-plain : (sum x r : ℤ) (t : Total) → SFits w64 sum → r ≡ x → nat_abs x ≤ 99999999999000000
    → t ≡ added_to (to_z w64 (of_z w64 sum)) (to_z w64 (of_z w64 r))
    → t ≡ added_to sum x
added-plain sum x r t f e h q = rw (e, plain sum f, plain x (small-fits x h)) at q

pub volume-small : (v : ℕ) (r : ℤ) → v ≤ 1000000 → r ≡ pos v → nat_abs (to_z w64 (of_z w64 r)) ≤ 99999999999000000
volume-small v r h e = rw (e, plain (pos v) (small-fits (pos v) (omega arith))) (omega arith)

-- ─── The mean ───

-- A volume that the test passes is above zero.
pub positive : (v : ℤ) → lt_z (pos 0) v ≡ true → 0 < nat_abs v
positive (pos n) t = ltb-true 0 n t
positive (negsuc n) t = absurd (false≢true t)

-- The mean of sums with a volume above zero.
pub signed-fits : (s : ℤ) (n : ℕ) → SFits w64 s → n ≤ nat_abs s → SFits w64 (with_sign s n)
signed-fits (pos a) n f h = record { sfits = omega (arith, f.sfits) }
signed-fits (negsuc a) zero f h = record { sfits = omega arith }
signed-fits (negsuc a) (suc n) f h = record { sfits = omega (arith, f.sfits) }

module _ (s v : ℤ) (f : SFits w64 s) (g : SFits w64 v) where
  module _ (t : lt_z (pos 0) (to_z w64 (of_z w64 v)) ≡ true) where
    pub mean-some : (x y n : ℕ) (m : ℤ) → x ≡ nat_abs (to_z w64 (of_z w64 s)) → y ≡ nat_abs (to_z w64 (of_z w64 v))
        → n ≡ nearest_of x y
        → n ≤ x
        → m ≡ with_sign (to_z w64 (of_z w64 s)) n
        → Some (to_z w64 (of_z w64 m)) ≡ mean_of s v
    unfolding mean_of
    mean-some x y n m a b c d e =
        let b' : y ≡ nat_abs v = rw (plain v g) at b in
        let a' : x ≡ nat_abs s = rw (plain s f) at a in
        let e' : m ≡ with_sign s n = rw (plain s f) at e in
        let c' : n ≡ nearest_of (nat_abs s) (nat_abs v) = rw (a', b') at c in
        let u : lt_z (pos 0) v ≡ true = rw (plain v g) at t in
        let z : to_z w64 (of_z w64 m) ≡ m = rw e' (plain (with_sign s n) (signed-fits s n f (omega (arith, a', d)))) in
        ap Some (z ∙ e' ∙ ap (λ (i : ℕ). with_sign s i) c') ∙ sym (rw u)

-- Of the sums as the program holds them.
pub mean-held : (s v x y : ℤ) → x ≡ s → y ≡ v → (r : Mean) → r ≡ mean_of x y → r ≡ mean_of s v
mean-held s v x y e f r q = rw (e, f) at q
