-- Powers of ten, and the number that digits make, one digit at a time. Assumes nothing.
use Prim.Native.Nat.{ℕ, zero, suc, ◌+◌, ◌-◌, ◌*◌, ◌<◌, ◌≤◌}
use mathlib.Core.Path.{◌≡◌, refl, sym, ap, ◌∙◌}
use mathlib.Core.List.{List, [], ◌∷◌, ◌++◌, append-nil}
use mathlib.Core.Bool.{Bool, true, false, ◌&&◌, false≢true}
use native.Mathlib.Nat.{le_refl, le_trans, mul_assoc, one-mul, mul-one, mul-le-mul_right, le-mul_of_pos_right, suc-add}
use native.Mathlib.Nat.{zero-add}
use native.Mathlib.Numerals.{add-one}
use native.Mathlib.Omega.{arith}
use borrow.Author.Tests.{le-leb, lt-leb, eq-eqb, ne_eqb, leb-true}
use lib.ListN.{length, get_or, take, drop, drop_of_length-le}
use lib.Seq.{drop-cons, take-length}
use lib.Dec.{leb, eqb}
use Rattle.ftd.specs.Values.{digit_of, is_number, point_at, without_point, is_float}
use Rattle.ftd.specs.Signed.{pow10, digits_of, signed_of, number_value, float_value}
use Rattle.ftd.proofs.values.Checks.{first, rest}
use Rattle.std.specs.Prelude.{None}
use Rattle.ftd.specs.Types.{MaybeSigned, some_signed}

-- ─── Powers of ten ───

pub pow10-some : (k : ℕ) → 0 < pow10 k
pow10-some zero = omega arith
pow10-some (suc k) = omega (arith, pow10-some k)

pub pow10-add : (m k : ℕ) → pow10 (m + k) ≡ pow10 m * pow10 k
pow10-add zero k = rw (zero-add, one-mul)
pow10-add (suc m) k = rw suc-add (ap (λ (x : ℕ). 10 * x) (pow10-add m k) ∙ sym (mul_assoc 10 (pow10 m) (pow10 k)))

pub pow10-le : (m k : ℕ) → m ≤ k → pow10 m ≤ pow10 k
pow10-le m k h =
    let e : k ≡ m + (k - m) = omega arith in
    let w : pow10 m ≤ pow10 m * pow10 (k - m) = le-mul_of_pos_right (pow10 m) (pow10-some (k - m)) in
    rw e (rw (pow10-add m (k - m)) w)

-- ─── One digit more ───

module _ (n i to b : ℕ) (h : i < to) (bound : (n + 1) * pow10 (to - i) ≤ b) where
  pub bound-turn : (d : ℕ) → d ≤ 9 → (n * 10 + d + 1) * pow10 (to - (i + 1)) ≤ b
  bound-turn d k =
      let s : to - i ≡ suc (to - (i + 1)) = omega arith in
      let p : ℕ = pow10 (to - (i + 1)) in
      let m : (n * 10 + d + 1) * p ≤ (n + 1) * 10 * p = mul-le-mul_right p (omega arith) in
      le_trans m (rw mul_assoc (rw s at bound))

  pub bound-digit : (d : ℕ) → d ≤ 9 → b ≤ pow10 18 → n * 10 + d < 1000000000000000000
  bound-digit d k f =
      let w : n * 10 + d + 1 ≤ (n * 10 + d + 1) * pow10 (to - (i + 1)) =
      le-mul_of_pos_right (n * 10 + d + 1) (pow10-some (to - (i + 1))) in
      let m : n * 10 + d + 1 ≤ b = le_trans w (bound-turn d k) in
      omega arith

module _ (s : List ℕ) (n i : ℕ) (t : ℕ) (inv : digits_of n (drop i s) ≡ t) where
  pub digits-turn : i < length s → (d : ℕ) → d ≡ digit_of (get_or s i 0) → digits_of (n * 10 + d) (drop (i + 1) s) ≡ t
  digits-turn h d e = rw (e, add-one) (rw (drop-cons s i 0 h) at inv)

  pub digits-end : length s ≤ i → n ≡ t
  digits-end h = rw (drop_of_length-le s h) at inv

pub bound-end : (n i to b : ℕ) → to ≤ i → (n + 1) * pow10 (to - i) ≤ b → n + 1 ≤ b
bound-end n i to b h p =
    let z : to - i ≡ 0 = omega arith in
    rw (z, mul-one) at p

-- ─── Two parts ───

pub digits_append : (n : ℕ) (a b : List ℕ) → digits_of n (a ++ b) ≡ digits_of (digits_of n a) b
digits_append n [] b = refl
digits_append n (d ∷ ds) b = digits_append (n * 10 + digit_of d) ds b

module _ (s : List ℕ) (from point behind : ℕ) (first : from ≤ point) (order : point ≤ behind) (fits : behind ≤ length s)
    (short : length s ≤ 18) where
  pub first-bound : (0 + 1) * pow10 (point - from) ≤ pow10 18
  first-bound = rw one-mul (pow10-le (point - from) 18 (omega arith))

  pub second-bound : (n : ℕ) → n + 1 ≤ (0 + 1) * pow10 (point - from) → (n + 1) * pow10 (length s - behind) ≤ pow10 18
  second-bound n h =
      let m : (n + 1) * pow10 (length s - behind) ≤ pow10 (point - from) * pow10 (length s - behind) =
      mul-le-mul_right (pow10 (length s - behind)) (rw one-mul at h) in
      le_trans (rw (← (pow10-add (point - from) (length s - behind))) at m)
      (pow10-le (point - from + (length s - behind)) 18 (omega arith))

pub parts-units : (s : List ℕ) (from point behind n r : ℕ) → n ≡ digits_of 0 (drop from (take point s))
    → r ≡ digits_of n (drop behind (take (length s) s)) → r ≡ digits_of 0 (drop from (take point s) ++ drop behind s)
parts-units s from point behind n r p q =
    rw (digits_append 0 (drop from (take point s)) (drop behind s), ← p) (rw take-length at q)

-- ─── The value ───

module _ (s : List ℕ) (point behind : ℕ) (low : 1 ≤ point) (order : point ≤ behind) (fits : behind ≤ length s) where
  pub value-minus : get_or s 0 0 ≡ 45 → (n : ℕ) → n ≡ digits_of 0 (drop 1 (take point s) ++ drop behind s)
      → some_signed true n ≡ signed_of (take point s ++ drop behind s)
  unfolding signed_of
  value-minus e n q = rw (first s point behind low order fits, eq-eqb _ _ e, rest s point behind low order fits, ← q)

  pub value-plain : (get_or s 0 0 ≡ 45 → ⊥) → (n : ℕ) → n ≡ digits_of 0 (drop 0 (take point s) ++ drop behind s)
      → some_signed false n ≡ signed_of (take point s ++ drop behind s)
  unfolding signed_of
  value-plain e n q = rw (first s point behind low order fits, ne_eqb _ _ e, ← q)

module _ (s : List ℕ) where
  pub number-long : 18 < length s → None ≡ number_value s
  unfolding number_value
  number-long h = rw (lt-leb (length s) 18 h)

  module _ (short : length s ≤ 18) (g : Bool) (q : g ≡ is_number s) where
    pub number-wrong : g ≡ false → None ≡ number_value s
    unfolding number_value
    number-wrong e = rw (le-leb (length s) 18 short, ← q, e)

    pub number_read : g ≡ true → (v : MaybeSigned) → v ≡ signed_of (take (length s) s ++ drop (length s) s)
        → v ≡ number_value s
    unfolding number_value
    number_read e v p =
        rw (le-leb (length s) 18 short, ← q, e)
        (rw (take-length, drop_of_length-le s (le_refl (length s)), append-nil) at p)

    -- A Number has a byte.
    pub number-some : g ≡ true → 1 ≤ length s
    unfolding is_number
    number-some e = go s (sym q ∙ e)
      where
        go : (l : List ℕ) → is_number l ≡ true → 1 ≤ length l
        go [] w = absurd (false≢true w)
        go (x ∷ xs) w = omega arith

module _ (s : List ℕ) (scale : ℕ) where
  pub float-long : 18 < length s → None ≡ float_value scale s
  unfolding float_value
  float-long h = rw (lt-leb (length s) 18 h)

  module _ (short : length s ≤ 18) (g : Bool) (q : g ≡ is_float scale s) where
    pub float-none : g ≡ false → None ≡ float_value scale s
    unfolding float_value
    float-none e = rw (le-leb (length s) 18 short, ← q, e)

    pub float_read : g ≡ true → (n : ℕ) → n ≡ scale → (v : MaybeSigned)
        → v ≡ signed_of (take (length s - (n + 1)) s ++ drop (length s - (n + 1) + 1) s) → v ≡ float_value scale s
    unfolding float_value without_point
    float_read e n x v p = rw (le-leb (length s) 18 short, ← q, e) (rw x at p)

    -- A Float has its point, its decimals and a byte before it.
    pub float-some : g ≡ true → scale + 2 ≤ length s
    unfolding is_float
    float-some e = go (leb (scale + 2) (length s)) refl (sym q ∙ e)
      where
        go : (b : Bool) → leb (scale + 2) (length s) ≡ b
            → (b && (eqb (get_or s (point_at scale s) 0) 46 && is_number (without_point scale s))) ≡ true
            → scale + 2 ≤ length s
        go true w v = leb-true (scale + 2) (length s) w
        go false w v = absurd (false≢true v)
