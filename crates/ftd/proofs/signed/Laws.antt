-- The round trips of Number and Float. Assumes nothing.
use Prim.Native.Nat.{ℕ, zero, suc, ◌+◌, ◌-◌, ◌*◌, ◌/◌, ◌%◌, ◌<◌, ◌≤◌}
use mathlib.Core.Path.{◌≡◌, refl, sym, ap, ◌∙◌}
use mathlib.Core.List.{List, [], ◌∷◌, ◌++◌, append_assoc, append-nil}
use mathlib.Core.Bool.{Bool, true, false, cond, not, ◌&&◌, false≢true}
use native.Mathlib.Nat.{add-zero, add-suc, one-mul, mul_comm, div-div-eq-div-mul, div-lt_iff_lt-mul}
use native.Mathlib.Numerals.{add-one}
use native.Mathlib.Omega.{arith}
use borrow.Author.Tests.{lt-ltb, le-leb, leb-true, ltb-true, ne_eqb, eqb-true}
use lib.ListN.{length, get_or, take, drop, length-append, length-drop, take-append-drop}
use lib.Seq.{take_at, drop_at, get_or_at, drop-cons, length-take-le}
use lib.Dec.{leb, ltb, eqb}
use Rattle.ftd.specs.Values.{every, is_digit, is_zero, digit_of, is_number, point_at, without_point, is_float}
use Rattle.ftd.specs.Signed.{pow10, digits_of, signed_of, number_value, float_value}
use Rattle.ftd.specs.Signed.Write.{digits_in, number_bytes, number_fits, float_bytes, float_fits}
use Rattle.ftd.proofs.values.Checks.{every_append}
use Rattle.ftd.proofs.signed.Powers.{pow10-some, digits_append}
use Rattle.ftd.proofs.signed.Stores.{digits-length, fits-some, number-length, float_fits-parts, float-length}
use Rattle.std.specs.Prelude.{None}
use Rattle.ftd.specs.Types.{MaybeSigned, some_signed}
use Rattle.ftd.proofs.Options.{same-signed}

-- ─── Digits written and read ───

-- A digit written is a digit, and stands for what was written.
pub digit-right : (x : ℕ) → is_digit (48 + x % 10) ≡ true
digit-right x = rw (le-leb 48 (48 + x % 10) (omega arith), le-leb (48 + x % 10) 57 (omega arith))

pub digit-back : (x : ℕ) → digit_of (48 + x % 10) ≡ x % 10
digit-back x = rw (digit-right x) (omega arith)

digits-right : (n x : ℕ) → every is_digit (digits_in n x) ≡ true
digits-right zero x = refl
digits-right (suc n) x =
    rw (every_append is_digit (digits_in n (x / 10)) ((48 + x % 10) ∷ []), digits-right n (x / 10), digit-right x)

digits-back : (n x : ℕ) → x < pow10 n → digits_of 0 (digits_in n x) ≡ x
digits-back zero x h = omega arith
digits-back (suc n) x h =
    rw (digits_append 0 (digits_in n (x / 10)) ((48 + x % 10) ∷ []), digits-back n (x / 10) (omega arith), digit-back x)
    (omega arith)

-- Digits that are all 0 stand for 0.
zeros : (l : List ℕ) → every is_zero l ≡ true → digits_of 0 l ≡ 0
zeros [] h = refl
zeros (d ∷ ds) h = go (eqb d 48) refl (λ k. zeros ds k) h
  where
    go : (b : Bool) → eqb d 48 ≡ b → (every is_zero ds ≡ true → digits_of 0 ds ≡ 0) → (b && every is_zero ds) ≡ true
        → digits_of (0 * 10 + digit_of d) ds ≡ 0
    go true e ih k = rw (eqb-true d 48 e) (ih k)
    go false e ih k = absurd (false≢true k)

pub digit-most : (b : ℕ) → digit_of b ≤ 9
digit-most b = go (leb 48 b) (leb b 57) refl
  where
    go : (p q : Bool) → leb b 57 ≡ q → cond (p && q) (b - 48) 0 ≤ 9
    go true true e = omega (arith, leb-true b 57 e)
    go true false e = omega arith
    go false q e = omega arith

-- Without its digits, a number is what stood before them.
digits_div : (ds : List ℕ) (m : ℕ) → digits_of m ds / pow10 (length ds) ≡ m
digits_div [] m = omega arith
digits_div (d ∷ ds) m =
    let x : ℕ = digits_of (m * 10 + digit_of d) ds in
    let e : x / pow10 (length ds) / 10 ≡ x / (10 * pow10 (length ds)) =
    div-div-eq-div-mul x (pow10 (length ds)) 10 ∙ ap (λ (k : ℕ). x / k) (mul_comm (pow10 (length ds)) 10) in
    sym e ∙ ap (λ (k : ℕ). k / 10) (digits_div ds (m * 10 + digit_of d)) ∙ omega (arith, digit-most d)

-- The first of n + 1 digits, and the others.
digits-first : (n x : ℕ) → digits_in (suc n) x ≡ (48 + x / pow10 n % 10) ∷ digits_in n x
digits-first zero x =
    let e : x / 1 ≡ x = omega arith in
    rw e
digits-first (suc n) x =
    let e : x / 10 / pow10 n ≡ x / (10 * pow10 n) = div-div-eq-div-mul x 10 (pow10 n) in
    rw (digits-first n (x / 10), e)

pub digit-bounds : (d : ℕ) → is_digit d ≡ true → (48 ≤ d) × (d ≤ 57)
digit-bounds d e = go (leb 48 d) refl (leb d 57) refl e
  where
    go : (a : Bool) → leb 48 d ≡ a → (b : Bool) → leb d 57 ≡ b → (a && b) ≡ true → (48 ≤ d) × (d ≤ 57)
    go true p true q e = (leb-true 48 d p, leb-true d 57 q)
    go true p false q e = absurd (false≢true e)
    go false p b q e = absurd (false≢true e)

digits-again : (ds : List ℕ) → every is_digit ds ≡ true → (m : ℕ) → digits_in (length ds) (digits_of m ds) ≡ ds
digits-again [] h m = refl
digits-again (d ∷ ds) h m = go (is_digit d) refl (λ k. digits-again ds k (m * 10 + digit_of d)) h
  where
    go : (b : Bool) → is_digit d ≡ b
        → (every is_digit ds ≡ true → digits_in (length ds) (digits_of (m * 10 + digit_of d) ds) ≡ ds)
        → (b && every is_digit ds) ≡ true → digits_in (suc (length ds)) (digits_of (m * 10 + digit_of d) ds) ≡ d ∷ ds
    go true e ih k =
        let b = digit-bounds d e in
        let f : 48 + (m * 10 + digit_of d) % 10 ≡ d = rw e (omega arith) in
        digits-first (length ds) (digits_of (m * 10 + digit_of d) ds) ∙ rw (digits_div ds (m * 10 + digit_of d), ih k, f)
    go false e ih k = absurd (false≢true k)

digits-below : (ds : List ℕ) → digits_of 0 ds < pow10 (length ds)
digits-below ds =
    let h : digits_of 0 ds / pow10 (length ds) < 1 = rw (digits_div ds 0) (omega arith) in
    rw one-mul at ((div-lt_iff_lt-mul (pow10-some (length ds))).0 h)

-- Digits that stand for 0 are all 0.
all-zero : (n : ℕ) → every is_zero (digits_in n 0) ≡ true
all-zero zero = refl
all-zero (suc n) = rw (every_append is_zero (digits_in n 0) (48 ∷ []), all-zero n)

some-digit : (ds : List ℕ) → every is_digit ds ≡ true → every is_zero ds ≡ false → 0 < digits_of 0 ds
some-digit ds h w = go (digits_of 0 ds) refl
  where
    go : (x : ℕ) → digits_of 0 ds ≡ x → 0 < x
    go zero e = absurd (false≢true (sym w ∙ (rw (digits-again ds h 0) at (rw (← e) at (all-zero (length ds))))))
    go (suc x) e = omega arith

not_zeros : (n x : ℕ) → x < pow10 n → 0 < x → every is_zero (digits_in n x) ≡ false
not_zeros n x h k = go (every is_zero (digits_in n x)) refl
  where
    go : (b : Bool) → every is_zero (digits_in n x) ≡ b → b ≡ false
    go true e = absurd (omega (arith, sym (digits-back n x h) ∙ zeros (digits_in n x) e))
    go false e = refl

-- A digit is no '-'.
no_minus : (l : List ℕ) → every is_digit l ≡ true → eqb (get_or l 0 0) 45 ≡ false
no_minus [] h = refl
no_minus (x ∷ xs) h = go (is_digit x) refl h
  where
    go : (b : Bool) → is_digit x ≡ b → (b && every is_digit xs) ≡ true → eqb x 45 ≡ false
    go true e k = ne_eqb x 45 (λ z. omega (arith, (digit-bounds x e).0))
    go false e k = absurd (false≢true k)

-- ─── Number ───

-- What fits is held by its digits, and is no minus zero.
module _ (width units : ℕ) where
  fits_negative : number_fits width true units ≡ true → (0 < units) × (units < pow10 (width - 1))
  unfolding number_fits
  fits_negative e =
      let b = fits-some width true units e in
      go (ltb 0 units) refl (ltb units (pow10 (width - 1))) refl
      (rw (le-leb width 18 b.1, le-leb 1 width b.0) at e)
    where
      go : (p : Bool) → ltb 0 units ≡ p → (q : Bool) → ltb units (pow10 (width - 1)) ≡ q → (p && q) ≡ true
          → (0 < units) × (units < pow10 (width - 1))
      go true e true f h = (ltb-true 0 units e, ltb-true units (pow10 (width - 1)) f)
      go true e false f h = absurd (false≢true h)
      go false e q f h = absurd (false≢true h)

  fits-positive : number_fits width false units ≡ true → units < pow10 width
  unfolding number_fits
  fits-positive e =
      let b = fits-some width false units e in
      ltb-true units (pow10 width) (rw (le-leb width 18 b.1, le-leb 1 width b.0) at e)

pub number-back : (width : ℕ) (negative : Bool) (units : ℕ) → number_fits width negative units ≡ true
    → number_value (number_bytes width negative units) ≡ some_signed negative units
unfolding number_bytes number_value signed_of is_number
number-back width true units e =
    let b = fits-some width true units e in
    let f = fits_negative width units e in
    let d : List ℕ = digits_in (width - 1) units in
    let n : length d ≤ 17 = rw (digits-length (width - 1) units) (omega arith) in
    rw (
      le-leb (suc (length d)) 18 (omega arith),
      digits-right (width - 1) units,
      not_zeros (width - 1) units f.1
          f.0,
      digits-back (width - 1) units f.1,
    )
number-back width false units e =
    let b = fits-some width false units e in
    let n : length (digits_in width units) ≡ width = digits-length width units in
    rw (
      n,
      le-leb width 18 b.1,
      no_minus (digits_in width units) (digits-right width units),
      lt-ltb 0 width b.0,
      digits-right width units,
      digits-back width units (fits-positive width units e),
    )

-- Bytes with a value are at most 18, and a Number.
value-parts : (g : Bool) (short : ℕ) (v : MaybeSigned) (negative : Bool) (units : ℕ)
    → cond (leb short 18 && g) v None ≡ some_signed negative units
    → (short ≤ 18) × (g ≡ true) × (v ≡ some_signed negative units)
value-parts g short v negative units e = go (leb short 18) refl g e
  where
    none : None ≡ some_signed negative units → ⊥
    none p = let z : ◌≡◌ {A = ℕ} 0 1 = cc in omega arith

    go : (a : Bool) → leb short 18 ≡ a → (g : Bool) → cond (a && g) v None ≡ some_signed negative units
        → (short ≤ 18) × (g ≡ true) × (v ≡ some_signed negative units)
    go true p true e = (leb-true short 18 p, refl, e)
    go true p false e = absurd (none e)
    go false p g e = absurd (none e)

number-parts : (l : List ℕ) (negative : Bool) (units : ℕ) → number_value l ≡ some_signed negative units
    → (length l ≤ 18) × (is_number l ≡ true) × (signed_of l ≡ some_signed negative units)
unfolding number_value
number-parts l negative units e = value-parts (is_number l) (length l) (signed_of l) negative units e

-- The bytes of a Number are those that its value writes.
number_same : (l : List ℕ) (negative : Bool) (units : ℕ) → length l ≤ 18 → is_number l ≡ true
    → signed_of l ≡ some_signed negative units
    → (number_fits (length l) negative units ≡ true) × (number_bytes (length l) negative units ≡ l)
unfolding is_number signed_of number_fits number_bytes
number_same [] negative units s g v = absurd (false≢true g)
number_same (x ∷ xs) negative units s g v = go (eqb x 45) refl g v
  where
    short : leb (suc (length xs)) 18 ≡ true
    short = le-leb (suc (length xs)) 18 s

    low : leb 1 (suc (length xs)) ≡ true
    low = le-leb 1 (suc (length xs)) (omega arith)

    less : suc (length xs) - 1 ≡ length xs
    less = omega arith

    minus : x ≡ 45 → every is_digit xs ≡ true → every is_zero xs ≡ false
        → some_signed true (digits_of 0 xs) ≡ some_signed negative units
        → (number_fits (suc (length xs)) negative units ≡ true) × (number_bytes (suc (length xs)) negative units ≡ x ∷ xs)
    minus e d z v =
        let n : true ≡ negative = (same-signed _ _ _ _ v).0 in
        let u : digits_of 0 xs ≡ units = (same-signed _ _ _ _ v).1 in (
          rw (
            ← n,
            ← u,
            short,
            low,
            less,
            lt-ltb 0 (digits_of 0 xs) (some-digit xs d z),
            lt-ltb (digits_of 0 xs)
                (pow10 (length xs)) (digits-below xs),
          ),
          rw (← n, ← u, less, digits-again xs d 0, e),
        )

    plain : every is_digit (x ∷ xs) ≡ true → some_signed false (digits_of 0 (x ∷ xs)) ≡ some_signed negative units
        → (number_fits (suc (length xs)) negative units ≡ true) × (number_bytes (suc (length xs)) negative units ≡ x ∷ xs)
    plain d v =
        let n : false ≡ negative = (same-signed _ _ _ _ v).0 in
        let u : digits_of 0 (x ∷ xs) ≡ units = (same-signed _ _ _ _ v).1 in (
          rw (← n, ← u, short, low, lt-ltb (digits_of 0 (x ∷ xs)) (pow10 (suc (length xs))) (digits-below (x ∷ xs))),
          rw
              (← n, ← u) (digits-again (x ∷ xs) d 0),
        )

    split : (d z : Bool) → every is_digit xs ≡ d → every is_zero xs ≡ z → (d && not z) ≡ true → x ≡ 45
        → some_signed true (digits_of 0 xs) ≡ some_signed negative units
        → (number_fits (suc (length xs)) negative units ≡ true) × (number_bytes (suc (length xs)) negative units ≡ x ∷ xs)
    split true false d z g e v = minus e d z v
    split true true d z g e v = absurd (false≢true g)
    split false z d w g e v = absurd (false≢true g)

    go : (b : Bool) → eqb x 45 ≡ b → cond b (every is_digit xs && not (every is_zero xs))
        (ltb 0 (suc (length xs)) && every is_digit (x ∷ xs)) ≡ true
        → cond b (some_signed true (digits_of 0 xs)) (some_signed false (digits_of 0 (x ∷ xs))) ≡ some_signed negative units
        → (number_fits (suc (length xs)) negative units ≡ true) × (number_bytes (suc (length xs)) negative units ≡ x ∷ xs)
    go true e g v = split (every is_digit xs) (every is_zero xs) refl refl g (eqb-true x 45 e) v
    go false e g v = plain (rw (lt-ltb 0 (suc (length xs)) (omega arith)) at g) v

pub number-again : (l : List ℕ) (negative : Bool) (units : ℕ) → number_value l ≡ some_signed negative units
    → (number_fits (length l) negative units ≡ true) × (number_bytes (length l) negative units ≡ l)
number-again l negative units e =
    let p = number-parts l negative units e in
    number_same l negative units p.0 p.1 p.2

-- ─── Float ───

-- Digits in two parts.
digits-split : (a b x : ℕ) → digits_in (a + b) x ≡ digits_in a (x / pow10 b) ++ digits_in b x
digits-split a zero x =
    let e : x / 1 ≡ x = omega arith in
    rw (add-zero, e, append-nil)
digits-split a (suc b) x =
    let e : x / 10 / pow10 b ≡ x / (10 * pow10 b) = div-div-eq-div-mul x 10 (pow10 b) in
    rw (add-suc, digits-split a b (x / 10), e)
    (append_assoc (digits_in a (x / (10 * pow10 b))) (digits_in b (x / 10)) ((48 + x % 10) ∷ []))

number-split : (p s : ℕ) (negative : Bool) (units : ℕ) → 1 ≤ p
    → number_bytes (p + s) negative units ≡ number_bytes p negative (units / pow10 s) ++ digits_in s units
unfolding number_bytes
number-split p s true units h =
    let e : p + s - 1 ≡ p - 1 + s = omega arith in
    rw (e, digits-split (p - 1) s units)
number-split p s false units h = digits-split p s units

module _ (scale width : ℕ) (negative : Bool) (units : ℕ) (low : scale + 2 ≤ width) where
  point : ℕ
  point = width - (scale + 1)

  before : List ℕ
  before = number_bytes point negative (units / pow10 scale)

  before-length : length before ≡ point
  unfolding before point
  before-length = number-length (width - (scale + 1)) negative (units / pow10 scale) (omega arith)

  joined_bytes : before ++ digits_in scale units ≡ number_bytes (width - 1) negative units
  unfolding before point
  joined_bytes =
      let e : width - 1 ≡ width - (scale + 1) + scale = omega arith in
      rw e (sym (number-split (width - (scale + 1)) scale negative units (omega arith)))

  point-there : get_or (float_bytes scale width negative units) point 0 ≡ 46
  unfolding float_bytes before point
  point-there = get_or_at before 46 (digits_in scale units) 0 point before-length

  point-out : take point (float_bytes scale width negative units) ++ drop (point + 1)
      (float_bytes scale width negative units) ≡ number_bytes (width - 1) negative units
  unfolding float_bytes before point
  point-out =
      let n : length (before ++ (46 ∷ [])) ≡ point + 1 = rw (length-append, before-length) in
      let d : drop (point + 1) (before ++ (46 ∷ digits_in scale units)) ≡ digits_in scale units =
      rw (append_assoc before (46 ∷ []) (digits_in scale units)) at (drop_at (before ++ (46 ∷ [])) (digits_in scale units)
      (point + 1) n) in
      rw (take_at before (46 ∷ digits_in scale units) point before-length, d) joined_bytes

pub float_back : (scale width : ℕ) (negative : Bool) (units : ℕ) → float_fits scale width negative units ≡ true
    → float_value scale (float_bytes scale width negative units) ≡ some_signed negative units
unfolding float_value is_float without_point point
float_back scale width negative units e =
    let f = float_fits-parts scale width negative units e in
    let b =
    number-parts (number_bytes (width - 1) negative units) negative units
    (number-back (width - 1) negative units f.2) in
    rw (
      float-length scale width negative units f.0,
      le-leb width 18 f.1,
      le-leb (scale + 2) width f.0,
      point-there scale width negative units f.0,
      point-out scale width negative units f.0,
      b.1,
    )
    b.2

-- What a Float's bytes have: their width, the point, and a Number without it.
float-parts : (scale : ℕ) (l : List ℕ) → is_float scale l ≡ true
    → (scale + 2 ≤ length l) × (get_or l (point_at scale l) 0 ≡ 46) × (is_number (without_point scale l) ≡ true)
unfolding is_float
float-parts scale l e = go (leb (scale + 2) (length l)) refl (eqb (get_or l (point_at scale l) 0) 46) refl e
  where
    go : (a : Bool) → leb (scale + 2) (length l) ≡ a → (b : Bool) → eqb (get_or l (point_at scale l) 0) 46 ≡ b
        → (a && (b && is_number (without_point scale l))) ≡ true
        → (scale + 2 ≤ length l) × (get_or l (point_at scale l) 0 ≡ 46) × (is_number (without_point scale l) ≡ true)
    go true p true q e = (leb-true (scale + 2) (length l) p, eqb-true (get_or l (point_at scale l) 0) 46 q, e)
    go true p false q e = absurd (false≢true e)
    go false p b q e = absurd (false≢true e)

-- Lists joined that are the same are the same in both parts.
same-front : (a b c d : List ℕ) → length a ≡ length c → a ++ b ≡ c ++ d → a ≡ c
same-front a b c d n e =
    sym (take_at a b (length c) n) ∙ ap (take (length c)) e ∙ take_at c d (length c) refl

same_back : (a b c d : List ℕ) → length a ≡ length c → a ++ b ≡ c ++ d → b ≡ d
same_back a b c d n e =
    sym (drop_at a b (length c) n) ∙ ap (drop (length c)) e ∙ drop_at c d (length c) refl

pub float-again : (scale : ℕ) (l : List ℕ) (negative : Bool) (units : ℕ) → float_value scale l ≡ some_signed negative units
    → (float_fits scale (length l) negative units ≡ true) × (float_bytes scale (length l) negative units ≡ l)
unfolding float_value float_fits float_bytes without_point
float-again scale l negative units e =
    let v = value-parts (is_float scale l) (length l) (signed_of (without_point scale l)) negative units e in
    let f = float-parts scale l v.1 in
    let low : scale + 2 ≤ length l = f.0 in
    let p : ℕ = length l - (scale + 1) in
    let a : length (take p l) ≡ p = length-take-le p l (omega arith) in
    let n : length (take p l ++ drop (p + 1) l) ≡ length l - 1 = rw (length-append, a, length-drop) (omega arith) in
    let s = number_same (take p l ++ drop (p + 1) l) negative units (rw n (omega arith)) f.2 v.2 in
    let h : number_fits (length l - 1) negative units ≡ true = rw n at s.0 in
    let k : length l - 1 ≡ p + scale = omega arith in
    let j : number_bytes p negative (units / pow10 scale) ++ digits_in scale units ≡ take p l ++ drop (p + 1) l =
    sym (number-split p scale negative units (omega arith)) ∙ (rw (n, k) at s.1) in
    let m : length (number_bytes p negative (units / pow10 scale)) ≡ length (take p l) =
    rw a (number-length p negative (units / pow10 scale) (omega arith)) in
    let x : number_bytes p negative (units / pow10 scale) ≡ take p l = same-front _ _ _ _ m j in
    let y : digits_in scale units ≡ drop (p + 1) l =
    same_back (number_bytes p negative (units / pow10 scale)) _ (take p l) _ m j in
    let z : drop p l ≡ 46 ∷ drop (p + 1) l = rw (add-one p) (rw f.1 at (drop-cons l p 0 (omega arith))) in
    (rw (le-leb (scale + 2) (length l) low, le-leb (length l) 18 v.0) h, rw (x, y, ← z) (take-append-drop p l))
