-- The round trips of Date. Assumes nothing.
use Prim.Native.Nat.{ℕ, zero, suc, ◌+◌, ◌*◌, ◌/◌, ◌%◌, ◌<◌, ◌≤◌}
use mathlib.Core.Path.{◌≡◌, refl, ◌∙◌}
use mathlib.Core.List.{List, [], ◌∷◌, ◌++◌}
use mathlib.Core.Bool.{Bool, true, false, cond, ◌&&◌, ◌||◌, false≢true}
use native.Mathlib.Omega.{arith}
use borrow.Author.Tests.{ne_eqb, eqb-true}
use lib.ListN.{length, get_or}
use lib.Dec.{eqb}
use Rattle.ftd.specs.Gregorian.{real_date}
use Rattle.ftd.specs.Values.{every, is_digit, is_space, two_digits, year_of, month_of, day_digits, is_date}
use Rattle.ftd.specs.Signed.Write.{digits_in}
use Rattle.ftd.specs.Dates.{date_value, date_bytes, date_fits}
use Rattle.ftd.specs.declared.dates.Date.{Date}
use Rattle.ftd.specs.declared.dates.Date.TheVariants.{NoDate, Unused, Day}
use Rattle.ftd.proofs.texts.Laws.{spaces-are}
use Rattle.ftd.proofs.gregorian.Laws.{real-bounds}
use Rattle.ftd.proofs.signed.Laws.{digit-right, digit-back, digit-bounds, digit-most}

-- ─── A day written is read back ───

two_back : (x : ℕ) → x < 100 → two_digits (48 + x / 10 % 10) (48 + x % 10) ≡ x
two_back x h = rw (digit-back (x / 10), digit-back x) (omega arith)

four-back : (x : ℕ) → x ≤ 9999
    → two_digits (48 + x / 10 / 10 / 10 % 10) (48 + x / 10 / 10 % 10) * 100 + two_digits (48 + x / 10 % 10)
    (48 + x % 10) ≡ x
four-back x h =
    rw (digit-back (x / 10 / 10 / 10), digit-back (x / 10 / 10), digit-back (x / 10), digit-back x) (omega arith)

no-space : (x : ℕ) → eqb (48 + x % 10) 32 ≡ false
no-space x = ne_eqb (48 + x % 10) 32 (λ e. omega arith)

-- Eight digits with a right month and day are that day.
day-value : (l : List ℕ) (y m d : ℕ) → length l ≡ 8 → every is_space l ≡ false → every is_digit l ≡ true
    → year_of l ≡ y → month_of l ≡ m → day_digits l ≡ d → real_date y m d ≡ true → date_value l ≡ Day y m d
unfolding date_value is_date
day-value l y m d n s g i j k r = rw (n, s, g, i, j, k, r)

day-back : (y m d : ℕ) → real_date y m d ≡ true → date_value (date_bytes (Day y m d)) ≡ Day y m d
unfolding date_bytes
day-back y m d r =
    let b = real-bounds y m d r in
    day-value (date_bytes (Day y m d)) y m d refl
    (rw (no-space (y / 10 / 10 / 10)))
    (rw (
      digit-right (y / 10 / 10 / 10),
      digit-right (y / 10 / 10),
      digit-right (y / 10),
      digit-right y,
      digit-right (m / 10),
      digit-right m,
      digit-right (d / 10),
      digit-right d,
    ))
    (four-back y b.last)
    (two_back m (omega arith))
    (two_back d (omega arith))
    r

pub date-back : (v : Date) → date_fits v ≡ true → date_value (date_bytes v) ≡ v
unfolding date_fits date_value date_bytes is_date
date-back NoDate e = absurd (false≢true e)
date-back Unused e = refl
date-back (Day y m d) e = day-back y m d e

-- ─── Bytes read are written again ───

every-at : (p : ℕ → Bool) (l : List ℕ) (i : ℕ) → every p l ≡ true → i < length l → p (get_or l i 0) ≡ true
every-at p [] i h k = absurd (omega arith)
every-at p (x ∷ xs) i h k = go i (p x) refl (λ j a b. every-at p xs j a b) h k
  where
    go : (i : ℕ) (b : Bool) → p x ≡ b → ((j : ℕ) → every p xs ≡ true → j < length xs → p (get_or xs j 0) ≡ true)
        → (b && every p xs) ≡ true
        → i < suc (length xs) → p (get_or (x ∷ xs) i 0) ≡ true
    go i false e ih h k = absurd (false≢true h)
    go zero true e ih h k = e
    go (suc j) true e ih h k = ih j h (omega arith)

two-again : (a b : ℕ) → is_digit a ≡ true → is_digit b ≡ true → digits_in 2 (two_digits a b) ≡ a ∷ b ∷ []
two-again a b p q =
    let x = digit-bounds a p in
    let y = digit-bounds b q in
    let s : 48 + two_digits a b / 10 % 10 ≡ a = rw (p, q) (omega arith) in
    let t : 48 + two_digits a b % 10 ≡ b = rw (p, q) (omega arith) in
    rw (s, t)

two-most : (a b : ℕ) → two_digits a b < 100
two-most a b = omega (arith, digit-most a, digit-most b)

four-again : (p q : ℕ) → p < 100 → q < 100 → digits_in 4 (p * 100 + q) ≡ digits_in 2 p ++ digits_in 2 q
four-again p q h k =
    let a : (p * 100 + q) / 10 / 10 / 10 % 10 ≡ p / 10 % 10 = omega arith in
    let b : (p * 100 + q) / 10 / 10 % 10 ≡ p % 10 = omega arith in
    let c : (p * 100 + q) / 10 % 10 ≡ q / 10 % 10 = omega arith in
    let d : (p * 100 + q) % 10 ≡ q % 10 = omega arith in
    rw (a, b, c, d)

eight : (l : List ℕ) → length l ≡ 8
    → get_or l 0 0 ∷ get_or l 1 0 ∷ get_or l 2 0 ∷ get_or l 3 0 ∷ get_or l 4 0 ∷ get_or l 5 0 ∷ get_or l 6 0 ∷ get_or l 7 0 ∷ [] ≡ l
eight ([]) p = absurd (omega arith)
eight (a ∷ []) p = absurd (omega arith)
eight (a ∷ b ∷ []) p = absurd (omega arith)
eight (a ∷ b ∷ c ∷ []) p = absurd (omega arith)
eight (a ∷ b ∷ c ∷ d ∷ []) p = absurd (omega arith)
eight (a ∷ b ∷ c ∷ d ∷ e ∷ []) p = absurd (omega arith)
eight (a ∷ b ∷ c ∷ d ∷ e ∷ f ∷ []) p = absurd (omega arith)
eight (a ∷ b ∷ c ∷ d ∷ e ∷ f ∷ g ∷ []) p = absurd (omega arith)
eight (a ∷ b ∷ c ∷ d ∷ e ∷ f ∷ g ∷ h ∷ []) p = refl
eight (a ∷ b ∷ c ∷ d ∷ e ∷ f ∷ g ∷ h ∷ i ∷ rest) p = absurd (omega arith)

all_three : (a x b y c z : List ℕ) → a ≡ x → b ≡ y → c ≡ z → a ++ (b ++ c) ≡ x ++ (y ++ z)
all_three a x b y c z p q r = rw (p, q, r)

both-two : (a x b y : List ℕ) → a ≡ x → b ≡ y → a ++ b ≡ x ++ y
both-two a x b y p q = rw (p, q)

day-again : (l : List ℕ) → length l ≡ 8 → every is_digit l ≡ true
    → date_bytes (Day (year_of l) (month_of l) (day_digits l)) ≡ l
unfolding date_bytes
day-again l n h =
    let at : (i : ℕ) → i < 8 → is_digit (get_or l i 0) ≡ true = λ i k. every-at is_digit l i h (rw n k) in
    let a : digits_in 2 (two_digits (get_or l 0 0) (get_or l 1 0)) ≡ get_or l 0 0 ∷ get_or l 1 0 ∷ [] =
    two-again (get_or l 0 0) (get_or l 1 0) (at 0 (omega arith)) (at 1 (omega arith)) in
    let b : digits_in 2 (two_digits (get_or l 2 0) (get_or l 3 0)) ≡ get_or l 2 0 ∷ get_or l 3 0 ∷ [] =
    two-again (get_or l 2 0) (get_or l 3 0) (at 2 (omega arith)) (at 3 (omega arith)) in
    let y =
    four-again (two_digits (get_or l 0 0) (get_or l 1 0)) (two_digits (get_or l 2 0) (get_or l 3 0))
    (two-most (get_or l 0 0) (get_or l 1 0)) (two-most (get_or l 2 0) (get_or l 3 0)) ∙ both-two _ _ _ _ a b in
    let m = two-again (get_or l 4 0) (get_or l 5 0) (at 4 (omega arith)) (at 5 (omega arith)) in
    let d = two-again (get_or l 6 0) (get_or l 7 0) (at 6 (omega arith)) (at 7 (omega arith)) in
    all_three _ _ _ _ _ _ y m d ∙ eight l n

unused-again : (l : List ℕ) → length l ≡ 8 → every is_space l ≡ true → (date_fits Unused ≡ true) × (date_bytes Unused ≡ l)
unfolding date_fits date_bytes
unused-again l n s = (refl, rw n at (spaces-are l s))

day-good : (l : List ℕ) → length l ≡ 8 → every is_digit l ≡ true
    → real_date (year_of l) (month_of l) (day_digits l) ≡ true
    → (date_fits (Day (year_of l) (month_of l) (day_digits l)) ≡ true)
    × (date_bytes (Day (year_of l) (month_of l) (day_digits l)) ≡ l)
unfolding date_fits
day-good l n h r = (r, day-again l n h)

pub date-again : (l : List ℕ) → is_date l ≡ true → (date_fits (date_value l) ≡ true) × (date_bytes (date_value l) ≡ l)
unfolding date_value is_date
date-again l e =
    go (eqb (length l) 8) refl (every is_space l) refl (every is_digit l) refl
    (real_date (year_of l) (month_of l) (day_digits l)) refl e
  where
    go : (a : Bool) → eqb (length l) 8 ≡ a → (b : Bool) → every is_space l ≡ b → (c : Bool) → every is_digit l ≡ c
        → (d : Bool) → real_date (year_of l) (month_of l) (day_digits l) ≡ d → (a && (b || (c && d))) ≡ true
        → (date_fits
        (cond (a && (b || (c && d))) (cond b Unused (Day (year_of l) (month_of l) (day_digits l))) NoDate) ≡ true)
        × (date_bytes
        (cond (a && (b || (c && d))) (cond b Unused (Day (year_of l) (month_of l) (day_digits l))) NoDate) ≡ l)
    go true p true q c r d s h = unused-again l (eqb-true (length l) 8 p) q
    go true p false q true r true s h = day-good l (eqb-true (length l) 8 p) r s
    go true p false q true r false s h = absurd (false≢true h)
    go true p false q false r d s h = absurd (false≢true h)
    go false p b q c r d s h = absurd (false≢true h)
