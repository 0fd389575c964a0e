-- Values of Date: what reader and writer decide, and the round trips. Assumes nothing.
use Prim.Native.Nat.{ℕ, ◌-◌, ◌≤◌}
use mathlib.Core.Path.{◌≡◌, refl, sym, ap, ◌∙◌}
use mathlib.Core.List.{List, ◌++◌}
use mathlib.Core.Bool.{Bool, true, false, ◌&&◌, ◌||◌, false≢true}
use native.Mathlib.Omega.{arith}
use borrow.Author.Tests.{eqb-true}
use lib.ListN.{length, take, drop, replicate}
use lib.Seq.{take-length}
use lib.Dec.{eqb}
use Rattle.ftd.specs.Bytes.{put}
use Rattle.ftd.specs.Gregorian.{real_date}
use Rattle.ftd.specs.Values.{every, is_digit, is_space, year_of, month_of, day_digits, is_date}
use Rattle.ftd.specs.Values.Helpers.{in_class}
use Rattle.ftd.specs.Signed.Write.{digits_in}
use Rattle.ftd.specs.Dates.{date_value, date_bytes, date_fits}
use Rattle.ftd.specs.declared.values.Class.TheVariants.{Space}
use Rattle.ftd.specs.declared.dates.Date.{Date}
use Rattle.ftd.specs.declared.dates.Date.TheVariants.{NoDate, Unused, Day}
use Rattle.ftd.proofs.bytes.Put.{put-put}
use Rattle.ftd.proofs.signed.Stores.{put-none}

-- ─── Reading ───

module _ (s : List ℕ) (f : Bool) (q : f ≡ is_date s) where
  pub date-none : f ≡ false → NoDate ≡ date_value s
  unfolding date_value
  date-none e = rw (← q, e)

  module _ (e : f ≡ true) where
    pub date-eight : length s ≡ 8
    unfolding is_date
    date-eight = go (eqb (length s) 8) refl (sym q ∙ e)
      where
        go : (b : Bool) → eqb (length s) 8 ≡ b
            → (b && (every is_space s || (every is_digit s && real_date (year_of s) (month_of s) (day_digits s)))) ≡ true
            → length s ≡ 8
        go true p h = eqb-true (length s) 8 p
        go false p h = absurd (false≢true h)

    module _ (a : Bool) (p : a ≡ every (in_class Space) (drop 0 (take (length s) s))) where
      pub date-unused : a ≡ true → Unused ≡ date_value s
      unfolding date_value
      date-unused w = rw (← q, e, ← (rw take-length at p), w)

      pub date-day : a ≡ false → (v : Date) → v ≡ Day (year_of s) (month_of s) (day_digits s) → v ≡ date_value s
      unfolding date_value
      date-day w v i = rw (← q, e, ← (rw take-length at p), w) i

-- ─── Writing ───

module _ (v : Date) where
  pub no-date : v ≡ NoDate → false ≡ date_fits v
  unfolding date_fits
  no-date e = rw e

  pub unused-date : v ≡ Unused → true ≡ date_fits v
  unfolding date_fits
  unused-date e = rw e

  module _ (y m d : ℕ) (e : v ≡ Day y m d) where
    pub day-fits : (y₀ m₀ d₀ : ℕ) → y₀ ≡ y → m₀ ≡ m → d₀ ≡ d → (r : Bool) → r ≡ real_date y₀ m₀ d₀ → r ≡ date_fits v
    unfolding date_fits
    day-fits y₀ m₀ d₀ i j k r q = rw (e, ← i, ← j, ← k) q

    pub put-the-day : (out a : List ℕ) → a ≡ put out 0 (date_bytes (Day y m d)) → a ≡ put out 0 (date_bytes v)
    put-the-day out a q = rw e q

  pub put-nothing : v ≡ NoDate → (out : List ℕ) → out ≡ put out 0 (date_bytes v)
  unfolding date_bytes
  put-nothing e out = rw (e, put-none out 0)

  pub put-unused : v ≡ Unused → (out a : List ℕ) → a ≡ put out 0 (replicate (8 - 0) 32) → a ≡ put out 0 (date_bytes v)
  unfolding date_bytes
  put-unused e out a q = rw e q

  -- Eight bytes.
  pub date-wide : (f : Bool) → f ≡ date_fits v → f ≡ true → length (date_bytes v) ≡ 8
  unfolding date_fits date_bytes
  date-wide f q e = go v (sym q ∙ e)
    where
      go : (v : Date) → date_fits v ≡ true → length (date_bytes v) ≡ 8
      go NoDate h = absurd (false≢true h)
      go Unused h = refl
      go (Day y m d) h = refl

pub put_three : (out : List ℕ) → 8 ≤ length out → (y m d : ℕ) (a b c : List ℕ)
    → a ≡ put out 0 (digits_in 4 y) → b ≡ put a 4 (digits_in 2 m) → c ≡ put b 6 (digits_in 2 d)
    → c ≡ put out 0 (date_bytes (Day y m d))
unfolding date_bytes
put_three out h y m d a b c p q r =
    r ∙ rw (q, p)
    (ap (λ (l : List ℕ). put l 6 (digits_in 2 d)) (put-put out 0 (digits_in 4 y) (digits_in 2 m) (omega arith))
    ∙ put-put out 0 (digits_in 4 y ++ digits_in 2 m) (digits_in 2 d) (omega arith))
