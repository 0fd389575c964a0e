-- Real dates: the days of a month, and the bounds of each part. Assumes nothing.
use Prim.Native.Nat.{ℕ, zero, suc, ◌-◌, ◌≤◌}
use native.Mathlib.Omega.{arith}
use mathlib.Core.Path.{◌≡◌, refl}
use mathlib.Core.List.{List, ◌∷◌}
use mathlib.Core.Bool.{Bool, true, false, cond, ◌&&◌, false≢true}
use borrow.Author.Tests.{leb-true}
use lib.ListN.{get_or, drop}
use lib.Dec.{leb}
use Rattle.ftd.specs.Gregorian.{leap_year, months_by, months, month_days, real_date}

-- The second element alone differs.
second-alone : (a x y : ℕ) (l : List ℕ) (i : ℕ) → (i ≡ 1 → ⊥) → get_or (a ∷ x ∷ l) i 0 ≡ get_or (a ∷ y ∷ l) i 0
second-alone a x y l zero h = refl
second-alone a x y l (suc zero) h = absurd (h refl)
second-alone a x y l (suc (suc i)) h = refl

module _ (y m : ℕ) where
  -- February.
  module _ (e : m ≡ 2) (leap : Bool) (q : leap ≡ leap_year y) where
    pub february-long : leap ≡ true → 29 ≡ month_days y m
    unfolding month_days months
    february-long w = rw (e, ← q, w)

    pub february-short : leap ≡ false → 28 ≡ month_days y m
    unfolding month_days months
    february-short w = rw (e, ← q, w)

  -- Any other month is as long in every year.
  pub other-month : 1 ≤ m → (m ≡ 2 → ⊥) → get_or (months_by false) (m - 1) 0 ≡ month_days y m
  unfolding month_days months
  other-month h n =
      second-alone 31 28 (cond (leap_year y) 29 28) (drop 2 (months_by false)) (m - 1) (λ e. n (omega arith))

-- At most 31 days.
most : (leap : Bool) (i : ℕ) → get_or (months_by leap) i 0 ≤ 31
most leap zero = omega arith
most true (suc zero) = omega arith
most false (suc zero) = omega arith
most leap (suc (suc zero)) = omega arith
most leap (suc (suc (suc zero))) = omega arith
most leap (suc (suc (suc (suc zero)))) = omega arith
most leap (suc (suc (suc (suc (suc zero))))) = omega arith
most leap (suc (suc (suc (suc (suc (suc zero)))))) = omega arith
most leap (suc (suc (suc (suc (suc (suc (suc zero))))))) = omega arith
most leap (suc (suc (suc (suc (suc (suc (suc (suc zero)))))))) = omega arith
most leap (suc (suc (suc (suc (suc (suc (suc (suc (suc zero))))))))) = omega arith
most leap (suc (suc (suc (suc (suc (suc (suc (suc (suc (suc zero)))))))))) = omega arith
most leap (suc (suc (suc (suc (suc (suc (suc (suc (suc (suc (suc zero))))))))))) = omega arith
most leap (suc (suc (suc (suc (suc (suc (suc (suc (suc (suc (suc (suc i)))))))))))) = omega arith

-- The bounds of a real date's parts.
pub record Bounds (y m d : ℕ) : Type 0 where
  pub first : 1601 ≤ y
  pub last : y ≤ 9999
  pub month : 1 ≤ m
  pub twelve : m ≤ 12
  pub day : 1 ≤ d
  pub within : d ≤ month_days y m
  pub most : d ≤ 31

pub month-most : (y m : ℕ) → month_days y m ≤ 31
unfolding month_days months
month-most y m = most (leap_year y) (m - 1)

pub real-bounds : (y m d : ℕ) → real_date y m d ≡ true → Bounds y m d
unfolding real_date
real-bounds y m d e =
    go (leb 1601 y) refl (leb y 9999) refl (leb 1 m) refl (leb m 12) refl (leb 1 d) refl (leb d (month_days y m)) refl e
  where
    go : (a : Bool) → leb 1601 y ≡ a → (b : Bool) → leb y 9999 ≡ b → (f : Bool) → leb 1 m ≡ f
        → (g : Bool) → leb m 12 ≡ g → (h : Bool) → leb 1 d ≡ h → (i : Bool) → leb d (month_days y m) ≡ i
        → ((a && b) && ((f && g) && (h && i))) ≡ true → Bounds y m d
    go true p true q true r true s true t true u e =
        let under = leb-true d (month_days y m) u in
        let long = month-most y m in
        record {
          first = leb-true 1601 y p;
          last = leb-true y 9999 q;
          month = leb-true 1 m r;
          twelve = leb-true m 12 s;
          day = leb-true 1 d t;
          within = under;
          most = omega (arith, under, long);
        }
    go true p true q true r true s true t false u e = absurd (false≢true e)
    go true p true q true r true s false t i u e = absurd (false≢true e)
    go true p true q true r false s h t i u e = absurd (false≢true e)
    go true p true q false r g s h t i u e = absurd (false≢true e)
    go true p false q f r g s h t i u e = absurd (false≢true e)
    go false p b q f r g s h t i u e = absurd (false≢true e)
