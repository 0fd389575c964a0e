-- Histories of a world that grow at their end: what they hold of a series and a day, and the last of it. Assumes
-- nothing.
use Prim.Native.Nat.{ℕ}
use mathlib.Core.Path.{◌≡◌, refl, sym, ap, ◌∙◌}
use mathlib.Core.List.{List, [], ◌∷◌, ◌++◌, map, append-nil}
use mathlib.Core.Bool.{Bool, true, false, cond, ◌&&◌}
use borrow.Author.Tests.{eq-eqb, ne_eqb}
use lib.Dec.{eqb}
use Rattle.ftd.specs.Types.{TradeDate}
use Rattle.flow.specs.Ends.{is_day}
use Rattle.flow.specs.World.{InSeries, in_series, Dated, dated, latest_of}
use Rattle.flow.specs.Agreement.{of, latest, EachDated}
use Rattle.std.specs.Prelude.{Some}

-- ─── Of a series and a day ───

and_no : (a b : Bool) → b ≡ false → (a && b) ≡ false
and_no true b q = q
and_no false b q = refl

module _ {A : Type 0} where
  pub of-append : (s d : ℕ) (l k : List (Dated A)) → of s d (l ++ k) ≡ of s d l ++ of s d k
  of-append s d [] k = refl
  of-append s d (x ∷ l) k = go (eqb x.series s && is_day d x.day) (of-append s d l k)
    where
      go : (b : Bool) → of s d (l ++ k) ≡ of s d l ++ of s d k
          → cond b (x.what ∷ of s d (l ++ k)) (of s d (l ++ k)) ≡ cond b (x.what ∷ of s d l) (of s d l) ++ of s d k
      go true e = ap (λ (r : List A). x.what ∷ r) e
      go false e = e

  of-all : (s d : ℕ) (xs : List A) → of s d (map (dated s (Some d)) xs) ≡ xs
  of-all s d [] = refl
  of-all s d (x ∷ xs) = rw (eq-eqb s s refl, eq-eqb d d refl) (ap (λ (r : List A). x ∷ r) (of-all s d xs))

  of_none : (s x : ℕ) (t : ℕ) (day : TradeDate) (xs : List A) → (eqb t s && is_day x day) ≡ false
      → of s x (map (dated t day) xs) ≡ []
  of_none s x t day [] q = refl
  of_none s x t day (y ∷ xs) q = rw q (of_none s x t day xs q)

  -- What is new of the same series and day; of the same series and another day; of another series.
  pub of-here : (s d : ℕ) (l : List (Dated A)) (xs : List A) → of s d (l ++ map (dated s (Some d)) xs) ≡ of s d l ++ xs
  of-here s d l xs = of-append s d l (map (dated s (Some d)) xs) ∙ ap (λ (r : List A). of s d l ++ r) (of-all s d xs)

  pub of-away : (s d x : ℕ) (l : List (Dated A)) (xs : List A) → (d ≡ x → ⊥)
      → of s x (l ++ map (dated s (Some d)) xs) ≡ of s x l
  of-away s d x l xs n =
      of-append s x l (map (dated s (Some d)) xs)
      ∙ ap (λ (r : List A). of s x l ++ r) (of_none s x s (Some d) xs (and_no (eqb s s) (eqb d x) (ne_eqb d x n)))
      ∙ append-nil (of s x l)

  pub of-else : (t s x : ℕ) (day : TradeDate) (l : List (Dated A)) (xs : List A) → (t ≡ s → ⊥)
      → of t x (l ++ map (dated s day) xs) ≡ of t x l
  of-else t s x day l xs n =
      of-append t x l (map (dated s day) xs)
      ∙ ap (λ (r : List A). of t x l ++ r)
      (of_none t x s day xs (ap (λ (b : Bool). b && is_day x day) (ne_eqb s t (λ e. n (sym e)))))
      ∙ append-nil (of t x l)

-- ─── The last ───

pub latest-append : (n : ℕ) (l : List ℕ) (k : ℕ) → latest n (l ++ (k ∷ [])) ≡ k
latest-append n [] k = refl
latest-append n (x ∷ l) k = latest-append x l k

module _ {A : Type 0} (s : ℕ) where
  pub latest_of-same : (y : A) (l : List (InSeries A)) (x : A) → latest_of s y (l ++ (in_series s x ∷ [])) ≡ x
  latest_of-same y [] x = rw (eq-eqb s s refl)
  latest_of-same y (z ∷ l) x = latest_of-same (cond (eqb z.series s) z.what y) l x

  pub latest_of-other : (y : A) (l : List (InSeries A)) (t : ℕ) (x : A) → (s ≡ t → ⊥)
      → latest_of s y (l ++ (in_series t x ∷ [])) ≡ latest_of s y l
  latest_of-other y [] t x n = rw (ne_eqb t s (λ e. n (sym e)))
  latest_of-other y (z ∷ l) t x n = latest_of-other (cond (eqb z.series s) z.what y) l t x n

-- ─── Of a day ───

module _ {A : Type 0} where
  pub each_append : (l k : List (Dated A)) → EachDated l → EachDated k → EachDated (l ++ k)
  each_append [] k a b = b
  each_append (x ∷ l) k a b = (a.0, each_append l k a.1 b)

  pub each_at : (s d : ℕ) (day : TradeDate) (xs : List A) → day ≡ Some d → EachDated (map (dated s day) xs)
  each_at s d day [] q = tt
  each_at s d day (x ∷ xs) q = ((d, q), each_at s d day xs q)
