-- The numbers follow each other along returns, of any numbered receiver that wants then what it wanted at the keeping.
-- Assumes nothing.
use Prim.Native.Nat.{ℕ, zero, suc, ◌+◌, ◌-◌, ◌≤◌}
use native.Mathlib.Omega.{arith}
use mathlib.Core.Path.{◌≡◌, refl, ap, ◌∙◌}
use mathlib.Core.List.{List, [], ◌∷◌, ◌++◌, append-nil}
use mathlib.Core.Bool.{false}
use mathlib.Core.Option.{Option, none, some}
use Rattle.ftd.specs.Follow.{Numbered, NumberedLaw, also, counting}
use Rattle.ftd.specs.Return.{Counted, start, event, anew, return, Returns}

counting-last : (w k : ℕ) → counting w k ++ ((w + k) ∷ []) ≡ counting w (suc k)
counting-last w zero = ap (λ (n : ℕ). n ∷ []) (omega arith)
counting-last w (suc k) =
    ap (λ (l : List ℕ). w ∷ l)
    (ap (λ (n : ℕ). counting (w + 1) k ++ (n ∷ [])) (omega arith) ∙ counting-last (w + 1) k)

module _ {S E : Type 0} (R : Numbered S E) (law : NumberedLaw R) (Back : S → S → S → Type 0)
    (wants : (s t b : S) → Back s t b → R.wanted b ≡ R.wanted s) where
  abbrev Fits : S → ℕ → List ℕ → Type 0
  Fits s w l = (w ≤ R.wanted s) × (l ≡ counting w (R.wanted s - w))

  on : (s : S) (w : ℕ) (l : List ℕ) (e : E) → R.anew s e ≡ false → Fits s w l
      → Fits (R.step s e) w (l ++ also (R.took s e) [])
  on s w l e a h = go (R.took s e) refl
    where
      go : (o : Option ℕ) → R.took s e ≡ o → Fits (R.step s e) w (l ++ also o [])
      go none q = rw (append-nil l, law.stays s e a q) h
      go (some n) q =
          let k = law.next s e n a q in
          let x : R.wanted (R.step s e) ≡ suc (R.wanted s) = omega (arith, k.0, k.1) in
          let m = h.0 in
          let z : n ≡ w + (R.wanted s - w) = omega (arith, k.0) in
          let y : R.wanted (R.step s e) - w ≡ suc (R.wanted s - w) = omega (arith, x) in (
            omega (arith, x),
            rw y (ap (λ (i : List ℕ). i ++ (n ∷ [])) h.1
                ∙ ap (λ (i : ℕ). counting w (R.wanted s - w) ++ (i ∷ [])) z ∙ counting-last w (R.wanted s - w)),
          )

  fresh : (n : ℕ) → (n ≤ n) × ([] ≡ counting n (n - n))
  fresh n = let z : n - n ≡ 0 = omega arith in (omega arith, rw z)

  fits : (o s : S) (w : ℕ) (l : List ℕ) → Counted R Back o s w l → Fits s w l
  fits o s w l start = fresh (R.wanted o)
  fits o s w l (event c e a) = on _ _ _ e a (fits o _ _ _ c)
  fits o s w l (anew c e a) = fresh (R.wanted _)
  fits o s w l (return {s = v} {t = t} c d b) = rw (wants v t s b) (fits o v w l c)

  pub returns : Returns R Back
  returns = record { follow = fits }
