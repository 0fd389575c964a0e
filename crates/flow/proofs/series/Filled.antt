-- An array's places filled one by one from a list, the others empty. Assumes nothing.
use Prim.Native.Nat.{ℕ, zero, suc, ◌+◌, ◌-◌, ◌<◌, ◌≤◌}
use native.Mathlib.Omega.{arith}
use native.Mathlib.Nat.{suc-sub-suc}
use mathlib.Core.Path.{◌≡◌, refl, ap, ◌∙◌}
use mathlib.Core.List.{List, [], ◌∷◌, ◌++◌, map}
use lib.ListN.{length, get_or, take, set, replicate}
use lib.Seq.{take-length}
use Rattle.flow.specs.Ends.{filled}

module _ {A : Type 0} (empty : A) (f : ℕ → A) where
  -- n places, the first ones filled.
  abbrev among : ℕ → List A → List A
  among n l = l ++ replicate (n - length l) empty

  set-among : (n i : ℕ) (ss : List ℕ) → i < length ss → length ss ≤ n
      → set (among n (map f (take i ss))) i (f (get_or ss i 0)) ≡ among n (map f (take (suc i) ss))
  set-among n i [] inside few = absurd (omega arith)
  set-among zero i (s ∷ ss) inside few = absurd (omega arith)
  set-among (suc n) zero (s ∷ ss) inside few =
      let a : suc n - 0 ≡ suc n = omega arith in
      let b : suc n - 1 ≡ n = omega arith in
      rw (a, b) refl
  set-among (suc n) (suc i) (s ∷ ss) inside few =
      rw (suc-sub-suc n (length (map f (take i ss))), suc-sub-suc n (length (map f (take (suc i) ss))))
      (ap (λ (l : List A). f s ∷ l) (set-among n i ss (omega arith) (omega arith)))

  pub filled-turn : (ss : List ℕ) (i : ℕ) (all : List A) → all ≡ filled empty (map f (take i ss)) → i < length ss
      → length ss ≤ 8 → set all i (f (get_or ss i 0)) ≡ filled empty (map f (take (i + 1) ss))
  filled-turn ss i all w inside few =
      let e : i + 1 ≡ suc i = omega arith in
      rw (w, e) (set-among 8 i ss inside few)

  pub filled-end : (ss : List ℕ) (i : ℕ) (all : List A) → all ≡ filled empty (map f (take i ss)) → i ≤ length ss
      → length ss ≤ i → all ≡ filled empty (map f ss)
  filled-end ss i all w inside whole =
      let e : i ≡ length ss = omega arith in
      w ∙ rw (e, take-length ss)
