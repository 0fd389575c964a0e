-- An array of n places filled one by one with the places of a list, or of another one through a function. Assumes
-- nothing.
use Prim.Native.Nat.{ℕ, suc, ◌+◌, ◌<◌, ◌≤◌}
use native.Mathlib.Omega.{arith}
use mathlib.Core.Path.{◌≡◌, refl, sym, ◌∙◌}
use mathlib.Core.List.{List, map}
use lib.ListN.{length, length-map, length-set, get_or, take, set, get_or-map}
use lib.Seq.{take_all, take-suc, take-suc-set}

-- The first i places are the list's.
abbrev pub Filled : {A : Type 0} → ℕ → ℕ → List A → List A → Type 0
Filled n i goal all = (take i all ≡ take i goal) × (length all ≡ n)

module _ {A : Type 0} (n : ℕ) where
  -- With the next one put there, the first i + 1 are.
  pub turn : (goal all : List A) (i : ℕ) (d : A) → Filled n i goal all → i < n → length goal ≡ n
      → Filled n (i + 1) goal (set all i (get_or goal i d))
  turn goal all i d h few whole =
      let one : i + 1 ≡ suc i = omega arith in
      let e = h.1 in (
        rw (one, take-suc-set all i (get_or goal i d) (omega arith), take-suc goal i d (omega arith), h.0) refl,
        length-set all i (get_or goal i d) ∙ e,
      )

  -- All of them are.
  pub filled-end : (goal all : List A) (i : ℕ) → Filled n i goal all → n ≤ i → length goal ≡ n → all ≡ goal
  filled-end goal all i h through whole =
      let e = h.1 in
      sym (take_all i all (omega arith)) ∙ h.0 ∙ take_all i goal (omega arith)

module _ {A B : Type 0} (n : ℕ) (f : A → B) (l : List A) (whole : length l ≡ n) where
  pub mapped-turn : (all : List B) (i : ℕ) (d : A) → Filled n i (map f l) all → i < n
      → Filled n (i + 1) (map f l) (set all i (f (get_or l i d)))
  mapped-turn all i d h few =
      rw (get_or-map f l i d) at (turn n (map f l) all i (f d) h few (length-map l f ∙ whole))

  pub mapped_end : (all : List B) (i : ℕ) → Filled n i (map f l) all → n ≤ i → all ≡ map f l
  mapped_end all i h through = filled-end n (map f l) all i h through (length-map l f ∙ whole)
