-- A list with something appended: what stood in it still stands there. Assumes nothing.
use Prim.Native.Nat.{ℕ, zero, suc, ◌<◌}
use native.Mathlib.Omega.{arith}
use mathlib.Core.Path.{◌≡◌, refl, sym, ap, ◌∙◌}
use mathlib.Core.List.{List, [], ◌∷◌, ◌++◌, append-nil, append_assoc}
use mathlib.Core.Option.{Option, none, some}
use lib.ListN.{length, get_or, get_elem?}

-- b is a with something behind it.
abbrev pub Extends : {A : Type 0} → List A → List A → Type 0
Extends a b = (more : List _) × (b ≡ a ++ more)

module _ {A : Type 0} where
  pub none-some : (x : A) → none ≡ some x → ⊥
  none-some x q = let z : ◌≡◌ {A = ℕ} 0 1 = cc in omega arith

  pub same_some : (o : Option A) (x y : A) → o ≡ some x → o ≡ some y → x ≡ y
  same_some o x y p q = cc

  pub extends-same : (a : List A) → Extends a a
  extends-same a = ([], sym (append-nil a))

  pub extends-append : (a b : List A) → Extends a (a ++ b)
  extends-append a b = (b, refl)

  pub extends-along : (a b c : List A) → Extends a b → Extends b c → Extends a c
  extends-along a b c g h = (g.0 ++ h.0, h.1 ∙ ap (λ (l : List A). l ++ h.0) g.1 ∙ append_assoc a g.0 h.0)

  pub place_inside : (a : List A) (i : ℕ) (x : A) → get_elem? a i ≡ some x → i < length a
  place_inside [] i x h = absurd (none-some x h)
  place_inside (y ∷ a) zero x h = omega arith
  place_inside (y ∷ a) (suc i) x h = let k = place_inside a i x h in omega arith

  pub place-append : (a b : List A) (i : ℕ) (x : A) → get_elem? a i ≡ some x → get_elem? (a ++ b) i ≡ some x
  place-append [] b i x h = absurd (none-some x h)
  place-append (y ∷ a) b zero x h = h
  place-append (y ∷ a) b (suc i) x h = place-append a b i x h

  pub place_kept : (a b : List A) → Extends a b → (i : ℕ) (x : A) → get_elem? a i ≡ some x → get_elem? b i ≡ some x
  place_kept a b g i x h = rw g.1 (place-append a g.0 i x h)

  pub place-get_d : (a : List A) (i : ℕ) (x d : A) → get_elem? a i ≡ some x → get_or a i d ≡ x
  place-get_d [] i x d h = absurd (none-some x h)
  place-get_d (y ∷ a) zero x d h = cc
  place-get_d (y ∷ a) (suc i) x d h = place-get_d a i x d h

  -- What stands in a list with one appended is that one, or stood there.
  pub place-last : (P : A → Type 0) (a : List A) (y : A) → ((i : ℕ) (x : A) → get_elem? a i ≡ some x → P x) → P y
      → (i : ℕ) (x : A) →
      get_elem? (a ++ (y ∷ [])) i ≡ some x → P x
  place-last P [] y f p zero x h = let e : y ≡ x = cc in rw e at p
  place-last P [] y f p (suc i) x h = absurd (none-some x h)
  place-last P (b ∷ a) y f p zero x h = f zero x h
  place-last P (b ∷ a) y f p (suc i) x h = place-last P a y (λ i. f (suc i)) p i x h

  pub place-there : (a : List A) (i : ℕ) → i < length a → (x : A) × (get_elem? a i ≡ some x)
  place-there [] i h = absurd (omega arith)
  place-there (y ∷ a) zero h = (y, refl)
  place-there (y ∷ a) (suc i) h = place-there a i (omega arith)

  -- With its place: the one appended stands behind all others.
  pub place-last-at : (P : ℕ → A → Type 0) (a : List A) (y : A) → ((i : ℕ) (x : A) → get_elem? a i ≡ some x → P i x)
      → P (length a) y → (i : ℕ) (x : A) →
      get_elem? (a ++ (y ∷ [])) i ≡ some x → P i x
  place-last-at P [] y f p zero x h = let e : y ≡ x = cc in rw e at p
  place-last-at P [] y f p (suc i) x h = absurd (none-some x h)
  place-last-at P (b ∷ a) y f p zero x h = f zero x h
  place-last-at P (b ∷ a) y f p (suc i) x h = place-last-at (λ j. P (suc j)) a y (λ j. f (suc j)) p i x h
