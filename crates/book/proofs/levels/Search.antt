-- The place of a price, found from the front on. Assumes nothing.
use Prim.Native.Nat.{ℕ, zero, suc, ◌+◌, ◌<◌, ◌≤◌}
use mathlib.Core.Path.{◌≡◌, refl, sym, ◌∙◌}
use mathlib.Core.List.{List, [], ◌∷◌}
use mathlib.Core.Bool.{Bool, true, false, cond, not, ◌&&◌, ◌||◌}
use native.Mathlib.Omega.{arith}
use lib.ListN.{length, get_or}
use lib.IntN.{ℤ, pos}
use lib.Dec.{eqb, ltb}
use Rattle.std.specs.declared.option.Option.{Option}
use Rattle.std.specs.declared.option.Option.TheVariants.{None, Some}
use Rattle.std.specs.Option.{unwrap_or}
use Rattle.std.specs.List.{prefix_len}
use Rattle.std.proofs.lemmas.List.Sums.{prefix_len-le-length}
use Rattle.book.proofs.agreement.Prices.{same-equal, same_self}
use borrow.Author.Tests.{lt-ltb, ltb-true, ltb-false, eqb-true, eqb-false}
use Rattle.book.specs.Levels.{empty, used, better, same_price, place_in, held_by, level_in}
use Rattle.book.specs.declared.levels.Level.{Level}
use Rattle.book.specs.declared.levels.Side.{Side}
use Rattle.book.specs.Types.{MaybeLevel}

-- ─── The place of a price ───

module _ (buying : Bool) (p : ℤ) where
  -- The search ends here: the place is not used, or its level is not better.
  abbrev pub ends : Level → Bool
  ends l = eqb l.quantity 0 || not (better buying l.price p)

  place-is : (l : List Level) → prefix_len (λ x. not (ends x)) l ≡ place_in buying p l
  place-is [] = refl
  place-is (x ∷ l) = go (eqb x.quantity 0) refl (better buying x.price p) _ _ (place-is l)
    where
      go : (a : Bool) → eqb x.quantity 0 ≡ a → (b : Bool) (m n : ℕ) → m ≡ n
          → cond (not (a || not b)) (1 + m) 0 ≡ cond (used x && b) (suc n) 0
      go true e b m n q =
          let z : x.quantity ≡ 0 = eqb-true x.quantity 0 e in
          rw z
      go false e true m n q =
          let z = eqb-false x.quantity 0 e in
          rw (lt-ltb 0 x.quantity (omega arith)) (omega (arith, q))
      go false e false m n q =
          let z = eqb-false x.quantity 0 e in
          rw (lt-ltb 0 x.quantity (omega arith))

  pub place-found : (l : List Level) (o : Option ℕ) → length l ≡ 64
      → o ≡ cond (ltb (prefix_len (λ x. not (ends x)) l) (length l)) (Some (prefix_len (λ x. not (ends x)) l)) None
      → (r : ℕ) → r ≡ unwrap_or o 64 → (r ≡ place_in buying p l) × (r ≤ 64)
  place-found l o w e r q =
      let g = go (ltb n (length l)) refl e in
      (g, omega (arith, g, sym (place-is l), w, most))
    where
      n : ℕ
      n = prefix_len (λ x. not (ends x)) l

      most : n ≤ length l
      most = prefix_len-le-length (λ x. not (ends x)) l

      go : (b : Bool) → ltb n (length l) ≡ b → o ≡ cond b (Some n) None → r ≡ place_in buying p l
      go true h f = q ∙ (rw f (place-is l))
      go false h f =
          let k : 64 ≡ n = omega (arith, ltb-false n (length l) h, most, w) in
          q ∙ (rw f (k ∙ place-is l))

-- ─── What a place has ───

behind : (l : List Level) (i : ℕ) → length l ≤ i → get_or l i empty ≡ empty
behind [] i h = refl
behind (y ∷ ys) zero h = absurd (omega arith)
behind (y ∷ ys) (suc i) h = behind ys i (omega arith)

module _ (l : Level) (p : ℤ) where
  pub held_same : l.price ≡ p → l.quantity ≡ held_by p l
  unfolding held_by
  held_same e = rw (e, same_self p)

  pub held-other : (l.price ≡ p → ⊥) → 0 ≡ held_by p l
  unfolding held_by
  held-other n = go (same_price l.price p) refl
    where
      go : (b : Bool) → same_price l.price p ≡ b → 0 ≡ cond b l.quantity 0
      go true e = absurd (n (same-equal l.price p e))
      go false e = refl

either-zero : (b : Bool) → ◌≡◌ {A = ℕ} (cond b 0 0) 0
either-zero true = refl
either-zero false = refl

pub held-behind : (l : List Level) (i : ℕ) (p : ℤ) → length l ≤ i → 0 ≡ held_by p (get_or l i empty)
unfolding held_by
held-behind l i p h = rw (behind l i h) (sym (either-zero (same_price (pos 0) p)))

module _ (s : Side) (i : ℕ) where
  pub level-behind : length s.levels ≤ i → None ≡ level_in s i
  unfolding level_in
  level-behind h = rw (behind s.levels i h)

  pub level-absent : false ≡ ltb i (length s.levels) → (r : MaybeLevel) → r ≡ None → r ≡ level_in s i
  level-absent e r f = f ∙ level-behind (ltb-false i (length s.levels) (sym e))

-- A place that has a quantity at a price lies inside.
pub held-inside : (l : List Level) (i : ℕ) (p : ℤ) → 0 < held_by p (get_or l i empty) → i < length l
held-inside l i p h = go (ltb i (length l)) refl
  where
    go : (b : Bool) → ltb i (length l) ≡ b → i < length l
    go true e = ltb-true i (length l) e
    go false e = absurd (omega (arith, held-behind l i p (ltb-false i (length l) e)))
