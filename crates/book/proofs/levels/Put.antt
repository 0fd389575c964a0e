-- A level put at its price's place. Assumes nothing.
use Prim.Native.Nat.{ℕ, zero, suc, ◌<◌}
use mathlib.Core.Path.{◌≡◌, refl, sym, ap, ◌∙◌}
use mathlib.Core.List.{List, [], ◌∷◌, ◌++◌}
use native.Mathlib.Omega.{arith}
use native.Mathlib.Nat.{add-zero}
use borrow.Author.Tests.{lt-ltb}
use lib.ListN.{length, get_or, take, drop, set}
use lib.Seq.{get_or-drop}
use Rattle.book.specs.Levels.{empty, held_by, pushed, inserted, removed, put_first, put_at, side_with}
use Rattle.book.specs.declared.levels.Level.{Level}
use Rattle.book.specs.declared.levels.Side.{Side}
use Rattle.book.proofs.levels.Search.{held-behind}

-- ─── At the front ───

module _ (x : Level) where
  first-replace : (m : List Level) → 0 < x.quantity → 0 < held_by x.price (get_or m 0 empty) → put_first x m ≡ x ∷ drop 1 m
  first-replace [] q h = absurd (omega (arith, held-behind [] 0 x.price (omega arith)))
  first-replace (y ∷ ys) q h = rw (lt-ltb 0 x.quantity q, lt-ltb 0 (held_by x.price y) h)

  first-insert : (m : List Level) → 0 < x.quantity → held_by x.price (get_or m 0 empty) ≡ 0 → put_first x m ≡ pushed x m
  first-insert [] q h = refl
  first-insert (y ∷ ys) q h = rw (lt-ltb 0 x.quantity q, h)

  first-remove : (m : List Level) → x.quantity ≡ 0 → 0 < held_by x.price (get_or m 0 empty)
      → put_first x m ≡ drop 1 m ++ (empty ∷ [])
  first-remove [] q h = absurd (omega (arith, held-behind [] 0 x.price (omega arith)))
  first-remove (y ∷ ys) q h = rw (q, lt-ltb 0 (held_by x.price y) h)

  first-stays : (m : List Level) → x.quantity ≡ 0 → held_by x.price (get_or m 0 empty) ≡ 0 → put_first x m ≡ m
  first-stays [] q h = refl
  first-stays (y ∷ ys) q h = rw (q, h)

-- ─── At a place ───

set_is : (l : List Level) (i : ℕ) (x : Level) → i < length l → set l i x ≡ take i l ++ (x ∷ drop 1 (drop i l))
set_is [] i x h = absurd (omega arith)
set_is (y ∷ ys) zero x h = refl
set_is (y ∷ ys) (suc i) x h = ap (λ (t : List Level). y ∷ t) (set_is ys i x (omega arith))

drop-one : (l : List Level) (i : ℕ) → drop 1 (drop i l) ≡ drop (suc i) l
drop-one [] zero = refl
drop-one [] (suc i) = refl
drop-one (y ∷ ys) zero = refl
drop-one (y ∷ ys) (suc i) = drop-one ys i

take-drop : (l : List Level) (i : ℕ) → take i l ++ drop i l ≡ l
take-drop [] zero = refl
take-drop [] (suc i) = refl
take-drop (y ∷ ys) zero = refl
take-drop (y ∷ ys) (suc i) = ap (λ (t : List Level). y ∷ t) (take-drop ys i)

module _ (s : Side) (i : ℕ) (x : Level) (old : ℕ) (e : old ≡ held_by x.price (get_or s.levels i empty)) where
  front : old ≡ held_by x.price (get_or (drop i s.levels) 0 empty)
  front = rw (get_or-drop i s.levels 0 empty, add-zero i) e

  pub put-replace : 0 < x.quantity → 0 < old → i < length s.levels → side_with (set s.levels i x) ≡ put_at i x s
  unfolding put_at
  put-replace q h inside =
      ap side_with
      (set_is s.levels i x inside
      ∙ ap (λ (t : List Level). take i s.levels ++ t)
      (sym (first-replace x (drop i s.levels) q (rw front at h))))

  pub put-insert : 0 < x.quantity → old ≡ 0 → side_with (inserted i x s.levels) ≡ put_at i x s
  unfolding put_at inserted
  put-insert q h =
      ap (λ (t : List Level). side_with (take i s.levels ++ t)) (sym (first-insert x (drop i s.levels) q (sym front ∙ h)))

  pub put-remove : x.quantity ≡ 0 → 0 < old → side_with (removed i s.levels) ≡ put_at i x s
  unfolding put_at removed
  put-remove q h =
      ap (λ (t : List Level). side_with (take i s.levels ++ t))
      (rw drop-one at (sym (first-remove x (drop i s.levels) q (rw front at h))))

  pub put-stays : x.quantity ≡ 0 → old ≡ 0 → s ≡ put_at i x s
  unfolding put_at
  put-stays q h =
      ap side_with
      (sym
      (ap (λ (t : List Level). take i s.levels ++ t) (first-stays x (drop i s.levels) q (sym front ∙ h))
      ∙ take-drop s.levels i))
