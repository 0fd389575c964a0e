-- A level pushed in at a place, or taken out. Assumes nothing.
use Prim.Native.Nat.{ℕ, zero, suc, ◌+◌, ◌-◌, ◌<◌}
use mathlib.Core.Path.{◌≡◌, refl, sym, ap, ◌∙◌}
use mathlib.Core.List.{List, [], ◌∷◌, ◌++◌, append_assoc, append-nil}
use native.Mathlib.Omega.{arith}
use Rattle.std.specs.List.{copy_within}
use Rattle.std.proofs.lemmas.List.{take_all, length-take-le}
use lib.ListN.{length, take, drop, set, length-append, length-drop, drop_of_length-le}
use mir.Val.{Val}
use denote.Laws.{Is}
use denote.Struct.Declared.{row}
use Rattle.book.specs.Levels.{empty, pushed, inserted, removed, side_with}
use Rattle.book.specs.declared.levels.Level.{Level}
use Rattle.book.specs.declared.levels.Side.{Side}
use Rattle.book.specs.contracts.levels.Side.{the_type}

-- ─── Pushed in: the places from i on copied one on, and the new level put ───

pushed-take : (x : Level) (m : List Level) (k : ℕ) → length m ≡ suc k → pushed x m ≡ x ∷ take k m
pushed-take x [] k h = absurd (omega arith)
pushed-take x (y ∷ []) zero h = refl
pushed-take x (y ∷ []) (suc k) h = absurd (omega arith)
pushed-take x (y ∷ z ∷ zs) zero h = absurd (omega arith)
pushed-take x (y ∷ z ∷ zs) (suc k) h = ap (λ (t : List Level). x ∷ t) (pushed-take y (z ∷ zs) k (omega arith))

set-behind : (l m : List Level) (i : ℕ) (x : Level) → i < length l → set (take (suc i) l ++ m) i x ≡ take i l ++ (x ∷ m)
set-behind [] m i x h = absurd (omega arith)
set-behind (y ∷ ys) m zero x h = refl
set-behind (y ∷ ys) m (suc i) x h = ap (λ (t : List Level). y ∷ t) (set-behind ys m i x (omega arith))

pub push-in : (l m : List Level) (i : ℕ) (x : Level) → length l ≡ 64 → i < 64 → m ≡ copy_within l i 63 (i + 1)
    → side_with (set m i x) ≡ side_with (inserted i x l)
unfolding inserted
push-in l m i x w h e =
    let s : i + 1 ≡ suc i = omega arith in
    let none = drop_of_length-le l {i = suc i + (63 - i)} (omega (arith, w)) in
    let k : length (drop i l) ≡ suc (63 - i) = omega (arith, length-drop i l, w) in
    ap side_with
    (rw (e, s, none, append-nil (take (suc i) l ++ take (63 - i) (drop i l)), pushed-take x (drop i l) (63 - i) k)
    (set-behind l (take (63 - i) (drop i l)) i x (omega (arith, w))))

-- At the end nothing is pushed in.
pub push-end : (l : List Level) (i : ℕ) (x : Level) → length l ≡ 64 → i ≡ 64 → side_with l ≡ side_with (inserted i x l)
unfolding inserted
push-end l i x w h =
    ap side_with
    (rw (take_all i l (omega (arith, w, h)), drop_of_length-le l {i = i} (omega (arith, w, h))) (sym (append-nil l)))

-- ─── Taken out: the places behind i copied one back, and the last one emptied ───

set-end : (a m : List Level) (n : ℕ) (x : Level) → length a ≡ n → length m ≡ 1 → set (a ++ m) n x ≡ a ++ (x ∷ [])
set-end [] [] n x e h = absurd (omega arith)
set-end [] (y ∷ []) zero x e h = refl
set-end [] (y ∷ []) (suc n) x e h = absurd (omega arith)
set-end [] (y ∷ z ∷ zs) n x e h = absurd (omega arith)
set-end (b ∷ a) m zero x e h = absurd (omega arith)
set-end (b ∷ a) m (suc n) x e h = ap (λ (t : List Level). b ∷ t) (set-end a m n x (omega arith) h)

pub pull-out : (l m : List Level) (i : ℕ) → length l ≡ 64 → i < 64 → m ≡ copy_within l (i + 1) (length l) i
    → side_with (set m 63 empty) ≡ side_with (removed i l)
unfolding removed
pull-out l m i w h e =
    let s : i + 1 ≡ suc i = omega arith in
    let whole = take_all (length l - suc i) (drop (suc i) l) (omega (arith, length-drop (suc i) l)) in
    let n : i + (length l - suc i) ≡ 63 = omega (arith, w) in
    let front = take i l ++ drop (suc i) l in
    let k : length front ≡ 63 =
    rw (length-append (take i l) (drop (suc i) l), length-drop (suc i) l) (omega (arith, length-take-le i l (omega (arith, w)), w)) in
    ap side_with
    (rw (e, s, whole, n) (set-end front (drop 63 l) 63 empty k (omega (arith, length-drop 63 l, w)))
    ∙ append_assoc (take i l) (drop (suc i) l) (empty ∷ []))

-- Every value of the type has 64 places: `places s _ (c .. .good .0)`, the side being the first parameter.
pub places : (s : Side) (vs : List Val) → Is (row the_type) s vs → length s.levels ≡ 64
places s vs g = g.1.1.0.1.0.1
