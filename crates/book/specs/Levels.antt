-- The price levels of a side (request No. 2): at most 64, best first; the places behind them are not used.
use Rattle.std.specs.Prelude.{ℕ, suc, List, [], ◌∷◌, ◌++◌, Bool, true, false, cond, ◌&&◌, get_or, take, drop, replicate, ℤ, pos, ltb}
use Rattle.std.specs.Int.Signed.{lt_z}
use Rattle.book.specs.declared.levels.Level.{Level}
use Rattle.book.specs.declared.levels.Side.{Side}
use Rattle.std.specs.Prelude.{None}
use Rattle.book.specs.Types.{MaybeLevel, some_level}

-- ─── Prices ───

-- A price is better than another: buying from the highest price, selling from the lowest.
unfoldable pub better : Bool → ℤ → ℤ → Bool
better buying a b = cond buying (lt_z b a) (lt_z a b)

unfoldable pub same_price : ℤ → ℤ → Bool
same_price a b = cond (lt_z a b) false (cond (lt_z b a) false true)

-- ─── Levels ───

-- A place that is not used: quantity 0 is no level.
abbrev pub empty : Level
empty = record { price = pos 0; quantity = 0 }

abbrev pub used : Level → Bool
used l = ltb 0 l.quantity

abbrev pub side_with : List Level → Side
side_with ls = record { levels = ls }

abbrev pub no_levels : Side
no_levels = side_with (replicate 64 empty)

-- The level at a place, counted from 0, best first.
unfoldable pub level_in : Side → ℕ → MaybeLevel
level_in s i = cond (used (get_or s.levels i empty))
    (some_level (get_or s.levels i empty).price (get_or s.levels i empty).quantity) None

-- All 64 places are used.
unfoldable pub is_full : Side → Bool
is_full s = used (get_or s.levels 63 empty)

-- The place of a price: behind the levels that are better.
abbrev pub place_in : Bool → ℤ → List Level → ℕ
place_in buying p [] = 0
place_in buying p (l ∷ ls) = cond (used l && better buying l.price p) (suc (place_in buying p ls)) 0

-- What a place has at a price.
unfoldable pub held_by : ℤ → Level → ℕ
held_by p l = cond (same_price l.price p) l.quantity 0

-- The quantity at a price, 0 where no level stands.
unfoldable pub quantity_at : Bool → ℤ → Side → ℕ
quantity_at buying p s = held_by p (get_or s.levels (place_in buying p s.levels) empty)

-- ─── Changed ───

-- Pushed in at the front: the others move back by a place, and what the last one had falls out.
abbrev pub pushed : Level → List Level → List Level
pushed x [] = []
pushed x (y ∷ ys) = x ∷ pushed y ys

unfoldable pub inserted : ℕ → Level → List Level → List Level
inserted i x l = take i l ++ pushed x (drop i l)

-- Taken out: those behind it move up, and the last place is not used.
unfoldable pub removed : ℕ → List Level → List Level
removed i l = take i l ++ (drop (suc i) l ++ (empty ∷ []))

-- A level put where places start with that of its price: in place of one at the same price, or pushed in; with quantity
-- 0 the one at the same price is taken out.
abbrev pub put_first : Level → List Level → List Level
put_first x [] = []
put_first x (y ∷ ys) =
    cond (used x) (cond (ltb 0 (held_by x.price y)) (x ∷ ys) (x ∷ pushed y ys))
    (cond (ltb 0 (held_by x.price y)) (ys ++ (empty ∷ [])) (y ∷ ys))

unfoldable pub put_at : ℕ → Level → Side → Side
put_at i x s = side_with (take i s.levels ++ put_first x (drop i s.levels))

-- A quantity put at a price.
unfoldable pub placed : Bool → ℤ → ℕ → Side → Side
placed buying p n s = put_at (place_in buying p s.levels) (record { price = p; quantity = n }) s
