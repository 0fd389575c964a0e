-- An item by place: the turns of the walk over a field's rows. Assumes nothing.
use Prim.Native.Nat.{ℕ, zero, suc, ◌+◌, ◌-◌, ◌<◌, ◌≤◌}
use mathlib.Core.Path.{◌≡◌, refl}
use mathlib.Core.List.{◌∷◌}
use native.Mathlib.Omega.{arith}
use lib.ListN.{take, drop}
use Rattle.ftd.specs.Table.{table}
use Rattle.ftd.specs.Table.Rule.{rows_place, row_at}
use Rattle.ftd.specs.Places.{item_in, item_of}
use Rattle.ftd.proofs.table.Rule.{rows_none, rows-from, rows_next, rows-over}
use Rattle.std.specs.Prelude.{None}
use Rattle.ftd.specs.Types.{MaybeItem, some_item}

module _ (fid i : ℕ) where
  pub place-unknown : 46 < fid → None ≡ item_of fid i
  unfolding item_of
  place-unknown h = rw (rows_none fid h)

  pub place-start : (a start : ℕ) → a ≡ fid → start ≡ (rows_place a).start → (b last : ℕ) → b ≡ fid
      → last ≡ (rows_place b).start + (rows_place b).count
      → item_in 0 (take (last - start) (drop start table)) i ≡ item_of fid i
  unfolding item_of
  place-start a start p q b last r s = rw (rows-from fid a start p q b last r s)

module _ (row last at left : ℕ) (t : MaybeItem) (inv : item_in at (take (last - row) (drop row table)) left ≡ t) where
  pub place_end : last ≤ row → None ≡ t
  place_end h = rw (rows-over row last h) at inv

  module _ (h : row < last) (inside : last ≤ 379) where
    next : item_in at (row_at row ∷ take (last - (row + 1)) (drop (row + 1) table)) left ≡ t
    next = rw (rows_next row last h inside) at inv

    pub place_here : left ≡ 0 → (kind scale width : ℕ) → kind ≡ (row_at row).kind → scale ≡ (row_at row).scale
        → width ≡ (row_at row).width
        → some_item kind scale at width ≡ t
    place_here z kind scale width a b c = rw (a, b, c) (rw z at next)

    pub place-turn : (left ≡ 0 → ⊥) → (width : ℕ) → width ≡ (row_at row).width
        → item_in (at + width) (take (last - (row + 1)) (drop (row + 1) table)) (left - 1) ≡ t
    place-turn z width c = rw c (go left z next)
      where
        go : (k : ℕ) → (k ≡ 0 → ⊥) → item_in at (row_at row ∷ take (last - (row + 1)) (drop (row + 1) table)) k ≡ t
            → item_in (at + (row_at row).width) (take (last - (row + 1)) (drop (row + 1) table)) (k - 1) ≡ t
        go zero z p = absurd (z refl)
        go (suc k) z p =
            let s : suc k - 1 ≡ k = omega arith in
            rw s p
