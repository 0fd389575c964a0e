-- An item of a field by place (01, "Typed items"): FID and item number, counted from 0, give type, place and width in
-- the field.
use Rattle.std.specs.Prelude.{ℕ, zero, suc, ◌+◌, List, [], ◌∷◌, cond, length, leb}
use Rattle.ftd.specs.Bytes.{part}
use Rattle.ftd.specs.Table.{Row, rows_of}
use Rattle.std.specs.Prelude.{Some, None}
use Rattle.ftd.specs.Types.{MaybeItem, some_item}

-- Among rows whose items start at `at`.
abbrev pub item_in : ℕ → List Row → ℕ → MaybeItem
item_in at [] i = None
item_in at (r ∷ rs) zero = some_item r.kind r.scale at r.width
item_in at (r ∷ rs) (suc i) = item_in (at + r.width) rs i

unfoldable pub item_of : ℕ → ℕ → MaybeItem
item_of fid i = item_in 0 (rows_of fid) i

-- The item's bytes among those of its field; none where there is no such item, or it is not there whole.
abbrev pub cut_item : List ℕ → MaybeItem → List ℕ
cut_item bytes None = []
cut_item bytes (Some found) = cond (leb (found.start + found.width) (length bytes)) (part bytes found.start found.width) []

unfoldable pub item_bytes : List ℕ → ℕ → ℕ → List ℕ
item_bytes bytes fid i = cut_item bytes (item_of fid i)
