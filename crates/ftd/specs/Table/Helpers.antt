-- The test that is computed over the whole table; only the proof of the rule uses it.
use Rattle.std.specs.Prelude.{ℕ, zero, suc, ◌+◌, List, [], ◌∷◌, Bool, true, false, ◌&&◌, take, drop, leb, ltb, eqb}
use Rattle.ftd.specs.Table.{Row, table, total, rows_of}
use Rattle.ftd.specs.Table.Rule.{rows_place, right_form}

-- ─── The test ───

-- Row i stands among those of its field.
abbrev pub row_holds : ℕ → Row → Bool
row_holds i r =
    right_form r && (leb (rows_place r.fid).start i && ltb i ((rows_place r.fid).start + (rows_place r.fid).count))

abbrev pub rows_hold : ℕ → List Row → Bool
rows_hold i [] = true
rows_hold i (r ∷ rs) = row_holds i r && rows_hold (suc i) rs

abbrev pub same_row : Row → Row → Bool
same_row r s =
    eqb r.fid s.fid && (eqb r.kind s.kind && (eqb r.width s.width && eqb r.scale s.scale))

abbrev pub same_rows : List Row → List Row → Bool
same_rows [] [] = true
same_rows [] (s ∷ ss) = false
same_rows (r ∷ rs) [] = false
same_rows (r ∷ rs) (s ∷ ss) = same_row r s && same_rows rs ss

-- The rows of a field are those that stand in its place, and their widths add up to its width.
abbrev pub field_holds : ℕ → Bool
field_holds fid =
    leb ((rows_place fid).start + (rows_place fid).count) 379
    && (same_rows (rows_of fid) (take (rows_place fid).count (drop (rows_place fid).start table))
    && eqb (total (rows_of fid)) (rows_place fid).wide)

abbrev pub all_below : (ℕ → Bool) → ℕ → Bool
all_below p zero = true
all_below p (suc n) = p n && all_below p n

abbrev pub ruled : Bool
ruled = rows_hold 0 table && all_below field_holds 47
