-- A known field as the list of its items' values (01, "Typed items"): what its bytes say, the bytes of such a list, and
-- which lists fit.
use Rattle.std.specs.Prelude.{ℕ, ◌<◌, ◌≡◌, ◌↔◌, List, [], ◌∷◌, ◌++◌, Bool, true, false, ◌&&◌, length, get_or, take, drop}
use Rattle.std.proofs.Math.Option.{Option, none, some}
use Rattle.ftd.specs.Bytes.{Bytes}
use Rattle.ftd.specs.Fields.{field_with}
use Rattle.ftd.specs.Table.{Row, rows_of, width_of, known}
use Rattle.ftd.specs.Items.{wrong_width, wrong_item}
use Rattle.ftd.specs.Places.{item_of}
use Rattle.ftd.specs.Item.{ItemValue, char, value_of, value_bytes, fits, given_at, item_value_of}
use Rattle.ftd.specs.Types.{some_item}

-- ─── Read ───

-- A value before others; none where either is none.
abbrev pub ahead : Option ItemValue → Option (List ItemValue) → Option (List ItemValue)
ahead none o = none
ahead (some v) none = none
ahead (some v) (some vs) = some (v ∷ vs)

-- Items one behind the other, by their rows; none where one has no value, or the bytes are not exactly the rows' widths
-- together.
abbrev pub values_in : List Row → List ℕ → Option (List ItemValue)
values_in [] [] = some []
values_in [] (b ∷ l) = none
values_in (r ∷ rs) l = ahead (value_of r (take r.width l)) (values_in rs (drop r.width l))

-- Of a FID and its field's bytes (without FID and length).
unfoldable pub values_of : ℕ → List ℕ → Option (List ItemValue)
values_of fid l = values_in (rows_of fid) l

-- ─── Written ───

-- Each value's bytes by its row, one behind the other.
abbrev pub bytes_in : List Row → List ItemValue → List ℕ
bytes_in [] vs = []
bytes_in (r ∷ rs) [] = []
bytes_in (r ∷ rs) (v ∷ vs) = value_bytes r v ++ bytes_in rs vs

unfoldable pub field_bytes_of : ℕ → List ItemValue → List ℕ
field_bytes_of fid vs = bytes_in (rows_of fid) vs

-- As many values as rows, and each fits its row.
abbrev pub fits_in : List Row → List ItemValue → Bool
fits_in [] [] = true
fits_in [] (v ∷ vs) = false
fits_in (r ∷ rs) [] = false
fits_in (r ∷ rs) (v ∷ vs) = fits r v && fits_in rs vs

unfoldable pub field_fits : ℕ → List ItemValue → Bool
field_fits fid vs = fits_in (rows_of fid) vs

-- ─── What holds of each field ───

-- The field with this FID and these bytes passes 8 and 9.
abbrev pub Accepted : ℕ → List ℕ → Type 0
Accepted fid l = (wrong_width (field_with fid l) ≡ false) × (wrong_item (field_with fid l) ≡ false)

pub record KnownLaws : Type 0 where
  -- A known field is accepted if and only if its items all have values.
  pub accepted : (fid : ℕ) → known fid ≡ true → (l : List ℕ) → Bytes l
      → Accepted fid l ↔ ((vs : List ItemValue) × (values_of fid l ≡ some vs))
  -- Bytes that are read are those that their values write.
  pub again : (fid : ℕ) (l : List ℕ) → Bytes l → (vs : List ItemValue) → values_of fid l ≡ some vs
      → (field_fits fid vs ≡ true) × (field_bytes_of fid vs ≡ l)
  -- Values that fit, written, have the field's width, are accepted, and are read back.
  pub back : (fid : ℕ) (vs : List ItemValue) → field_fits fid vs ≡ true
      → (length (field_bytes_of fid vs) ≡ width_of fid)
      × Accepted fid (field_bytes_of fid vs)
      × (values_of fid (field_bytes_of fid vs) ≡ some vs)
  -- Value i of the list is that of item i, counted from 0: what reading the item by place gives.
  pub item : (fid i kind scale start width : ℕ) → item_of fid i ≡ some_item kind scale start width
      → (l : List ℕ) (vs : List ItemValue) → values_of fid l ≡ some vs
      → (i < length vs) × (item_value_of fid i l ≡ given_at start (some (get_or vs i (char 0))))
