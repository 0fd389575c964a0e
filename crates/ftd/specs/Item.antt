-- The value of an item (01, "Typed items"): by its row of the table, what its bytes say, the bytes of a value, and
-- which values fit.
pub mod Helpers
pub mod Fields
use Rattle.std.specs.Prelude.{ℕ, ◌+◌, ◌<◌, ◌≡◌, ◌↔◌, List, [], ◌∷◌, Bool, true, false, cond, ◌&&◌, length, take, leb, ltb, eqb}
use Rattle.std.proofs.Math.Option.{Option, none, some}
use Rattle.ftd.specs.Bytes.{part, Bytes, bytes16, bytes32}
use Rattle.ftd.specs.Table.{word_kind, int_kind, string_kind, number_kind, float_kind, date_kind, Row, row, table}
use Rattle.ftd.specs.Table.Rule.{row_at}
use Rattle.ftd.specs.Values.{is_value}
use Rattle.ftd.specs.Whole.{char_fits, char_value, word_value, int_value}
use Rattle.ftd.specs.Signed.{number_value, float_value}
use Rattle.ftd.specs.Texts.{text_value, text_bytes, text_fits}
use Rattle.ftd.specs.Dates.{date_value, date_bytes, date_fits}
use Rattle.ftd.specs.Signed.Write.{number_bytes, number_fits, float_bytes, float_fits}
use Rattle.ftd.specs.Places.{item_of}
use Rattle.ftd.specs.declared.item.FieldItem.{FieldItem}
use Rattle.ftd.specs.declared.item.FieldItem.TheVariants.{NoItem, NoValue, Char, Word, Int, Text, Number, Float}
use Rattle.ftd.specs.declared.item.FieldItem.TheVariants.{Date}
use Rattle.ftd.specs.Types.{Whole}
use Rattle.ftd.specs.Types.{Text as StringValue}
use Rattle.ftd.specs.declared.dates.Date.{Date as DateValue}
use Rattle.ftd.specs.declared.dates.Date.TheVariants.{NoDate, Unused, Day}
use Rattle.std.specs.Prelude.{Some, None}
use Rattle.ftd.specs.Types.{MaybeItem, some_item, MaybeSigned}

-- What an item's bytes say, by its type. A text is without trailing spaces; of a Number or Float, minus and units.
pub data ItemValue : Type 0 where
  char : ℕ → ItemValue
  word : ℕ → ItemValue
  int : ℕ → ItemValue
  text : List ℕ → ItemValue
  number : Bool → ℕ → ItemValue
  float : Bool → ℕ → ItemValue
  date : DateValue → ItemValue

-- ─── Read ───

abbrev pub whole_as : (ℕ → ItemValue) → Whole → Option ItemValue
whole_as make None = none
whole_as make (Some x) = some (make x)

abbrev pub signed_as : (Bool → ℕ → ItemValue) → MaybeSigned → Option ItemValue
signed_as make None = none
signed_as make (Some found) = some (make found.negative found.units)

abbrev pub date_as : DateValue → Option ItemValue
date_as NoDate = none
date_as Unused = some (date Unused)
date_as (Day year month day) = some (date (Day year month day))

abbrev pub text_as : List ℕ → StringValue → Option ItemValue
text_as l None = none
text_as l (Some len) = some (text (take len l))

-- By kind and decimals.
unfoldable pub typed_value : ℕ → ℕ → List ℕ → Option ItemValue
typed_value kind scale l =
    cond (eqb kind word_kind) (whole_as word (word_value l))
    (cond (eqb kind int_kind) (whole_as int (int_value l))
    (cond (eqb kind string_kind) (text_as l (text_value l))
    (cond (eqb kind number_kind) (signed_as number (number_value l))
    (cond (eqb kind float_kind) (signed_as float (float_value scale l))
    (cond (eqb kind date_kind) (date_as (date_value l))
    (whole_as char (char_value kind l)))))))

-- Of a row. Bytes of another length than its width are no value of it.
unfoldable pub value_of : Row → List ℕ → Option ItemValue
value_of r l = cond (eqb (length l) r.width) (typed_value r.kind r.scale l) none

-- ─── Written ───

-- The bytes of a value that fits, of the row's width.
unfoldable pub value_bytes : Row → ItemValue → List ℕ
value_bytes r (char b) = b ∷ []
value_bytes r (word x) = bytes16 x
value_bytes r (int x) = bytes32 x
value_bytes r (text t) = text_bytes r.width t
value_bytes r (number negative units) = number_bytes r.width negative units
value_bytes r (float negative units) = float_bytes r.scale r.width negative units
value_bytes r (date d) = date_bytes d

-- It is a value of the row's type, and the row's width holds it.
unfoldable pub fits : Row → ItemValue → Bool
fits r (char b) = ltb b 256 && char_fits r.kind b
fits r (word x) = eqb r.kind word_kind && ltb x 65536
fits r (int x) = eqb r.kind int_kind && ltb x 4294967296
fits r (text t) = eqb r.kind string_kind && text_fits r.width t
fits r (number negative units) = eqb r.kind number_kind && number_fits r.width negative units
fits r (float negative units) = eqb r.kind float_kind && float_fits r.scale r.width negative units
fits r (date d) = eqb r.kind date_kind && date_fits d

-- ─── An item of a field ───

-- A value as the functions give it: of a text, where it stands in the field.
abbrev pub given_at : ℕ → Option ItemValue → FieldItem
given_at start none = NoValue
given_at start (some (char b)) = Char b
given_at start (some (word x)) = Word x
given_at start (some (int x)) = Int x
given_at start (some (text t)) = Text start (length t)
given_at start (some (number negative units)) = Number negative units
given_at start (some (float negative units)) = Float negative units
given_at start (some (date d)) = Date d

-- The item at a place; none where there is no such item, or it is not there whole.
abbrev pub value_at : ℕ → List ℕ → MaybeItem → FieldItem
value_at fid bytes None = NoItem
value_at fid bytes (Some found) =
    cond (leb (found.start + found.width) (length bytes))
    (given_at found.start (value_of (row fid found.kind found.width found.scale) (part bytes found.start found.width))) NoItem

-- Item i of a field, counted from 0, in the field's bytes (without FID and length).
unfoldable pub item_value_of : ℕ → ℕ → List ℕ → FieldItem
item_value_of fid i bytes = value_at fid bytes (item_of fid i)

-- A value as it is given to be written, the bytes of a text beside it.
abbrev pub taken_as : FieldItem → List ℕ → Option ItemValue
taken_as NoItem t = none
taken_as NoValue t = none
taken_as (Char b) t = some (char b)
taken_as (Word x) t = some (word x)
taken_as (Int x) t = some (int x)
taken_as (Text start len) t = some (text t)
taken_as (Number negative units) t = some (number negative units)
taken_as (Float negative units) t = some (float negative units)
taken_as (Date d) t = some (date d)

-- Whether it fits an item's place, and its bytes there. Nothing fits where there is no such item, or no value.
abbrev pub fits_at : ℕ → MaybeItem → Option ItemValue → Bool
fits_at fid None o = false
fits_at fid (Some found) none = false
fits_at fid (Some found) (some v) = fits (row fid found.kind found.width found.scale) v

abbrev pub bytes_at : ℕ → MaybeItem → Option ItemValue → List ℕ
bytes_at fid None o = []
bytes_at fid (Some found) none = []
bytes_at fid (Some found) (some v) = value_bytes (row fid found.kind found.width found.scale) v

unfoldable pub item_fits : ℕ → ℕ → FieldItem → List ℕ → Bool
item_fits fid i v t = fits_at fid (item_of fid i) (taken_as v t)

unfoldable pub item_written : ℕ → ℕ → FieldItem → List ℕ → List ℕ
item_written fid i v t = bytes_at fid (item_of fid i) (taken_as v t)

-- ─── What holds of each row ───

-- The check accepts bytes if and only if they have a value; bytes that are read are those that their value writes; and
-- a value that fits, written, has the row's width, is accepted, and is read back.
pub record RowLaws (r : Row) : Type 0 where
  pub accepted : (l : List ℕ) → Bytes l → length l ≡ r.width
      → (is_value r.kind r.scale l ≡ true) ↔ ((v : ItemValue) × (value_of r l ≡ some v))
  pub again : (l : List ℕ) → Bytes l → (v : ItemValue) → value_of r l ≡ some v → (fits r v ≡ true) × (value_bytes r v ≡ l)
  pub back : (v : ItemValue) → fits r v ≡ true
      → (length (value_bytes r v) ≡ r.width)
      × (is_value r.kind r.scale (value_bytes r v) ≡ true)
      × (value_of r (value_bytes r v) ≡ some v)

-- Over the whole table.
pub record ItemLaws : Type 0 where
  pub each : (i : ℕ) → i < length table → RowLaws (row_at i)
  -- So it is at the place of each item of a field.
  pub placed : (fid i kind scale start width : ℕ) → item_of fid i ≡ some_item kind scale start width
      → RowLaws (row fid kind width scale)
  -- The bytes at the place of a text are its value.
  pub texts : (fid i kind scale start width : ℕ) → item_of fid i ≡ some_item kind scale start width
      → (bytes : List ℕ) (at len : ℕ) → item_value_of fid i bytes ≡ Text at len
      → value_of (row fid kind width scale) (part bytes start width) ≡ some (text (part bytes at len))
