-- The items of a content's fields (01, "Typed items", and refusals 8 and 9).
use Rattle.std.specs.Prelude.{ℕ, List, [], ◌∷◌, Bool, true, false, cond, not, ◌&&◌, ◌||◌, length, take, drop, leb, eqb}
use Rattle.ftd.specs.Fields.{fields_of, fid_of, bytes_of}
use Rattle.ftd.specs.Table.{Row, rows_of, width_of, known}
use Rattle.ftd.specs.Values.{is_value}
use Rattle.ftd.specs.declared.refusal.Refusal.TheVariants.{FieldLength, Item}
use Rattle.ftd.specs.Types.{Checked}
use Rattle.std.specs.Prelude.{Ok, Err}

-- ─── Refusal 8: a known FID, other width ───

abbrev pub other_width : ℕ → ℕ → Bool
other_width fid len = known fid && not (eqb len (width_of fid))

abbrev pub any_other : List (List ℕ) → Bool
any_other [] = false
any_other (f ∷ fs) = other_width (fid_of f) (length (bytes_of f)) || any_other fs

unfoldable pub wrong_width : List ℕ → Bool
wrong_width content = any_other (fields_of content)

-- ─── Refusal 9: an item is not a value of its type ───

-- The item at the front of some bytes is there whole, and a value.
abbrev pub item_good : Row → List ℕ → Bool
item_good r l = leb r.width (length l) && is_value r.kind r.scale (take r.width l)

-- The items of a field, one behind the other.
abbrev pub items_good : List Row → List ℕ → Bool
items_good [] l = true
items_good (r ∷ rs) l = item_good r l && items_good rs (drop r.width l)

-- Fields in order, items in each, up to the first item that is wrong. An unknown FID has no items, and passes.
abbrev pub walk_fields : List (List ℕ) → Checked
walk_fields [] = (Ok tt)
walk_fields (f ∷ fs) = cond (items_good (rows_of (fid_of f)) (bytes_of f)) (walk_fields fs) (Err Item)

unfoldable pub walk_of : List ℕ → Checked
walk_of content = walk_fields (fields_of content)

-- The same as a test: some item is not a value of its type.
abbrev pub is_refused : Checked → Bool
is_refused (Ok tt) = false
is_refused (Err r) = true

unfoldable pub wrong_item : List ℕ → Bool
wrong_item content = is_refused (walk_of content)

-- ─── Both, 8 over all fields first ───

unfoldable pub check_of : List ℕ → Checked
check_of content = cond (wrong_width content) (Err FieldLength) (walk_of content)
