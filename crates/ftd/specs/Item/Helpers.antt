-- What the private function of writing an item promises; only its contract uses it.
use Rattle.std.specs.Prelude.{ℕ, Bool, true, false, eqb}
use Rattle.ftd.specs.Table.{word_kind, int_kind, string_kind, number_kind, float_kind, date_kind}
use Rattle.ftd.specs.declared.item.FieldItem.{FieldItem}
use Rattle.ftd.specs.declared.item.FieldItem.TheVariants.{NoItem, NoValue, Char, Word, Int, Text, Number, Float}
use Rattle.ftd.specs.declared.item.FieldItem.TheVariants.{Date}

-- It is of the item's type; a Char of any kind.
abbrev pub of_kind : ℕ → FieldItem → Bool
of_kind kind NoItem = false
of_kind kind NoValue = false
of_kind kind (Char b) = true
of_kind kind (Word x) = eqb kind word_kind
of_kind kind (Int x) = eqb kind int_kind
of_kind kind (Text start len) = eqb kind string_kind
of_kind kind (Number negative units) = eqb kind number_kind
of_kind kind (Float negative units) = eqb kind float_kind
of_kind kind (Date d) = eqb kind date_kind
