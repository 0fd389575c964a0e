-- Items of a field as the numbers that C and Rust get and give (include/ftd.h); and modes.
use Rattle.std.specs.Prelude.{ℕ, cond, not, eqb, ltb}
use Rattle.ftd.specs.declared.item.FieldItem.{FieldItem}
use Rattle.ftd.specs.declared.item.FieldItem.TheVariants.{NoItem, NoValue, Char, Word, Int, Text, Number, Float, Date}
use Rattle.ftd.specs.declared.dates.Date.{Date as DateValue}
use Rattle.ftd.specs.declared.dates.Date.TheVariants.{NoDate, Unused, Day}
use Rattle.ftd.specs.declared.mode.Mode.{Mode}
use Rattle.ftd.specs.declared.mode.Mode.TheVariants.{Private, Broadcast, Management, Dialog, Unknown}
use Rattle.exports.specs.Numbers.{flag}
use Rattle.exports.specs.declared.items.FtdItem.{FtdItem}

-- ─── Read: 0 no item, 1 no value, 2 Char, 3 Word, 4 Int, 5 String, 6 Number, 7 Float, 8 a day, 9 an unused date ───

-- A kind with one number or none: all but a String and a day.
abbrev pub value_numbers : ℕ → ℕ → ℕ → FtdItem
value_numbers kind minus x =
    record {
      start = 0;
      len = 0;
      value = x;
      year = 0;
      month = 0;
      day = 0;
      kind = kind;
      negative = minus;
    }

-- Where a String stands in the field.
abbrev pub text_numbers : ℕ → ℕ → FtdItem
text_numbers from size =
    record {
      start = from;
      len = size;
      value = 0;
      year = 0;
      month = 0;
      day = 0;
      kind = 5;
      negative = 0;
    }

-- Year, month and day of a Date.
abbrev pub day_numbers : ℕ → ℕ → ℕ → FtdItem
day_numbers y m d =
    record {
      start = 0;
      len = 0;
      value = 0;
      year = y;
      month = m;
      day = d;
      kind = 8;
      negative = 0;
    }

-- A Date. Of an item that has a value it is never "no date".
abbrev pub date_numbers : DateValue → FtdItem
date_numbers NoDate = value_numbers 1 0 0
date_numbers Unused = value_numbers 9 0 0
date_numbers (Day y m d) = day_numbers y m d

-- What was read.
abbrev pub item_numbers : FieldItem → FtdItem
item_numbers NoItem = value_numbers 0 0 0
item_numbers NoValue = value_numbers 1 0 0
item_numbers (Char x) = value_numbers 2 0 x
item_numbers (Word x) = value_numbers 3 0 x
item_numbers (Int x) = value_numbers 4 0 x
item_numbers (Text from size) = text_numbers from size
item_numbers (Number minus units) = value_numbers 6 (flag minus) units
item_numbers (Float minus units) = value_numbers 7 (flag minus) units
item_numbers (Date d) = date_numbers d

-- ─── To be written: the same numbers; any other kind, and a number that the type cannot have, is no value ───

-- A Char, a Word and an Int by number.
unfoldable pub char_for : ℕ → FieldItem
char_for x = cond (ltb x 256) (Char x) NoValue

unfoldable pub word_for : ℕ → FieldItem
word_for x = cond (ltb x 65536) (Word x) NoValue

unfoldable pub int_for : ℕ → FieldItem
int_for x = cond (ltb x 4294967296) (Int x) NoValue

-- The value that is to be written.
unfoldable pub item_for : FtdItem → FieldItem
item_for x =
    cond (eqb x.kind 0) NoItem
    (cond (eqb x.kind 2) (char_for x.value)
    (cond (eqb x.kind 3) (word_for x.value)
    (cond (eqb x.kind 4) (int_for x.value)
    (cond (eqb x.kind 5) (Text x.start x.len)
    (cond (eqb x.kind 6) (Number (not (eqb x.negative 0)) x.value)
    (cond (eqb x.kind 7) (Float (not (eqb x.negative 0)) x.value)
    (cond (eqb x.kind 8) (Date (Day x.year x.month x.day))
    (cond (eqb x.kind 9) (Date Unused)
    NoValue))))))))

-- ─── The mode of a message: 0 unknown, 1 private, 2 broadcast, 3 management, 4 dialog ───

abbrev pub mode_number : Mode → ℕ
mode_number Unknown = 0
mode_number Private = 1
mode_number Broadcast = 2
mode_number Management = 3
mode_number Dialog = 4
