-- Which bytes are a value of an item's type (01, "Typed items"; Table 6 and Appendix B).
pub mod Laws
pub mod Helpers
use Rattle.std.specs.Prelude.{ℕ, ◌+◌, ◌-◌, ◌*◌, List, [], ◌∷◌, ◌++◌, Bool, true, false, cond, not, ◌&&◌, ◌||◌, length, get_or, take, drop, leb, ltb, eqb}
use Rattle.ftd.specs.Table.{char_kind, word_kind, int_kind, string_kind, number_kind, float_kind, date_kind, first_listed}
use Rattle.ftd.specs.Table.{last_listed, enumerations}
use Rattle.ftd.specs.Gregorian.{real_date}

-- ─── Classes of bytes ───

-- Each byte is of a class.
abbrev pub every : (ℕ → Bool) → List ℕ → Bool
every p [] = true
every p (x ∷ xs) = p x && every p xs

-- A byte of a String: 0x20 to 0xFF but 0x7F.
abbrev pub is_text : ℕ → Bool
is_text b = leb 0x20 b && not (eqb b 0x7F)

-- A digit, the digit 0, a space.
abbrev pub is_digit : ℕ → Bool
is_digit b = leb 0x30 b && leb b 0x39

abbrev pub is_zero : ℕ → Bool
is_zero b = eqb b 0x30

abbrev pub is_space : ℕ → Bool
is_space b = eqb b 0x20

-- ─── Char with an enumeration ───

abbrev pub among : ℕ → List ℕ → Bool
among b [] = false
among b (v ∷ vs) = eqb b v || among b vs

-- Its values, and 0 for unused.
unfoldable pub is_listed : ℕ → ℕ → Bool
is_listed kind b = eqb b 0 || among b (get_or enumerations (kind - first_listed) [])

-- ─── Number and Float ───

-- Digits; or '-' and digits that are not all 0, since minus zero is wrong. '-' alone is wrong.
unfoldable pub is_number : List ℕ → Bool
is_number l =
    cond (eqb (get_or l 0 0) 0x2D) (every is_digit (drop 1 l) && not (every is_zero (drop 1 l)))
    (ltb 0 (length l) && every is_digit l)

-- Float a,b: a bytes with '.' before the last b, and a Number without it. Before the point stands a byte at least,
-- which may be '-'.
abbrev pub point_at : ℕ → List ℕ → ℕ
point_at scale l = length l - (scale + 1)

unfoldable pub without_point : ℕ → List ℕ → List ℕ
without_point scale l = take (point_at scale l) l ++ drop (point_at scale l + 1) l

unfoldable pub is_float : ℕ → List ℕ → Bool
is_float scale l =
    leb (scale + 2) (length l) && (eqb (get_or l (point_at scale l) 0) 0x2E && is_number (without_point scale l))

-- ─── Date ───

-- What a digit stands for, and the number that two make.
abbrev pub digit_of : ℕ → ℕ
digit_of b = cond (is_digit b) (b - 0x30) 0

abbrev pub two_digits : ℕ → ℕ → ℕ
two_digits a b = digit_of a * 10 + digit_of b

abbrev pub year_of : List ℕ → ℕ
year_of l = two_digits (get_or l 0 0) (get_or l 1 0) * 100 + two_digits (get_or l 2 0) (get_or l 3 0)

abbrev pub month_of : List ℕ → ℕ
month_of l = two_digits (get_or l 4 0) (get_or l 5 0)

abbrev pub day_digits : List ℕ → ℕ
day_digits l = two_digits (get_or l 6 0) (get_or l 7 0)

-- All spaces, or YYYYMMDD with a real date (02, No. 7).
unfoldable pub is_date : List ℕ → Bool
is_date l =
    eqb (length l) 8 && (every is_space l || (every is_digit l && real_date (year_of l) (month_of l) (day_digits l)))

-- ─── An item ───

-- By kind and decimals. A Char without an enumeration, a Word and an Int are any bytes of their width.
unfoldable pub is_value : ℕ → ℕ → List ℕ → Bool
is_value kind scale l =
    cond (eqb kind char_kind) (eqb (length l) 1)
    (cond (eqb kind word_kind) (eqb (length l) 2)
    (cond (eqb kind int_kind) (eqb (length l) 4)
    (cond (eqb kind string_kind) (every is_text l)
    (cond (eqb kind number_kind) (is_number l)
    (cond (eqb kind float_kind) (is_float scale l)
    (cond (eqb kind date_kind) (is_date l)
    (cond (leb kind last_listed) (eqb (length l) 1 && is_listed kind (get_or l 0 0))
    false)))))))
