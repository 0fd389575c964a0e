-- The words of a script's line: what a word says as a number, as a TID, as bytes.
use Rattle.std.specs.Prelude.{ℕ, zero, suc, ◌+◌, ◌-◌, ◌*◌, ◌%◌, List, [], ◌∷◌, ◌++◌, Bool, true, false, cond, length, get_or, take, drop, ltb, leb, eqb}
use Rattle.play.specs.Types.{Wide}
use Rattle.std.specs.Prelude.{Some, None}

-- ─── Where a word ends ───

-- How many bytes stand before the first space, or before the end.
unfoldable pub up_to_space : List ℕ → ℕ
up_to_space [] = 0
up_to_space (x ∷ l) = cond (eqb x 32) 0 (suc (up_to_space l))

-- Where the word that begins at a place of a line ends.
unfoldable pub end_of : List ℕ → ℕ → ℕ
end_of line at = at + up_to_space (drop at line)

-- ─── Numbers ───

-- The value of a digit: 0 to 9, then A to F and a to f as 10 to 15; of any other byte 16.
unfoldable pub digit_value : ℕ → ℕ
digit_value x =
    cond (ltb x 48) 16
    (cond (leb x 57) (x - 48)
    (cond (ltb x 65) 16
    (cond (leb x 70) (x - 55)
    (cond (ltb x 97) 16
    (cond (leb x 102) (x - 87) 16)))))

-- Stands for a word that says no number, or one that four bytes do not hold.
abbrev pub no_number : ℕ
no_number = 4294967296

-- A number n and the digits behind it.
unfoldable pub digits_from : ℕ → ℕ → List ℕ → ℕ
digits_from base n [] = n
digits_from base n (x ∷ l) =
    cond (leb base (digit_value x)) no_number
    (cond (leb no_number (n * base + digit_value x)) no_number (digits_from base (n * base + digit_value x) l))

-- A word as a number in a base: one digit at least.
unfoldable pub number_in : ℕ → List ℕ → ℕ
number_in base word = cond (eqb (length word) 0) no_number (digits_from base 0 word)

-- A TID has eight hexadecimal digits.
unfoldable pub tid_in : List ℕ → ℕ
tid_in word = cond (eqb (length word) 8) (number_in 16 word) no_number

-- A number n and the decimal digits behind it; one that eight bytes do not hold is none.
unfoldable pub wide_from : ℕ → List ℕ → Wide
wide_from n [] = Some n
wide_from n (x ∷ l) =
    cond (leb 10 (digit_value x)) None
    (cond (ltb 18446744073709551615 (n * 10 + digit_value x)) None (wide_from (n * 10 + digit_value x) l))

-- A word as a decimal number of eight bytes: one digit at least.
unfoldable pub wide_in : List ℕ → Wide
wide_in word = cond (eqb (length word) 0) None (wide_from 0 word)

abbrev pub is_number : Wide → Bool
is_number None = false
is_number (Some n) = true

-- Where the word says none, 0.
abbrev pub wide_number : Wide → ℕ
wide_number None = 0
wide_number (Some n) = n

-- ─── A series and its reserve: `SERIES`, or `SERIES:RESERVE` ───

-- How many bytes stand before the first colon, or before the end.
unfoldable pub up_to_colon : List ℕ → ℕ
up_to_colon [] = 0
up_to_colon (x ∷ l) = cond (eqb x 58) 0 (suc (up_to_colon l))

-- The number before the colon; of a word without one it is the word's.
unfoldable pub series_in : List ℕ → ℕ
series_in word = number_in 10 (take (up_to_colon word) word)

-- All that stands behind the first colon is the reserve; without a colon it is 0.
unfoldable pub reserve_in : List ℕ → Wide
reserve_in word =
    cond (ltb (up_to_colon word) (length word)) (wide_in (drop (up_to_colon word + 1) word)) (Some 0)

-- A series of two bytes, and a reserve of eight.
unfoldable pub says_share : List ℕ → Bool
says_share word = cond (ltb 65535 (series_in word)) false (is_number (reserve_in word))

-- ─── Bytes ───

unfoldable pub all_hex : List ℕ → Bool
all_hex [] = true
all_hex (x ∷ l) = cond (eqb (digit_value x) 16) false (all_hex l)

-- Pairs of hexadecimal digits, one at least; or `-` for no byte.
unfoldable pub says_bytes : List ℕ → Bool
says_bytes word =
    cond (eqb (length word) 0) false
    (cond (eqb (length word) 1) (eqb (get_or word 0 0) 45)
    (cond (eqb (length word % 2) 1) false (all_hex word)))

unfoldable pub pair_of : ℕ → ℕ → ℕ
pair_of high low = (digit_value high * 16 + digit_value low) % 256

-- The bytes that a word says; `-` has no pair.
unfoldable pub said_bytes : List ℕ → List ℕ
said_bytes [] = []
said_bytes (x ∷ []) = []
said_bytes (x ∷ y ∷ l) = pair_of x y ∷ said_bytes l

-- ─── Words that are the same ───

unfoldable pub same_word : List ℕ → List ℕ → Bool
same_word [] [] = true
same_word [] (y ∷ m) = false
same_word (x ∷ l) [] = false
same_word (x ∷ l) (y ∷ m) = cond (eqb x y) (same_word l m) false

-- ─── The words behind the first one: a line's arguments, counted from 0 ───

-- Where the word ends that follows the one that ends at a place; behind the line where none follows.
unfoldable pub next_end : List ℕ → ℕ → ℕ
next_end line e = cond (ltb e (length line)) (end_of line (e + 1)) (length line + 1)

-- Where word i of a line ends; the first one is word 0, and argument i is the word behind word i.
unfoldable pub end_at : List ℕ → ℕ → ℕ
end_at line zero = end_of line 0
end_at line (suc i) = next_end line (end_at line i)

unfoldable pub argument : List ℕ → ℕ → List ℕ
argument line i =
    let a = end_at line i + 1 in
    take (up_to_space (drop a line)) (drop a line)

-- Just so many.
unfoldable pub has_arguments : List ℕ → ℕ → Bool
has_arguments line n = eqb (end_at line n) (length line)

-- The k arguments from i on say bytes.
unfoldable pub all_bytes : List ℕ → ℕ → ℕ → Bool
all_bytes line i zero = true
all_bytes line i (suc k) = cond (says_bytes (argument line i)) (all_bytes line (i + 1) k) false

-- So many numbers, and behind them so many words that say bytes.
unfoldable pub has_form : List ℕ → ℕ → ℕ → Bool
has_form line numbers bytes = cond (has_arguments line (numbers + bytes)) (all_bytes line numbers bytes) false

-- ─── Names ───

-- One argument, of one byte at least.
unfoldable pub has_name : List ℕ → Bool
has_name line = cond (has_arguments line 1) (ltb 0 (length (argument line 0))) false

-- The name that a word says: its bytes as they stand, and none where it is `-`.
unfoldable pub name_in : List ℕ → List ℕ
name_in word = cond (same_word word (45 ∷ [])) [] word

-- ─── Lists of numbers: the arguments from one on ───

-- How many numbers up to a top one there are behind n of them, looking at so many more; one more than the most where
-- they are too many or one is no such number.
unfoldable pub numbers_behind : ℕ → ℕ → List ℕ → ℕ → ℕ → ℕ → ℕ
numbers_behind top most line i n zero = most + 1
numbers_behind top most line i n (suc more) =
    cond (has_arguments line (i + n)) n
    (cond (ltb top (number_in 10 (argument line (i + n)))) (most + 1) (numbers_behind top most line i (n + 1) more))

unfoldable pub number_count : ℕ → ℕ → List ℕ → ℕ → ℕ
number_count top most line i = numbers_behind top most line i 0 (most + 1)

-- A number up to a top one; where the argument says none, 0.
unfoldable pub number_up_to : ℕ → List ℕ → ℕ → ℕ
number_up_to top line i = let x = number_in 10 (argument line i) in cond (ltb top x) 0 x

-- The n values from place i on.
unfoldable pub list_from : (ℕ → ℕ) → ℕ → ℕ → List ℕ
list_from value i zero = []
list_from value i (suc n) = list_from value i n ++ (value (i + n) ∷ [])

-- The n numbers from argument i on.
abbrev pub numbers_from : ℕ → List ℕ → ℕ → ℕ → List ℕ
numbers_from top line i n = list_from (number_up_to top line) i n

-- The series of an opening: at most 64, of two bytes each.
abbrev pub most_named : ℕ
most_named = 64

abbrev pub series_count : List ℕ → ℕ → ℕ
series_count line i = number_count 65535 most_named line i

-- The series that argument i says, before its colon where it has one; where it says none, 0.
unfoldable pub series_at : List ℕ → ℕ → ℕ
series_at line i = let x = series_in (argument line i) in cond (ltb 65535 x) 0 x

abbrev pub series_from : List ℕ → ℕ → ℕ → List ℕ
series_from line i n = list_from (series_at line) i n

-- The same with reserves: how many there are behind n of them, looking at so many more, and their reserves.
unfoldable pub shares_behind : List ℕ → ℕ → ℕ → ℕ → ℕ
shares_behind line i n zero = most_named + 1
shares_behind line i n (suc more) =
    cond (has_arguments line (i + n)) n
    (cond (says_share (argument line (i + n))) (shares_behind line i (n + 1) more) (most_named + 1))

unfoldable pub share_count : List ℕ → ℕ → ℕ
share_count line i = shares_behind line i 0 (most_named + 1)

unfoldable pub reserve_at : List ℕ → ℕ → ℕ
reserve_at line i = wide_number (reserve_in (argument line i))

abbrev pub reserves_from : List ℕ → ℕ → ℕ → List ℕ
reserves_from line i n = list_from (reserve_at line) i n

-- The numbers of a calendar, of four bytes each: at most 16 sessions of three, and 64 holidays.
abbrev pub most_times : ℕ
most_times = 16

abbrev pub most_dates : ℕ
most_dates = 64

abbrev pub most_listed : ℕ
most_listed = 112

abbrev pub word_count : List ℕ → ℕ → ℕ
word_count line i = number_count 4294967295 most_listed line i

abbrev pub words_from : List ℕ → ℕ → ℕ → List ℕ
words_from line i n = numbers_from 4294967295 line i n
