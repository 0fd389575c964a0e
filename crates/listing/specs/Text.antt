-- Text: numbers and words as bytes, and a text put into a buffer (01, Lister).
use Rattle.std.specs.Prelude.{ℕ, zero, suc, ◌+◌, ◌/◌, ◌%◌, ◌≡◌, List, [], ◌∷◌, ◌++◌, cond, length, ltb}
use Rattle.ftd.specs.Bytes.{put}

-- ─── A text in a buffer ───

-- The buffer `l` became `out`, with `text` put at `at`, and `end` is the place behind the text.
pub record WroteText (l : List ℕ) (at : ℕ) (text out : List ℕ) (end : ℕ) : Type 0 where
  pub bytes : out ≡ put l at text
  pub place : end ≡ at + length text

-- ─── Numbers ───

-- In decimal, at most `fuel` digits and one.
unfoldable pub decimal_in : ℕ → ℕ → List ℕ
decimal_in zero n = (48 + n) ∷ []
decimal_in (suc fuel) n =
    let longer = decimal_in fuel (n / 10) ++ ((48 + n % 10) ∷ []) in cond (ltb n 10) ((48 + n) ∷ []) longer

-- Decimal digits, with no zeros in front (01, Lister: offset, series, number, field count).
unfoldable pub decimal_of : ℕ → List ℕ
decimal_of n = decimal_in n n

-- A hexadecimal digit: 0 to 9, A to F.
unfoldable pub hex_digit : ℕ → ℕ
hex_digit d = cond (ltb d 10) (48 + d) (55 + d)

-- The last k digits of a number in hexadecimal.
unfoldable pub hex_of : ℕ → ℕ → List ℕ
hex_of zero n = []
hex_of (suc k) n = hex_of k (n / 16) ++ (hex_digit (n % 16) ∷ [])

-- Eight upper-case digits (01, Lister: TID).
abbrev pub hex8_of : ℕ → List ℕ
hex8_of n = hex_of 8 n

-- ─── Words (01, Lister), in ASCII ───

abbrev pub tab : List ℕ
tab = 9 ∷ []

abbrev pub newline : List ℕ
newline = 10 ∷ []

-- A tab and a number in decimal.
abbrev pub tabbed : ℕ → List ℕ
tabbed n = tab ++ decimal_of n

abbrev pub heart : List ℕ
heart = 104 ∷ 101 ∷ 97 ∷ 114 ∷ 116 ∷ []

abbrev pub link : List ℕ
link = 108 ∷ 105 ∷ 110 ∷ 107 ∷ []

abbrev pub skip : List ℕ
skip = 115 ∷ 107 ∷ 105 ∷ 112 ∷ []

abbrev pub msg : List ℕ
msg = 109 ∷ 115 ∷ 103 ∷ []

abbrev pub end : List ℕ
end = 101 ∷ 110 ∷ 100 ∷ []

abbrev pub short : List ℕ
short = 115 ∷ 104 ∷ 111 ∷ 114 ∷ 116 ∷ []

abbrev pub refused : List ℕ
refused = 114 ∷ 101 ∷ 102 ∷ 117 ∷ 115 ∷ 101 ∷ 100 ∷ []

abbrev pub long : List ℕ
long = 108 ∷ 111 ∷ 110 ∷ 103 ∷ []
