-- Texts of JR/T 0087 (002, 5.1): the separators, numbers of 1 to 9 digits, and the sum of bytes.
use Rattle.std.specs.Prelude.{ℕ, suc, ◌+◌, ◌*◌, ◌-◌, ◌/◌, ◌%◌, List, [], ◌∷◌, Bool, true, false, cond, ◌&&◌, length, get_or, drop, ltb, eqb}
use Rattle.fix.specs.Types.{Number}
use Rattle.std.specs.Prelude.{Some, None}

-- The separator SOH, and `=`.
abbrev pub soh : ℕ
soh = 1

abbrev pub equals : ℕ
equals = 61

-- How many bytes stand before the first byte c; all where there is none.
abbrev pub until : ℕ → List ℕ → ℕ
until c [] = 0
until c (x ∷ l) = cond (eqb x c) 0 (suc (until c l))

-- The bytes from a place on begin with these.
abbrev pub begins : List ℕ → List ℕ → Bool
begins l [] = true
begins [] (w ∷ ws) = false
begins (x ∷ l) (w ∷ ws) = eqb x w && begins l ws

unfoldable pub stands_at : List ℕ → ℕ → List ℕ → Bool
stands_at l at w = begins (drop at l) w

-- ─── Numbers: 1 to 9 digits; zeros in front are allowed ───

-- The digits, behind those that gave n.
abbrev pub number_from : ℕ → List ℕ → Number
number_from n [] = Some n
number_from n (c ∷ l) = cond (ltb c 48) None (cond (ltb 57 c) None (number_from (n * 10 + (c - 48)) l))

unfoldable pub number_in : List ℕ → Number
number_in l = cond (eqb (length l) 0) None (cond (ltb 9 (length l)) None (number_from 0 l))

-- A plain number has no zero in front: tags.
unfoldable pub plain_in : List ℕ → Number
plain_in l = cond (eqb (get_or l 0 0) 48) None (number_in l)

-- Its value, or another number where it is none.
abbrev pub or_else : ℕ → Number → ℕ
or_else d None = d
or_else d (Some n) = n

abbrev pub is_none : Number → Bool
is_none None = true
is_none (Some n) = false

-- ─── The flag's text: exactly the one byte Y ───

unfoldable pub is_yes : List ℕ → Bool
is_yes l = eqb (length l) 1 && eqb (get_or l 0 0) 89

-- ─── The checksum: the sum of all bytes, modulo 256 ───

abbrev pub total : List ℕ → ℕ
total [] = 0
total (x ∷ l) = x + total l

unfoldable pub sum_of : List ℕ → ℕ
sum_of l = total l % 256

-- ─── Written ───

-- The last digit of a number.
abbrev pub letter : ℕ → ℕ
letter n = 48 + n % 10

-- A length of at most four digits, without zeros in front.
unfoldable pub length_text : ℕ → List ℕ
length_text n =
    cond (ltb n 10) (letter n ∷ [])
    (cond (ltb n 100) (letter (n / 10) ∷ letter n ∷ [])
    (cond (ltb n 1000) (letter (n / 100) ∷ letter (n / 10) ∷ letter n ∷ [])
    (letter (n / 1000) ∷ letter (n / 100) ∷ letter (n / 10) ∷ letter n ∷ [])))

-- A sum in three digits.
unfoldable pub sum_text : ℕ → List ℕ
sum_text n = letter (n / 100) ∷ letter (n / 10) ∷ letter n ∷ []
