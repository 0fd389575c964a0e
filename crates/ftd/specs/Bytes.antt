-- Bytes, parts of them, and the numbers in them (01, first paragraph: unsigned, high byte first).
use Rattle.std.specs.Prelude.{ℕ, ◌+◌, ◌*◌, ◌/◌, ◌%◌, ◌<◌, List, [], ◌∷◌, ◌++◌, length, get_or, take, drop}

-- The number in the two bytes from a place on; bytes that are not there count as 0.
unfoldable pub be16_of : List ℕ → ℕ → ℕ
be16_of l at = get_or l at 0 * 256 + get_or l (at + 1) 0

-- The number in the four bytes from a place on.
unfoldable pub be32_of : List ℕ → ℕ → ℕ
be32_of l at = get_or l at 0 * 16777216 + get_or l (at + 1) 0 * 65536 + get_or l (at + 2) 0 * 256 + get_or l (at + 3) 0

-- `len` bytes from `start` on.
abbrev pub part : List ℕ → ℕ → ℕ → List ℕ
part l start len = take len (drop start l)

-- Each element is a byte. Past the end stands 0.
abbrev pub Bytes : List ℕ → Type 0
Bytes l = (i : ℕ) → get_or l i 0 < 256

-- Lists of bytes, one behind the other.
abbrev pub joined : List (List ℕ) → List ℕ
joined [] = []
joined (l ∷ ls) = l ++ joined ls

-- ─── Written bytes ───

-- A number in two bytes, and in four.
abbrev pub bytes16 : ℕ → List ℕ
bytes16 x = x / 256 ∷ x % 256 ∷ []

abbrev pub bytes32 : ℕ → List ℕ
bytes32 x = x / 16777216 ∷ x / 65536 % 256 ∷ x / 256 % 256 ∷ x % 256 ∷ []

-- The bytes with `vs` in place of what stood from `at` on.
unfoldable pub put : List ℕ → ℕ → List ℕ → List ℕ
put l at vs = take at l ++ vs ++ drop (at + length vs) l
