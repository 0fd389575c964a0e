-- Values as they are written (01, "Typed items"): the bytes of each, and whether it fits its type and width.
use Rattle.std.specs.Prelude.{ℕ, zero, suc, ◌+◌, ◌-◌, ◌/◌, ◌%◌, List, [], ◌∷◌, ◌++◌, Bool, cond, ◌&&◌, leb, ltb}
use Rattle.ftd.specs.Signed.{pow10}

-- ─── Number and Float ───

-- The last n digits of a number, filled with 0 in front.
abbrev pub digits_in : ℕ → ℕ → List ℕ
digits_in zero x = []
digits_in (suc n) x = digits_in n (x / 10) ++ ((0x30 + x % 10) ∷ [])

-- A Number of a width: digits filled with 0 in front, first byte '-' if negative.
unfoldable pub number_bytes : ℕ → Bool → ℕ → List ℕ
number_bytes width negative units = cond negative (0x2D ∷ digits_in (width - 1) units) (digits_in width units)

-- The digits hold it, and minus zero is none. At most 18 bytes, as when it is read.
unfoldable pub number_fits : ℕ → Bool → ℕ → Bool
number_fits width negative units =
    leb width 18
    && cond negative (leb 1 width && (ltb 0 units && ltb units (pow10 (width - 1))))
    (leb 1 width && ltb units (pow10 width))

-- Float a,b, of `width` bytes in all: the same with '.' before the last b digits.
unfoldable pub float_bytes : ℕ → ℕ → Bool → ℕ → List ℕ
float_bytes scale width negative units =
    number_bytes (width - (scale + 1)) negative (units / pow10 scale) ++ (0x2E ∷ digits_in scale units)

unfoldable pub float_fits : ℕ → ℕ → Bool → ℕ → Bool
float_fits scale width negative units = leb (scale + 2) width && (leb width 18 && number_fits (width - 1) negative units)
