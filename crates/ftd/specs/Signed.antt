-- The value of a Number or a Float (01, "Typed items"): a sign and a whole number of units, which are 1 or 10 to the
-- power -b.
pub mod Write
pub mod Integer
use Rattle.std.specs.Prelude.{ℕ, zero, suc, ◌+◌, ◌*◌, List, [], ◌∷◌, true, false, cond, ◌&&◌, length, get_or, drop, leb, eqb}
use Rattle.ftd.specs.Values.{digit_of, is_number, without_point, is_float}
use Rattle.std.specs.Prelude.{None}
use Rattle.ftd.specs.Types.{MaybeSigned, some_signed}

-- 10 to a power.
abbrev pub pow10 : ℕ → ℕ
pow10 zero = 1
pow10 (suc n) = 10 * pow10 n

-- The number that digits make behind those of n.
abbrev pub digits_of : ℕ → List ℕ → ℕ
digits_of n [] = n
digits_of n (d ∷ ds) = digits_of (n * 10 + digit_of d) ds

-- The value of a Number's bytes.
unfoldable pub signed_of : List ℕ → MaybeSigned
signed_of l = cond (eqb (get_or l 0 0) 0x2D) (some_signed true (digits_of 0 (drop 1 l))) (some_signed false (digits_of 0 l))

-- What bytes say as a Number, and as a Float with that many decimals. A value has at most 18 bytes, so that its units
-- fit 64 bits; no row of the table is wider.
unfoldable pub number_value : List ℕ → MaybeSigned
number_value l = cond (leb (length l) 18 && is_number l) (signed_of l) None

unfoldable pub float_value : ℕ → List ℕ → MaybeSigned
float_value scale l = cond (leb (length l) 18 && is_float scale l) (signed_of (without_point scale l)) None
