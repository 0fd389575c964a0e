-- The value of a Number or a Float as a plain signed number of units (01, "Typed items").
use Rattle.std.specs.Prelude.{ℕ, suc, Bool, true, false, cond, ℤ, pos, negsuc, neg_ℤ, leb}
use Rattle.ftd.specs.Types.{Integer}
use Rattle.std.specs.Prelude.{Some, None}
use Rattle.ftd.specs.Types.{MaybeSigned, some_signed}

-- Sign and magnitude together.
abbrev pub signed_units : Bool → ℕ → ℤ
signed_units negative units = cond negative (neg_ℤ (pos units)) (pos units)

-- Units of at most 18 digits, as every value that is read has them.
unfoldable pub integer_of : MaybeSigned → Integer
integer_of None = None
integer_of (Some found) = cond (leb found.units 999999999999999999) (Some (signed_units found.negative found.units)) None

-- And apart again.
unfoldable pub from_integer : ℤ → MaybeSigned
from_integer (pos n) = cond (leb n 999999999999999999) (some_signed false n) None
from_integer (negsuc n) = cond (leb (suc n) 999999999999999999) (some_signed true (suc n)) None
