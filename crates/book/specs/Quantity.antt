-- Quantities and increments (request No. 2).
use Rattle.std.specs.Prelude.{ℕ, ◌-◌, Bool, false, cond, ℤ, pos, negsuc, neg_ℤ, ◌+ℤ◌, ltb, leb, eqb}
use Rattle.book.specs.Types.{Quantity}
use Rattle.std.specs.Prelude.{Some, None}

-- Four bytes as two's complement: an increment.
unfoldable pub twos : ℕ → ℤ
twos v = cond (ltb v 2147483648) (pos v) (neg_ℤ (pos (4294967296 - v)))

-- A quantity from 0 to 4,294,967,295, or refusal 22.
abbrev pub in_range : ℤ → Quantity
in_range (pos n) = cond (leb n 4294967295) (Some n) None
in_range (negsuc n) = None

-- After a quotation: its own, or the increment added to the old one.
unfoldable pub new_of : Bool → ℕ → ℕ → Quantity
new_of absolute old v = cond absolute (Some v) (in_range (pos old +ℤ twos v))

-- A level stands, and a match takes more than it has.
unfoldable pub lacks : ℕ → ℕ → Bool
lacks old v = cond (eqb old 0) false (ltb old v)
