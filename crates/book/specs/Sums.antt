-- The sums of price times volume and of volumes over the day's matches (request No. 2), and their mean (No. 9).
pub mod Laws
use Rattle.std.specs.Prelude.{ℕ, ◌+◌, ◌-◌, ◌/◌, ◌%◌, Bool, true, false, cond, ℤ, pos, negsuc, neg_ℤ, nat_abs, ◌+ℤ◌, ◌*ℤ◌, ltb, eqb}
use Rattle.std.specs.Int.Signed.{lt_z}
use Rattle.book.specs.declared.levels.Level.{Level}
use Rattle.book.specs.declared.sums.Sums.{Sums}
use Rattle.book.specs.Types.{Totals}
use Rattle.book.specs.Types.{Total}
use Rattle.book.specs.Types.{Mean}
use Rattle.std.specs.Prelude.{Some, None}

abbrev pub no_sums : Sums
no_sums = record { turnover = pos 0; volume = pos 0 }

-- A sum beyond 9,000,000,000,000,000,000 on either side of zero.
unfoldable pub beyond : ℤ → Bool
beyond z = cond (lt_z (pos 9000000000000000000) z) true (lt_z z (negsuc 8999999999999999999))

-- A sum with what is added to it, or refusal 24. The sum itself is never beyond the limit in a book that calls made.
unfoldable pub added_to : ℤ → ℤ → Total
added_to sum x = cond (beyond sum) None (cond (beyond (sum +ℤ x)) None (Some (sum +ℤ x)))

abbrev pub both_of : Total → Total → Totals
both_of None t = None
both_of (Some turnover) None = None
both_of (Some turnover) (Some volume) = Some (record { turnover = turnover; volume = volume })

-- Both sums with a match: price times volume, with its sign, and volume.
unfoldable pub summed_with : Sums → Level → Totals
summed_with s o = both_of (added_to s.turnover (o.price *ℤ pos o.quantity)) (added_to s.volume (pos o.quantity))

-- ─── The mean, to the nearest 0.0001 and at the exact half to the even last digit (request No. 9) ───

-- A quotient cut down is one too low: what remains is above half the volume, or is the half, and the quotient is odd.
unfoldable pub goes_up : ℕ → ℕ → ℕ → Bool
goes_up q r v = cond (ltb (v - r) r) true (cond (ltb r (v - r)) false (eqb (q % 2) 1))

-- The whole number nearest to a size over a volume.
unfoldable pub nearest_of : ℕ → ℕ → ℕ
nearest_of size v = cond (goes_up (size / v) (size % v) v) (size / v + 1) (size / v)

-- A size with the sign of a sum.
abbrev pub with_sign : ℤ → ℕ → ℤ
with_sign (pos n) size = pos size
with_sign (negsuc n) size = neg_ℤ (pos size)

-- The mean match price: the sum of price times volume over the sum of volumes, to the nearest; none without volume.
unfoldable pub mean_of : ℤ → ℤ → Mean
mean_of sum volume = cond (lt_z (pos 0) volume) (Some (with_sign sum (nearest_of (nat_abs sum) (nat_abs volume)))) None
