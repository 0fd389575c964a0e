-- What functions of this crate answer that is an Option or a Result, by name: for definitions, laws and proofs.
use Rattle.std.specs.Prelude.{ℕ, ℤ, Option, Result, Some}
use Rattle.book.specs.declared.levels.Level.{Level}
use Rattle.ftd.specs.declared.refusal.Refusal.{Refusal}
use Rattle.book.specs.declared.sums.Sums.{Sums}

-- Both sums within their limit, or one beyond it.
abbrev pub Totals : Type 0
Totals = Option Sums

-- A sum within its limit, or beyond it.
abbrev pub Total : Type 0
Total = Option ℤ

-- The mean match price in units of 0.0001, or none.
abbrev pub Mean : Type 0
Mean = Option ℤ

-- A price that was read.
abbrev pub Price : Type 0
Price = Option ℤ

-- What Start and Take answer.
abbrev pub Outcome : Type 0
Outcome = Result Unit Refusal

-- A quantity, or what is none: below 0 or above 4,294,967,295.
abbrev pub Quantity : Type 0
Quantity = Option ℕ

-- What stands at a place of a side.
abbrev pub MaybeLevel : Type 0
MaybeLevel = Option Level

abbrev pub some_level : ℤ → ℕ → MaybeLevel
some_level price quantity = Some (record { price = price; quantity = quantity })
