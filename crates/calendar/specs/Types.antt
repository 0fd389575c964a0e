-- What functions of this crate answer that is an Option or a Result, by name: for definitions, laws and proofs.
use Rattle.std.specs.Prelude.{ℕ, Option, Result}
use Rattle.ftd.specs.declared.refusal.Refusal.{Refusal}

-- What the day of a date is: none where it is no real date, or before 1970.
abbrev pub DayFound : Type 0
DayFound = Option ℕ

-- What Set answers.
abbrev pub SetAnswer : Type 0
SetAnswer = Result Unit Refusal

-- What a time is: outside every session, or inside one, with its trade date YYYYMMDD.
abbrev pub TradeTime : Type 0
TradeTime = Option ℕ
