-- What functions of this crate answer that is an Option or a Result, by name: for definitions, laws and proofs.
use Rattle.std.specs.Prelude.{ℕ, Option}

-- A number of eight bytes, or none.
abbrev pub Wide : Type 0
Wide = Option ℕ
