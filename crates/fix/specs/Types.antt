-- What functions of this crate answer that is an Option or a Result, by name: for definitions, laws and proofs.
use Rattle.std.specs.Prelude.{ℕ, Option, Some}
use Rattle.fix.specs.declared.fields.Front.{Front}
use Rattle.fix.specs.declared.frame.Frame.{Frame}
use Rattle.ftd.specs.declared.packet.Span.{Span}

-- A text as a number of 1 to 9 digits.
abbrev pub Number : Type 0
Number = Option ℕ

-- A field: its tag, and place and length of its text.
abbrev pub MaybeFront : Type 0
MaybeFront = Option Front

abbrev pub some_front : ℕ → ℕ → ℕ → MaybeFront
some_front tag start len = Some (record { tag = tag; start = start; len = len })

-- One whole frame: the places of its type and of its fields.
abbrev pub MaybeFrame : Type 0
MaybeFrame = Option Frame

abbrev pub some_frame : Span → Span → MaybeFrame
some_frame name fields = Some (record { name = name; fields = fields })
