-- The classes of bytes that the code walks over, by name.
use Rattle.std.specs.Prelude.{ℕ, Bool}
use Rattle.ftd.specs.Values.{is_text, is_digit, is_zero, is_space}
use Rattle.ftd.specs.declared.values.Class.{Class}
use Rattle.ftd.specs.declared.values.Class.TheVariants.{Text, Digit, Zero, Space}

abbrev pub in_class : Class → ℕ → Bool
in_class Text = is_text
in_class Digit = is_digit
in_class Zero = is_zero
in_class Space = is_space
