-- Whether a line of Appendix E is of a message, and the test that is computed over all lines; only private contracts
-- and the proof of the rule use them.
use Rattle.std.specs.Prelude.{ℕ, List, [], ◌∷◌, Bool, true, not, ◌&&◌, eqb}
use Rattle.ftd.specs.Composition.{CompositionLine}
use Rattle.ftd.specs.Composition.Rule.{again, line_right}

-- A line is of the message with that TID and direction.
abbrev pub line_of : CompositionLine → ℕ → ℕ → Bool
line_of r tid direction = eqb r.tid tid && eqb r.direction direction

abbrev pub none_again : CompositionLine → List CompositionLine → Bool
none_again r [] = true
none_again r (s ∷ ss) = not (again r s) && none_again r ss

-- The test: each line is right, and no field is listed twice for a message.
abbrev pub table_right : List CompositionLine → Bool
table_right [] = true
table_right (r ∷ rs) = line_right r && (none_again r rs && table_right rs)
