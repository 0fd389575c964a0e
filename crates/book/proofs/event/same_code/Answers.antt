-- The check finds this answer alone. It is written out for the wrong program contract_not_below (tests/wrong), which
-- writes that of another body in its place, by `same-pairs`.
use native.Mathlib.Omega.{arith}
use Rattle.std.proofs.lemmas.Grind.{common_steps}
use Rattle.book.proofs.event.same_code.Goals as goal

pub returns : goal.returns
returns c = grind (arith, common_steps)
