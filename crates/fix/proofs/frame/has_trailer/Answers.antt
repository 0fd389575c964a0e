use mathlib.Core.Path.{sym}
use lib.Seq.{length-take-le}
use native.Mathlib.Omega.{arith}
use borrow.Author.Rules.{rules}
use Rattle.fix.proofs.frame.Puts.{has-trailer}
use Rattle.fix.proofs.frame.has_trailer.Goals as goal

pub slice_bounds-sum_of-end : goal.slice_bounds-sum_of-end
slice_bounds-sum_of-end c = sym (length-take-le _ _ (omega arith))

pub returns : goal.returns
returns c = search (rules, has-trailer)
