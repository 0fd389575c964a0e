use mathlib.Core.Path.{sym}
use lib.Seq.{length-take-le}
use native.Mathlib.Omega.{arith}
use borrow.Author.Rules.{rules}
use Rattle.fix.proofs.frame.Puts.{has-length}
use Rattle.fix.proofs.frame.has_length.Goals as goal

pub slice_bounds-stands_at-end : goal.slice_bounds-stands_at-end
slice_bounds-stands_at-end c = sym (length-take-le _ _ (omega arith))

pub returns : goal.returns
returns c = search (rules, has-length)
