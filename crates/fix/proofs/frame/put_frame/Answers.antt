use mathlib.Core.Path.{refl, sym}
use lib.Seq.{length-take-le}
use native.Mathlib.Omega.{arith}
use Rattle.fix.proofs.frame.Puts.{frame-put}
use Rattle.fix.proofs.frame.put_frame.Goals as goal

pub slice_bounds-sum_of-end-2 : goal.slice_bounds-sum_of-end-2
slice_bounds-sum_of-end-2 c = sym (length-take-le _ _ (omega arith))

pub returns : goal.returns
returns c =
    frame-put _ _ _ _ _ _ _ _ _ c.requires.1 c.requires.2 refl c.put_summed.ensures c.sum_of-sum.ensures.0
    c.put_trailer.ensures
