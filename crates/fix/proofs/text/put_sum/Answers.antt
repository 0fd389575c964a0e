use Rattle.fix.specs.Text.{sum_text}
use Rattle.fix.proofs.text.put_sum.Goals as goal

pub returns : goal.returns
unfolding sum_text
returns c = rw (← c.size32-n.ensures.0, ← c.digit_of.ensures, ← c.digit_of-2.ensures, ← c.digit_of-3.ensures) c.copy_at.ensures
