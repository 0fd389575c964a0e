use native.Mathlib.Omega.{arith}
use Rattle.ftd.proofs.write.Puts.{field_put}
use Rattle.ftd.proofs.fields.put_field.Goals as goal

pub returns : goal.returns
returns c =
    field_put _ _ _ _ _ _ _ (omega arith) c.requires.1 c.put32.ensures c.put16.ensures c.copy_at.ensures
