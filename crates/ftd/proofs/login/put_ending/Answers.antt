use mathlib.Core.Path.{sym}
use Rattle.ftd.proofs.bytes.Put.{put-nil}
use Rattle.ftd.proofs.login.put_ending.Goals as goal

pub returns-in_default : goal.returns-in_default
returns-in_default c = rw c.in_default.is (sym (put-nil _ _))
