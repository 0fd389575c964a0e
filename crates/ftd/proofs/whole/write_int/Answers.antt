use mathlib.Core.Path.{refl}
use borrow.Author.Rules.{rules}
use Rattle.ftd.proofs.write.Puts.{by-short, by-fitting}
use Rattle.ftd.proofs.whole.write_int.Goals as goal

pub returns-in_err-room : goal.returns-in_err-room
returns-in_err-room c =
    let said = by-short _ _ _ refl 4 refl _ c.room.ensures _ c.in_err-room.was _ (search rules) in
    record { answer = said.0; output = said.1 }

pub returns : goal.returns
returns c =
    let said = by-fitting _ _ _ refl 4 refl _ c.room.ensures c.in_ok-room.was _ c.put32.ensures in
    record { answer = said.0; output = said.1 }
