use Prim.Native.Nat.{◌+◌, ◌*◌, ◌/◌}
use mathlib.Core.Path.{refl}
use Rattle.calendar.proofs.days.Found.{month-found}
use Rattle.calendar.proofs.days.month_at.Goals as goal

pub returns : goal.returns
returns c =
    let k = c.lacking.result in
    let w =
    month-found c.args.leap c.args.n k ((12 * (c.args.n + k) + 373) / 367) c.requires.0 c.requires.1
    c.lacking.ensures.0 refl in
    (w.first, w.last, w.from, w.to)
