use borrow.Author.Rules.{rules}
use Rattle.ftd.proofs.signed.Stores.{misfit, float-low, float-high, float-full}
use Rattle.ftd.proofs.write.Puts.{fit-fine, by-short, by-fitting}
use Rattle.ftd.proofs.signed.write_float.Goals as goal

pub returns-then-not-float_fits : goal.returns-then-not-float_fits
returns-then-not-float_fits c =
    let said = misfit _ _ _ _ c.float_fits.ensures c.if-not-float_fits.true in
    record { answer = said.0; output = said.1 }

pub returns-in_err-room : goal.returns-in_err-room
returns-in_err-room c =
    let said = by-short _ _ _ (fit-fine _ _ c.float_fits.ensures c.if-not-float_fits.false) _ (float-full _ _ _ _ _ c.float_fits.ensures c.if-not-float_fits.false)
    _ c.room.ensures _ c.in_err-room.was _ (search rules) in
    record { answer = said.0; output = said.1 }

pub put_float-requires : goal.put_float-requires
put_float-requires c =
    (rw c.size8.ensures.0 (float-low _ _ _ _ _ c.float_fits.ensures c.if-not-float_fits.false), float-high _ _ _ _ _ c.float_fits.ensures c.if-not-float_fits.false, search rules)

pub returns : goal.returns
returns c =
    let said = by-fitting _ _ _ (fit-fine _ _ c.float_fits.ensures c.if-not-float_fits.false) _ (float-full _ _ _ _ _ c.float_fits.ensures c.if-not-float_fits.false)
    _ c.room.ensures c.in_ok-room.was _ (rw c.size8.ensures.0 at c.put_float.ensures) in
    record { answer = said.0; output = said.1 }
