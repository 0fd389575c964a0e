use borrow.Author.Rules.{rules}
use mathlib.Core.Path.{refl}
use Rattle.ftd.proofs.signed.Stores.{misfit}
use Rattle.ftd.proofs.write.Puts.{fit-fine, by-short, by-fitting}
use Rattle.ftd.proofs.whole.write_char.Goals as goal

pub returns-then-not-char_fits : goal.returns-then-not-char_fits
returns-then-not-char_fits c =
    let said = misfit _ _ _ _ c.char_fits.ensures c.if-not-char_fits.true in
    record { answer = said.0; output = said.1 }

pub returns-in_err-room : goal.returns-in_err-room
returns-in_err-room c =
    let said = by-short _ _ _ (fit-fine _ _ c.char_fits.ensures c.if-not-char_fits.false) 1 refl
    _ c.room.ensures _ c.in_err-room.was _ (search rules) in
    record { answer = said.0; output = said.1 }

pub returns : goal.returns
returns c =
    let said = by-fitting _ _ _ (fit-fine _ _ c.char_fits.ensures c.if-not-char_fits.false) 1 refl
    _ c.room.ensures c.in_ok-room.was _ c.put8.ensures in
    record { answer = said.0; output = said.1 }
