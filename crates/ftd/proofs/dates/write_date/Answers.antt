use borrow.Author.Rules.{rules}
use Rattle.ftd.proofs.dates.Verdicts.{date-wide}
use Rattle.ftd.proofs.signed.Stores.{misfit}
use Rattle.ftd.proofs.write.Puts.{fit-fine, by-short, by-fitting}
use Rattle.ftd.proofs.dates.write_date.Goals as goal

pub returns-then-not-date_fits : goal.returns-then-not-date_fits
returns-then-not-date_fits c =
    let said = misfit _ _ _ _ c.date_fits.ensures c.if-not-date_fits.true in
    record { answer = said.0; output = said.1 }

pub returns-in_err-room : goal.returns-in_err-room
returns-in_err-room c =
    let said = by-short _ _ _ (fit-fine _ _ c.date_fits.ensures c.if-not-date_fits.false) 8 (date-wide _ _ c.date_fits.ensures c.if-not-date_fits.false)
    _ c.room.ensures _ c.in_err-room.was _ (search rules) in
    record { answer = said.0; output = said.1 }

pub returns : goal.returns
returns c =
    let said = by-fitting _ _ _ (fit-fine _ _ c.date_fits.ensures c.if-not-date_fits.false) 8 (date-wide _ _ c.date_fits.ensures c.if-not-date_fits.false)
    _ c.room.ensures c.in_ok-room.was _ c.put_date.ensures in
    record { answer = said.0; output = said.1 }
