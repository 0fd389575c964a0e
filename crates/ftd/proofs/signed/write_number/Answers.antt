use borrow.Author.Rules.{rules}
use Rattle.ftd.proofs.signed.Stores.{misfit, number-low, number-wide}
use Rattle.ftd.proofs.write.Puts.{fit-fine, by-short, by-fitting}
use Rattle.ftd.proofs.signed.write_number.Goals as goal

pub returns-then-not-number_fits : goal.returns-then-not-number_fits
returns-then-not-number_fits c =
    let said = misfit _ _ _ _ c.number_fits.ensures c.if-not-number_fits.true in
    record { answer = said.0; output = said.1 }

pub returns-in_err-room : goal.returns-in_err-room
returns-in_err-room c =
    let said = by-short _ _ _ (fit-fine _ _ c.number_fits.ensures c.if-not-number_fits.false) _ (number-wide _ _ _ _ c.number_fits.ensures c.if-not-number_fits.false)
    _ c.room.ensures _ c.in_err-room.was _ (search rules) in
    record { answer = said.0; output = said.1 }

pub put_number-requires : goal.put_number-requires
put_number-requires c = (search (rules, number-low), search rules)

pub returns : goal.returns
returns c =
    let said = by-fitting _ _ _ (fit-fine _ _ c.number_fits.ensures c.if-not-number_fits.false) _ (number-wide _ _ _ _ c.number_fits.ensures c.if-not-number_fits.false)
    _ c.room.ensures c.in_ok-room.was _ c.put_number.ensures in
    record { answer = said.0; output = said.1 }
