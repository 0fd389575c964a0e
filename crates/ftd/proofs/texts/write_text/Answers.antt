use borrow.Author.Rules.{rules}
use Rattle.ftd.proofs.texts.Laws.{text-low, text-full}
use Rattle.ftd.proofs.signed.Stores.{misfit}
use Rattle.ftd.proofs.write.Puts.{fit-fine, by-short, by-fitting}
use Rattle.ftd.proofs.texts.write_text.Goals as goal

pub returns-then-not-text_fits : goal.returns-then-not-text_fits
returns-then-not-text_fits c =
    let said = misfit _ _ _ _ c.text_fits.ensures c.if-not-text_fits.true in
    record { answer = said.0; output = said.1 }

pub returns-in_err-room : goal.returns-in_err-room
returns-in_err-room c =
    let said = by-short _ _ _ (fit-fine _ _ c.text_fits.ensures c.if-not-text_fits.false) _ (text-full _ _ _ c.text_fits.ensures c.if-not-text_fits.false)
    _ c.room.ensures _ c.in_err-room.was _ (search rules) in
    record { answer = said.0; output = said.1 }

pub put_text-requires : goal.put_text-requires
put_text-requires c = (search (rules, text-low), search rules)

pub returns : goal.returns
returns c =
    let said = by-fitting _ _ _ (fit-fine _ _ c.text_fits.ensures c.if-not-text_fits.false) _ (text-full _ _ _ c.text_fits.ensures c.if-not-text_fits.false)
    _ c.room.ensures c.in_ok-room.was _ c.put_text.ensures in
    record { answer = said.0; output = said.1 }
