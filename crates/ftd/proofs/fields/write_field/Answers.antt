use borrow.Author.Rules.{rules}
use Rattle.ftd.proofs.write.Puts.{length-field, by-refusal, by-short, by-fitting}
use borrow.Author.Tests.{lt-ltb, le-ltb}
use Rattle.ftd.specs.Write.{field_verdict}
use Rattle.ftd.proofs.fields.write_field.Goals as goal

pub returns-then-bytes-gt-FIELD_CONTENT : goal.returns-then-bytes-gt-FIELD_CONTENT
unfolding field_verdict
returns-then-bytes-gt-FIELD_CONTENT c =
    let said = by-refusal _ _ _ _ (rw (lt-ltb _ _ c.if-bytes-gt-FIELD_CONTENT.true)) in
    record { answer = said.0; output = said.1 }

pub returns-in_err-room : goal.returns-in_err-room
unfolding field_verdict
returns-in_err-room c =
    let said = by-short _ _ _ (rw (le-ltb _ _ c.if-bytes-gt-FIELD_CONTENT.false)) _ (length-field _ _)
    _ c.room.ensures _ c.in_err-room.was _ (search rules) in
    record { answer = said.0; output = said.1 }

pub returns : goal.returns
unfolding field_verdict
returns c =
    let said = by-fitting _ _ _ (rw (le-ltb _ _ c.if-bytes-gt-FIELD_CONTENT.false)) _ (length-field _ _) _ c.room.ensures
    c.in_ok-room.was _ c.put_field.ensures in
    record { answer = said.0; output = said.1 }
