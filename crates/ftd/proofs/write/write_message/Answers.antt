use borrow.Author.Rules.{rules}
use Rattle.ftd.proofs.write.Puts.{length-message, by-refusal, by-short, by-fitting}
use borrow.Author.Tests.{lt-ltb, le-ltb}
use Rattle.ftd.specs.Write.{message_verdict}
use Rattle.ftd.proofs.write.write_message.Goals as goal

pub returns-then-extension-gt-MOST_EXTENSION : goal.returns-then-extension-gt-MOST_EXTENSION
unfolding message_verdict
returns-then-extension-gt-MOST_EXTENSION c =
    let said = by-refusal _ _ _ _ (rw (lt-ltb _ _ c.if-extension-gt-MOST_EXTENSION.true)) in
    record { answer = said.0; output = said.1 }

pub returns-then-content-gt-PACKET_CONTENT : goal.returns-then-content-gt-PACKET_CONTENT
unfolding message_verdict
returns-then-content-gt-PACKET_CONTENT c =
    let said = by-refusal _ _ _ _ (rw (le-ltb _ _ c.if-extension-gt-MOST_EXTENSION.false, lt-ltb _ _ c.if-content-gt-PACKET_CONTENT.true)) in
    record { answer = said.0; output = said.1 }

pub returns-in_err-room : goal.returns-in_err-room
unfolding message_verdict
returns-in_err-room c =
    let said = by-short _ _ _
    (rw (
      le-ltb _ _ c.if-extension-gt-MOST_EXTENSION.false,
      le-ltb _ _ c.if-content-gt-PACKET_CONTENT.false,
      ← c.good_tags.ensures,
      c.if-not-good_tags.false,
      ← c.exact_run.ensures,
      c.if-not-exact_run.false,
    ))
    _ (length-message _ _ _) _ c.room.ensures _ c.in_err-room.was _ (search rules) in
    record { answer = said.0; output = said.1 }

pub returns : goal.returns
unfolding message_verdict
returns c =
    let said = by-fitting _ _ _
    (rw (
      le-ltb _ _ c.if-extension-gt-MOST_EXTENSION.false,
      le-ltb _ _ c.if-content-gt-PACKET_CONTENT.false,
      ← c.good_tags.ensures,
      c.if-not-good_tags.false,
      ← c.exact_run.ensures,
      c.if-not-exact_run.false,
    ))
    _ (length-message _ _ _) _ c.room.ensures c.in_ok-room.was _ c.put_message.ensures in
    record { answer = said.0; output = said.1 }

pub returns-then-not-exact_run : goal.returns-then-not-exact_run
unfolding message_verdict
returns-then-not-exact_run c =
    let said = by-refusal _ _ _ _
    (rw (
      le-ltb _ _ c.if-extension-gt-MOST_EXTENSION.false,
      le-ltb _ _ c.if-content-gt-PACKET_CONTENT.false,
      ← c.good_tags.ensures,
      c.if-not-good_tags.false,
      ← c.exact_run.ensures,
      c.if-not-exact_run.true,
    )) in
    record { answer = said.0; output = said.1 }

pub returns-then-not-good_tags : goal.returns-then-not-good_tags
unfolding message_verdict
returns-then-not-good_tags c =
    let said = by-refusal _ _ _ _
    (rw (
      le-ltb _ _ c.if-extension-gt-MOST_EXTENSION.false,
      le-ltb _ _ c.if-content-gt-PACKET_CONTENT.false,
      ← c.good_tags.ensures,
      c.if-not-good_tags.true,
    )) in
    record { answer = said.0; output = said.1 }
