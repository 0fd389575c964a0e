use borrow.Author.Rules.{rules}
use native.Mathlib.Omega.{arith}
use Rattle.ftd.proofs.write.Puts.{length-packet, by-refusal, by-other, by-short, by-fitting, fits-told, plain_body}
use borrow.Author.Tests.{lt-ltb, le-ltb}
use Rattle.ftd.specs.Write.{plain_verdict}
use Rattle.ftd.proofs.write.write_plain.Goals as goal

pub returns-then-extension-gt-MOST_EXTENSION : goal.returns-then-extension-gt-MOST_EXTENSION
unfolding plain_verdict
returns-then-extension-gt-MOST_EXTENSION c =
    let said = by-refusal _ _ _ _ (rw (lt-ltb _ _ c.if-extension-gt-MOST_EXTENSION.true)) in
    record { answer = said.0; output = said.1 }

pub returns-in_err-room : goal.returns-in_err-room
unfolding plain_verdict
returns-in_err-room c =
    let said = by-short _ _ _
    (rw (
      le-ltb _ _ c.if-extension-gt-MOST_EXTENSION.false,
      ← c.is_plain.ensures,
      c.if-not-is_plain.false,
      ← c.plain_tags.ensures,
      c.if-not-plain_tags.false,
    ))
    _ (length-packet _ _ _) _ c.room.ensures _ c.in_err-room.was _ (search rules) in
    record { answer = said.0; output = said.1 }

pub put_packet-requires : goal.put_packet-requires
put_packet-requires c =
    let small = plain_body _ _ _ c.is_plain.ensures c.if-not-is_plain.false in
    (omega (arith, fits-told _ _ _ c.room.ensures c.in_ok-room.was), omega arith, small)

pub returns : goal.returns
unfolding plain_verdict
returns c =
    let said = by-fitting _ _ _
    (rw (
      le-ltb _ _ c.if-extension-gt-MOST_EXTENSION.false,
      ← c.is_plain.ensures,
      c.if-not-is_plain.false,
      ← c.plain_tags.ensures,
      c.if-not-plain_tags.false,
    ))
    _ (length-packet _ _ _) _ c.room.ensures c.in_ok-room.was _ c.put_packet.ensures in
    record { answer = said.0; output = said.1 }

pub returns-then-not-plain_tags : goal.returns-then-not-plain_tags
unfolding plain_verdict
returns-then-not-plain_tags c =
    let said = by-refusal _ _ _ _
    (rw (
      le-ltb _ _ c.if-extension-gt-MOST_EXTENSION.false,
      ← c.is_plain.ensures,
      c.if-not-is_plain.false,
      ← c.plain_tags.ensures,
      c.if-not-plain_tags.true,
    )) in
    record { answer = said.0; output = said.1 }

pub returns-then-wrong_body : goal.returns-then-wrong_body
unfolding plain_verdict
returns-then-wrong_body c =
    let said = by-refusal _ _ _ _
    (rw (
      le-ltb _ _ c.if-extension-gt-MOST_EXTENSION.false,
      ← c.is_plain.ensures,
      c.if-not-is_plain.true,
      ← c.wrong_body.ensures,
      c.if-wrong_body.true,
    )) in
    record { answer = said.0; output = said.1 }

pub returns-then-not-is_plain : goal.returns-then-not-is_plain
unfolding plain_verdict
returns-then-not-is_plain c =
    let said = by-other _ _ _ _
    (rw (
      le-ltb _ _ c.if-extension-gt-MOST_EXTENSION.false,
      ← c.is_plain.ensures,
      c.if-not-is_plain.true,
      ← c.wrong_body.ensures,
      c.if-wrong_body.false,
    )) in
    record { answer = said.0; output = said.1 }
