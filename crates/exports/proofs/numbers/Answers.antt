use mathlib.Core.Path.{◌∙◌}
use native.Mathlib.Omega.{arith}
use Rattle.ftd.proofs.packet.Laws.{link-told, skipped-told, message-told, message-room}
use Rattle.exports.proofs.numbers.Goals as goal

pub bounds-p-1 : goal.bounds-p-1
bounds-p-1 c =
    let m = link-told _ _ c.requires c.in-LinkPacket.is in
    omega (arith, m.four)

pub bounds-p-0 : goal.bounds-p-0
bounds-p-0 c =
    let m = link-told _ _ c.requires c.in-LinkPacket.is in
    omega (arith, m.four)

pub bounds-p-1-in-SkippedPacket : goal.bounds-p-1-in-SkippedPacket
bounds-p-1-in-SkippedPacket c =
    let m = skipped-told _ _ c.requires c.in-SkippedPacket.is in
    omega (arith, m.four)

pub be16-requires : goal.be16-requires
be16-requires c =
    let m = skipped-told _ _ c.requires c.in-SkippedPacket.is in
    omega (arith, m.four)

pub bounds-p-0-in-SkippedPacket : goal.bounds-p-0-in-SkippedPacket
bounds-p-0-in-SkippedPacket c =
    let m = skipped-told _ _ c.requires c.in-SkippedPacket.is in
    omega (arith, m.four)

pub bounds-p-1-in-MessagePacket : goal.bounds-p-1-in-MessagePacket
bounds-p-1-in-MessagePacket c =
    let m = message-told _ _ c.requires c.in-MessagePacket.is in
    omega (arith, m.four)

pub be16-requires-in-MessagePacket : goal.be16-requires-in-MessagePacket
be16-requires-in-MessagePacket c =
    let m = message-told _ _ c.requires c.in-MessagePacket.is in
    omega (arith, m.four)

pub message-requires : goal.message-requires
message-requires c =
    let m = message-told _ _ c.requires c.in-MessagePacket.is in
    let r =
    message-room _ _ _ c.size8-in-MessagePacket.ensures.0 (c.size16-in-MessagePacket.ensures.0 ∙ c.be16-in-MessagePacket.ensures) m in
    (r.0, r.1, r.2, m.letter)

pub returns-in-TooFew : goal.returns-in-TooFew
returns-in-TooFew c = rw (c.in-TooFew.is, ← c.missing.ensures) c.plain.ensures

pub returns-in-LinkPacket : goal.returns-in-LinkPacket
returns-in-LinkPacket c =
    rw (
      c.in-LinkPacket.is,
      ← c.said_length.ensures,
      ← c.size8.ensures.0,
    ) c.link.ensures

pub returns-in-SkippedPacket : goal.returns-in-SkippedPacket
returns-in-SkippedPacket c =
    rw (
      c.in-SkippedPacket.is,
      ← c.said_length-in-SkippedPacket.ensures,
      ← c.size8-ext.ensures.0,
      ← c.be16.ensures,
      ← c.size16.ensures.0,
    ) c.skipped.ensures

pub returns-in-MessagePacket : goal.returns-in-MessagePacket
returns-in-MessagePacket c = rw c.in-MessagePacket.is c.message.ensures

pub returns-in-Against : goal.returns-in-Against
returns-in-Against c = rw (c.in-Against.is, ← c.number.ensures) c.plain-in-Against.ensures
