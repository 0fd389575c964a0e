use native.Mathlib.Omega.{arith}
use Rattle.listing.proofs.put_packet.Goals as goal

pub put_link-requires : goal.put_link-requires
put_link-requires c =
    let i = rw c.in-Link.is at c.requires.1 in
    (omega arith, omega (arith, i.0, i.1))

pub returns-in-Short : goal.returns-in-Short
returns-in-Short c =
    rw c.in-Short.is
    (c.put_word.ensures, omega arith)

pub returns-in-Link : goal.returns-in-Link
returns-in-Link c =
    rw c.in-Link.is
    (c.put_link.ensures.0, omega arith)

pub returns-in-Skipped : goal.returns-in-Skipped
returns-in-Skipped c =
    rw c.in-Skipped.is
    (c.put_word-in-Skipped.ensures, omega arith)

pub returns-in-Message : goal.returns-in-Message
returns-in-Message c =
    rw (
      c.in-Message.is,
      ← c.letter.ensures,
    ) (c.put_message.ensures.0, omega arith)

pub returns-in-Refused : goal.returns-in-Refused
returns-in-Refused c =
    rw (
      c.in-Refused.is,
      ← c.number.ensures,
    ) (c.put_refused.ensures.0, omega arith)
