use native.Mathlib.Omega.{arith}
use borrow.Author.Rules.{rules}
use Rattle.flow.proofs.several.Received.{lies-inside, placed-packet, placed-buffer}
use Rattle.flow.proofs.several.placed.Goals as goal

pub overflow_add-result : goal.overflow_add-result
overflow_add-result c =
    omega (arith, c.requires.1, lies-inside c.args.n c.args.origin c.args.content c.requires.0 c.in-Packet.is)

pub returns-in-Packet : goal.returns-in-Packet
returns-in-Packet c = search (rules, placed-packet)

pub returns-in-Buffer : goal.returns-in-Buffer
returns-in-Buffer c = search (rules, placed-buffer)
