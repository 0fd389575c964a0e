use Rattle.ftd.proofs.chain.Pieces.{tags-long}
use Rattle.ftd.specs.Chain.{packet_for, header_for}
use mathlib.Core.Path.{◌≡◌}
use native.Mathlib.Omega.{arith}
use Prim.Native.Nat.{◌%◌}
use borrow.Author.Rules.{rules}
use Rattle.ftd.proofs.chain.put_piece.Goals as goal

pub put_tagged-requires : goal.put_tagged-requires
put_tagged-requires c =
    let t = tags-long c.args.m c.args.j in
    let u = tags-long c.args.m (c.args.j % 65536) in
    search rules

pub returns : goal.returns
unfolding packet_for header_for
returns c =
    let k : c.args.c.count % 65536 ≡ c.args.c.count = omega (arith, c.requires.0.few, c.requires.0.small) in
    let j : c.args.j % 65536 ≡ c.args.j = omega (arith, c.requires.1) in
    rw (k, j, c.chain_at.ensures) at c.put_tagged.ensures
