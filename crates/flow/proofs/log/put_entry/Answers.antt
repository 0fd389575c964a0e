use Prim.Native.Nat.{◌≤◌}
use native.Mathlib.Omega.{arith}
use lib.ListN.{length}
use borrow.Author.Rules.{rules}
use Rattle.flow.proofs.log.Entries.{head-within, tail_within, entry-put}
use Rattle.flow.proofs.log.put_entry.Goals as goal

pub copy_at-requires : goal.copy_at-requires
copy_at-requires c =
    head-within c.args.at c.args.head.now c.args.tail.now c.put32-3.new.out (search rules)

pub copy_at-requires-2 : goal.copy_at-requires-2
copy_at-requires-2 c =
    tail_within c.args.at c.args.head.now c.args.tail.now c.copy_at.new.out (search rules)

pub returns : goal.returns
returns c =
    let room : c.args.at ≤ length c.args.log.now = omega (arith, c.requires.0) in
    entry-put _ _ _ _ _ _ _ _ c.args.at c.args.series c.args.tid c.args.number c.args.head.now c.args.tail.now room c.requires.1
    c.put16.ensures c.put16-2.ensures c.put32.ensures c.put32-2.ensures c.put32-3.ensures
    c.copy_at.ensures c.copy_at-2.ensures
