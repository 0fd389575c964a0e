use native.Mathlib.Omega.{arith}
use borrow.Author.Rules.{rules}
use Rattle.flow.proofs.receive.Pieces.{piece-fits, hold-small, hold-whole, hold-done}
use Rattle.flow.proofs.receive.hold.Goals as goal

pub returns-then-no_room : goal.returns-then-no_room
returns-then-no_room c = search (rules, hold-small)

pub overflow_add-len : goal.overflow_add-len
overflow_add-len c =
    let fits = piece-fits c.args.count c.args.size c.args.held c.args.more c.no_room.result c.no_room.ensures c.if-no_room.false in
    omega (arith, fits)

pub overflow_add-target : goal.overflow_add-target
overflow_add-target c =
    let fits = piece-fits c.args.count c.args.size c.args.held c.args.more c.no_room.result c.no_room.ensures c.if-no_room.false in
    omega (arith, fits, c.requires)

pub returns-then-whole : goal.returns-then-whole
returns-then-whole c = search (rules, hold-whole)

pub returns : goal.returns
returns c = search (rules, hold-done)
