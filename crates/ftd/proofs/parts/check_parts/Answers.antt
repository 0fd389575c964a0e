use mathlib.Core.Path.{sym}
use native.Mathlib.Omega.{arith}
use lib.Seq.{length-take-le}
use Rattle.ftd.proofs.parts.Laws.{none-whole}
use Rattle.ftd.proofs.parts.Across.{head-long, both_long, whole-all, parts-ready, parts_same}
use borrow.Author.Rules.{rules}
use Rattle.ftd.proofs.parts.check_parts.Goals as goal
use Rattle.ftd.proofs.parts.check_parts.Goals.{then-limit-head-via-then-limit-head, then-limit-head-via-else-limit-head+then-limit-head-2}

pub returns-then-limit-head : goal.returns-then-limit-head
returns-then-limit-head c =
    elim c.then-limit-head.branch [
      | then-limit-head-via-then-limit-head w ↦ search (rules, head-long)
      | then-limit-head-via-else-limit-head+then-limit-head-2 w ↦ search (rules, both_long)
    ]

pub check_three-requires : goal.check_three-requires
check_three-requires c =
    let all = whole-all _ c.whole_fields-whole.result c.if-whole-head.true c.whole_fields-whole.ensures.1 in
    (all, none-whole, omega arith)

pub slice_bounds-check_across-end : goal.slice_bounds-check_across-end
slice_bounds-check_across-end c =
    sym (length-take-le c.whole_fields-whole.result c.args.head.now c.whole_fields-whole.ensures.0)

pub check_across-requires : goal.check_across-requires
check_across-requires c =
    parts-ready c.args.limit c.args.head.now c.args.tail.now
    c.whole_fields-whole.result c.whole_fields-whole.ensures c.if-whole-head.false (omega arith)

pub returns : goal.returns
returns c = search (rules, parts_same)
