use Prim.Native.Nat.{◌≤◌}
use native.Mathlib.Omega.{arith}
use lib.ListN.{length}
use Rattle.ftd.proofs.parts.Three.{three-counts}
use Rattle.ftd.proofs.parts.Laws.{count-within}
use borrow.Author.Rules.{rules}
use Rattle.ftd.proofs.parts.three_count.Goals as goal

pub overflow_add-result : goal.overflow_add-result
overflow_add-result c =
    let y : c.count_field-2.result ≤ length c.args.across.now = search (rules, count-within) in
    let z : c.count_field-3.result ≤ length c.args.last.now = search (rules, count-within) in
    omega arith

pub overflow_add-result-2 : goal.overflow_add-result-2
overflow_add-result-2 c =
    let x : c.count_field.result ≤ length c.args.first.now = search (rules, count-within) in
    let y : c.count_field-2.result ≤ length c.args.across.now = search (rules, count-within) in
    let z : c.count_field-3.result ≤ length c.args.last.now = search (rules, count-within) in
    omega arith

pub returns : goal.returns
returns c = search (rules, three-counts)
