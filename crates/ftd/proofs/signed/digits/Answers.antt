use Prim.Native.Nat.{ℕ, ◌<◌, ◌≤◌, ◌+◌, ◌-◌, ◌*◌}
use mathlib.Core.List.{List}
use native.Mathlib.Omega.{arith}
use lib.ListN.{length, take, drop}
use borrow.Author.Rules.{rules}
use Rattle.std.proofs.lemmas.List.Edits.{length-between}
use Rattle.std.proofs.lemmas.Slice.{between_is}
use Rattle.ftd.specs.Signed.{pow10}
use Rattle.ftd.proofs.signed.Powers.{bound-turn, bound-digit, bound-end, digits-turn, digits-end}
use Rattle.ftd.proofs.signed.digits.Goals as goal

pub overflow_mul-n : goal.overflow_mul-n
overflow_mul-n c =
    let n = length-between c.args.s.now c.args.from c.args.to c.requires.1 in
    let f : (c.args.start + 1) * pow10 (length (take (c.args.to - c.args.from) (drop c.args.from c.args.s.now))) ≤ pow10 18 =
    rw n c.requires.2
    in
    let h : c.loop-b.n * 10 + 0 < 1000000000000000000 = search (rules, bound-digit) in
    omega arith

pub overflow_add-n : goal.overflow_add-n
overflow_add-n c =
    let n = length-between c.args.s.now c.args.from c.args.to c.requires.1 in
    let f : (c.args.start + 1) * pow10 (length (take (c.args.to - c.args.from) (drop c.args.from c.args.s.now))) ≤ pow10 18 =
    rw n c.requires.2
    in
    let h : c.loop-b.n * 10 + c.digit.result < 1000000000000000000 = search (rules, bound-digit) in
    omega arith

pub loop-b-preserved : goal.loop-b-preserved
loop-b-preserved c = (search (rules, bound-turn), search (rules, digits-turn))

pub returns : goal.returns
returns c =
    let n = length-between c.args.s.now c.args.from c.args.to c.requires.1 in
    let part : List ℕ = take (c.args.to - c.args.from) (drop c.args.from c.args.s.now) in
    let value = digits-end part c.loop-b.n c.loop-b.b-index _ c.loop-b.invariant.1 c.loop-b-test.false in
    let bound = bound-end c.loop-b.n c.loop-b.b-index (length part) _ c.loop-b-test.false c.loop-b.invariant.0 in
    (rw (between_is c.args.s.now c.args.from c.args.to) at value, rw n at bound)
