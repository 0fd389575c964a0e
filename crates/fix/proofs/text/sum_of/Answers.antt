use Prim.Native.Nat.{◌+◌, ◌%◌}
use mathlib.Core.Path.{◌≡◌}
use native.Mathlib.Omega.{arith}
use borrow.Author.Rules.{rules}
use Rattle.std.specs.List.{fold}
use Rattle.std.proofs.iter.runs.Made.{chains}
use Rattle.fix.specs.Text.{sum_of}
use Rattle.fix.proofs.text.Turns.{fold-sum}
use Rattle.fix.proofs.text.sum_of.Goals as goal

pub returns : goal.returns
unfolding sum_of
returns c =
    let s = c.args.s.now in
    let f : c.fold.result ≡ fold (λ n b. (n + b) % 256) 0 s = search (rules, chains) in
    (omega (arith, c.from.ensures, f, fold-sum s 0 (omega arith)), omega (arith, c.from.ensures, c.fold.type_inv))
