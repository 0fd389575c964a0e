use Prim.Native.Nat.{ℕ, ◌-◌}
use mathlib.Core.Bool.{Bool, true, ◌&&◌}
use mathlib.Core.Path.{◌≡◌}
use mathlib.Core.List.{List}
use lib.ListN.{take, drop}
use borrow.Author.Rules.{rules}
use borrow.Author.Tests.{tests}
use Rattle.std.specs.List.{fold}
use Rattle.std.proofs.lemmas.Iterator.{YieldsList-from_slice}
use Rattle.std.proofs.lemmas.Iterator.Consumers.{fold_from_yields_List}
use Rattle.std.proofs.lemmas.Slice.{between_is}
use Rattle.ftd.specs.Values.Helpers.{in_class}
use Rattle.ftd.proofs.values.Checks.{fold-every}
use Rattle.ftd.proofs.values.all_in.Goals as goal

pub returns : goal.returns
returns c =
    let part : List ℕ = take (c.args.to - c.args.from) (drop c.args.from c.args.s.now) in
    let folded : c.fold.result ≡ fold (λ (good : Bool) (b : ℕ). good && in_class c.args.class b) true part =
    fold_from_yields_List _ (λ (good : Bool) (b : ℕ). good && in_class c.args.class b) true _ c.fold.ensures.ran
    (YieldsList-from_slice part cc) (λ a x b q k. search (rules, tests))
    in
    rw (folded, fold-every (in_class c.args.class) true part, between_is c.args.s.now c.args.from c.args.to)
