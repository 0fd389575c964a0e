use Prim.Native.Nat.{◌-◌}
use mathlib.Core.Path.{◌≡◌, ◌∙◌}
use native.Mathlib.Omega.{arith}
use borrow.Author.Rules.{rules}
use borrow.Author.Tests.{tests}
use lib.Dec.{eqb}
use lib.ListN.{length, take, drop, length-drop}
use Rattle.std.proofs.lemmas.Iterator.{YieldsList-from_slice}
use Rattle.std.proofs.lemmas.Iterator.Search.{position_from_yields_List}
use Rattle.fix.specs.Text.{until}
use Rattle.fix.proofs.text.Turns.{rest-from, position-until, until-within}
use Rattle.fix.proofs.text.until.Goals as goal

pub returns : goal.returns
returns c =
    let s = c.args.s.now in
    let rest = take (length s - c.min.result) (drop c.min.result s) in
    let found = position_from_yields_List (λ x. eqb x c.args.c) _ _ c.position.result c.position.ensures.ran (YieldsList-from_slice rest cc) (λ x b q k. search (rules, tests)) in
    let e : c.unwrap_or.result ≡ until c.args.c rest = c.unwrap_or.ensures ∙ position-until c.args.c rest _ found in
    let f : c.unwrap_or.result ≡ until c.args.c (drop c.args.at s) = rw (rest-from s c.args.at c.min.result c.min.ensures) at e in
    (f, omega (arith, f, until-within c.args.c (drop c.args.at s), length-drop c.args.at s))
