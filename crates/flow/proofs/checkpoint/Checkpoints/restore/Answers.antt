use mathlib.Core.Path.{◌≡◌}
use borrow.Author.Rules.{rules}
use lib.ListN.{length}
use Rattle.flow.proofs.checkpoint.Letters.{right-few}
use Rattle.flow.proofs.checkpoint.Places.{name-inside, name-scaled, restore-wrong, restore-unused, restore-used}
use Rattle.flow.proofs.checkpoint.Checkpoints.restore.Goals as goal

pub returns-then-wrong_name : goal.returns-then-wrong_name
returns-then-wrong_name c = search (rules, restore-wrong)

pub name_code-requires : goal.name_code-requires
name_code-requires c = search (rules, right-few)

pub offset_bounds-self-i : goal.offset_bounds-self-i
offset_bounds-self-i c = search (rules, name-scaled)

pub bounds-self-i : goal.bounds-self-i
bounds-self-i c = search (rules, name-inside)

pub returns-in_default : goal.returns-in_default
returns-in_default c = search (rules, restore-unused)

pub returns : goal.returns
returns c =
    let four : length c.args.self.places ≡ 4 = search rules in
    restore-used c.args.self c.args.end c.args.name.now _ c.wrong_name.ensures
    c.if-wrong_name.false _ c.name_code.ensures _ c.find.ensures _
    c.in-Some.is four _ _ c.bring_back.ensures
