use mathlib.Core.Path.{◌∙◌}
use native.Mathlib.Omega.{arith}
use Rattle.book.proofs.levels.Shifts.{places}
use Rattle.book.proofs.levels.Put.{put-replace, put-insert, put-remove, put-stays}
use Rattle.book.proofs.levels.Search.{held-inside}
use Rattle.book.proofs.levels.put_at.Goals as goal

pub replace-requires : goal.replace-requires
replace-requires c = let i = held-inside c.args.side.levels c.args.at c.args.new.price (rw c.requires.1 at c.if-old-gt0.true) in
    let h = places c.args.side _ c.well_formed.0 in
    omega (arith, i, h)

pub returns-then-old-gt0 : goal.returns-then-old-gt0
returns-then-old-gt0 c = let i = held-inside c.args.side.levels c.args.at c.args.new.price (rw c.requires.1 at c.if-old-gt0.true) in
    let h = places c.args.side _ c.well_formed.0 in
    c.replace.ensures ∙ put-replace c.args.side c.args.at c.args.new c.args.old c.requires.1 (omega arith) (omega arith) i

pub returns-then-new-gt0 : goal.returns-then-new-gt0
returns-then-new-gt0 c = c.insert.ensures ∙ put-insert c.args.side c.args.at c.args.new c.args.old c.requires.1 (omega arith) (omega arith)

pub remove-requires : goal.remove-requires
remove-requires c = let i = held-inside c.args.side.levels c.args.at c.args.new.price (rw c.requires.1 at c.if-old-gt0-2.true) in
    let h = places c.args.side _ c.well_formed.0 in
    omega (arith, i, h)

pub returns-then-old-gt0-2 : goal.returns-then-old-gt0-2
returns-then-old-gt0-2 c = c.remove.ensures ∙ put-remove c.args.side c.args.at c.args.new c.args.old c.requires.1 (omega arith) (omega arith)

pub returns : goal.returns
returns c = put-stays c.args.side c.args.at c.args.new c.args.old c.requires.1 (omega arith) (omega arith)
