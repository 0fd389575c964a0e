use mathlib.Core.Path.{sym}
use native.Mathlib.Omega.{arith}
use borrow.Author.Rules.{rules}
use Rattle.ftd.proofs.tags.Turns.{tag-short, tag-whole}
use Rattle.ftd.proofs.tags.tag_size.Goals as goal

pub returns-then-extension-at : goal.returns-then-extension-at
returns-then-extension-at c =
    (sym (tag-short c.args.extension.now c.args.at (omega arith)), search rules)

pub returns-then-left-lt2 : goal.returns-then-left-lt2
returns-then-left-lt2 c =
    (sym (tag-short c.args.extension.now c.args.at (omega arith)), search rules)

pub returns-then-left-n : goal.returns-then-left-n
returns-then-left-n c =
    (sym (tag-short c.args.extension.now c.args.at (omega arith)), search rules)

pub returns : goal.returns
returns c =
    (rw c.size8-n.ensures.0 (sym (tag-whole c.args.extension.now c.args.at (omega arith))), search rules)
