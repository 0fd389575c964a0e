use mathlib.Core.Path.{sym}
use native.Mathlib.Omega.{arith}
use borrow.Author.Rules.{rules}
use Rattle.ftd.proofs.fields.Turns.{field-short, field-whole}
use Rattle.ftd.proofs.fields.field_size.Goals as goal

pub returns-then-content-at : goal.returns-then-content-at
returns-then-content-at c =
    (sym (field-short c.args.content.now c.args.at (omega arith)), search rules)

pub returns-then-left-lt6 : goal.returns-then-left-lt6
returns-then-left-lt6 c =
    (sym (field-short c.args.content.now c.args.at (omega arith)), search rules)

pub returns-then-left-n : goal.returns-then-left-n
returns-then-left-n c =
    (sym (field-short c.args.content.now c.args.at (omega arith)), search rules)

pub returns : goal.returns
returns c = (
  rw (c.size16-n.ensures.0, c.be16.ensures)
      (sym (field-whole c.args.content.now c.args.at (omega arith))),
  search rules,
)
