use mathlib.Core.Path.{sym}
use native.Mathlib.Omega.{arith}
use borrow.Author.Rules.{rules}
use Rattle.flow.proofs.log.Heads.{entry-short, entry_whole}
use Rattle.flow.proofs.log.entry_size.Goals as goal

pub returns-then-l-at : goal.returns-then-l-at
returns-then-l-at c =
    (sym (entry-short c.args.l.now c.args.at (omega arith)), search rules)

pub returns-then-left-lt16 : goal.returns-then-left-lt16
returns-then-left-lt16 c =
    (sym (entry-short c.args.l.now c.args.at (omega arith)), search rules)

pub returns-then-left-n : goal.returns-then-left-n
returns-then-left-n c =
    (sym (entry-short c.args.l.now c.args.at (omega arith)), search rules)

pub returns : goal.returns
returns c = (
  rw (c.size32-n.ensures.0, c.be32.ensures)
      (sym (entry_whole c.args.l.now c.args.at (omega arith))),
  search rules,
)
