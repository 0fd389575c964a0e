use Rattle.book.proofs.calls.Steps.{start-long, start-wrong, start_right}
use Rattle.book.proofs.calls.Book.start.Goals as goal
use Rattle.book.proofs.calls.Book.start.Goals.{then-code-ne10-via-then-code-ne10}
use Rattle.book.proofs.calls.Book.start.Goals.{then-code-ne10-via-else-code-ne10+then-not-is_value}

pub returns-then-code-ne10 : goal.returns-then-code-ne10
returns-then-code-ne10 c =
    elim c.then-code-ne10.branch [
      | then-code-ne10-via-then-code-ne10 w ↦ start-long c.args.self c.args.code.now w.if-code-ne10.true _ c.refused.ensures
      | then-code-ne10-via-else-code-ne10+then-not-is_value w ↦
          start-wrong c.args.self c.args.code.now w.if-code-ne10.false _ w.is_value.ensures w.if-not-is_value.true _ c.refused.ensures
    ]

pub returns : goal.returns
returns c =
    simp (c.copy_from_slice.ensures.after, c.no_sums.ensures, c.no_levels.ensures, c.no_levels-2.ensures)
    (start_right c.args.self c.args.code.now c.if-code-ne10.false _ c.is_value.ensures c.if-not-is_value.false)
