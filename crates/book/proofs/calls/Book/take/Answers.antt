use Rattle.book.proofs.calls.Steps.{take-unfit, take-refused, take_done}
use Rattle.book.proofs.calls.Book.take.Goals as goal

pub returns-in-Err : goal.returns-in-Err
returns-in-Err c = take-unfit c.args.self c.args.tid c.args.content.now _ c.check_content.ensures _ c.in-Err.is _ c.refused.ensures

pub returns-in-Err-answer : goal.returns-in-Err-answer
returns-in-Err-answer c = take-refused c.args.self c.args.tid c.args.content.now _ c.check_content.ensures c.in_default.is _
    c.walk-step.ensures _ c.in-Err-answer.is _ c.refused-in-Err-answer.ensures

pub returns : goal.returns
returns c = take_done c.args.self c.args.tid c.args.content.now _ c.check_content.ensures c.in_default.is _
    c.walk-step.ensures c.in_default-answer.is
