use Rattle.listing.proofs.Lines.{too_small, long-line, end_line}
use Rattle.listing.proofs.write_line.Goals as goal

pub returns-then-out-lt64 : goal.returns-then-out-lt64
returns-then-out-lt64 c =
    let said = too_small c.args.capture.now c.args.more
    c.args.at c.args.out.now c.if-out-lt64.true in
    record { answer = said.0; output = said.1 }

pub returns-then-more : goal.returns-then-more
returns-then-more c =
    let said = long-line c.args.capture.now c.args.at c.args.out.now _ _ c.if-out-lt64.false c.word_line.ensures in
    rw c.if-more.true record { answer = said.0; output = said.1 }

pub returns-then-capture-at : goal.returns-then-capture-at
returns-then-capture-at c =
    let said = end_line c.args.capture.now c.args.at c.args.out.now _ _ c.if-out-lt64.false c.if-capture-at.true
    c.word_line-then-capture-at.ensures in
    rw c.if-more.false record { answer = said.0; output = said.1 }

pub returns : goal.returns
returns c = rw c.if-more.false record { answer = c.line_inside.ensures.answer; output = c.line_inside.ensures.output }
