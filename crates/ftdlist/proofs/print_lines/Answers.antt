-- A line lies in the buffer, and each place is further than the one before it.
use Rattle.std.proofs.Common.{length, take, sym, ◌∙◌, arith}
use lib.Seq.{length-take-le}
use Rattle.listing.proofs.Answers.{last-told, more-told, onward}
use Rattle.ftdlist.proofs.print_lines.Goals as goal

pub slice_bounds-out-end : goal.slice_bounds-out-end
slice_bounds-out-end g c =
    let t = last-told c.args.capture.now c.args.more c.loop-len.at c.loop-len.out _ _ c.write_line.ensures.output
    (omega arith) (sym c.in-Last.is ∙ c.write_line.ensures.answer) in
    t.1.room

pub slice_bounds-write_all-end : goal.slice_bounds-write_all-end
slice_bounds-write_all-end g c =
    let t = last-told c.args.capture.now c.args.more c.loop-len.at c.loop-len.out _ _ c.write_line.ensures.output
    (omega arith) (sym c.in-Last.is ∙ c.write_line.ensures.answer) in
    sym (length-take-le _ _ t.1.room)

pub slice_bounds-out-end-in-More : goal.slice_bounds-out-end-in-More
slice_bounds-out-end-in-More g c =
    let t = more-told c.args.capture.now c.args.more c.loop-len.at c.loop-len.out _ _ c.write_line.ensures.output
    (omega arith) _ (sym c.in-More.is ∙ c.write_line.ensures.answer) in
    t.2.room

pub slice_bounds-write_all-end-in-More : goal.slice_bounds-write_all-end-in-More
slice_bounds-write_all-end-in-More g c =
    let t = more-told c.args.capture.now c.args.more c.loop-len.at c.loop-len.out _ _ c.write_line.ensures.output
    (omega arith) _ (sym c.in-More.is ∙ c.write_line.ensures.answer) in
    sym (length-take-le _ _ t.2.room)

pub loop-len-smaller : goal.loop-len-smaller
loop-len-smaller g c =
    let t = onward c.args.capture.now c.args.more c.loop-len.at c.loop-len.out _ _ c.write_line.ensures.output
    (omega arith) _ (sym c.in-More.is ∙ c.write_line.ensures.answer) in
    omega arith
