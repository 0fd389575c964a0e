-- A line lies in the buffer, and each place is further than the one before it.
use Rattle.std.proofs.Common.{refl, sym, ◌∙◌, arith, rules}
use lib.Seq.{length-take-le}
use Rattle.listing.proofs.Answers.{last-told, more-told, onward}
use Rattle.captures.proofs.Compared.{last-same, more_same}
use Rattle.captures.proofs.lists.Goals as goal

pub loop-len-init : goal.loop-len-init
loop-len-init c = (search rules, search rules, refl)

pub slice_bounds-out-end : goal.slice_bounds-out-end
slice_bounds-out-end c =
    let t = last-told c.args.capture.now c.args.more c.loop-len.at c.loop-len.out _ _ c.write_line.ensures.output
    (omega arith) (sym c.in-Last.is ∙ c.write_line.ensures.answer) in
    t.1.room

pub slice_bounds-same-end : goal.slice_bounds-same-end
slice_bounds-same-end c =
    let t = last-told c.args.capture.now c.args.more c.loop-len.at c.loop-len.out _ _ c.write_line.ensures.output
    (omega arith) (sym c.in-Last.is ∙ c.write_line.ensures.answer) in
    sym (length-take-le _ _ t.1.room)

pub returns-in-Last : goal.returns-in-Last
returns-in-Last c =
    let t = last-told c.args.capture.now c.args.more c.loop-len.at c.loop-len.out _ _ c.write_line.ensures.output
    (omega arith) (sym c.in-Last.is ∙ c.write_line.ensures.answer) in
    λ e. last-same c.args.capture.now c.args.more c.args.text.now c.loop-len.at c.loop-len.to _ c.loop-len.invariant.2
    t.1.text-is t.0 (c.same.ensures.0 e)

pub slice_bounds-out-end-else-text-to : goal.slice_bounds-out-end-else-text-to
slice_bounds-out-end-else-text-to c =
    let t = more-told c.args.capture.now c.args.more c.loop-len.at c.loop-len.out _ _ c.write_line.ensures.output
    (omega arith) _ (sym c.in-More.is ∙ c.write_line.ensures.answer) in
    t.2.room

pub slice_bounds-same-end-else-text-to : goal.slice_bounds-same-end-else-text-to
slice_bounds-same-end-else-text-to c =
    let t = more-told c.args.capture.now c.args.more c.loop-len.at c.loop-len.out _ _ c.write_line.ensures.output
    (omega arith) _ (sym c.in-More.is ∙ c.write_line.ensures.answer) in
    sym (length-take-le _ _ t.2.room)

pub loop-len-smaller : goal.loop-len-smaller
loop-len-smaller c =
    let t = onward c.args.capture.now c.args.more c.loop-len.at c.loop-len.out _ _ c.write_line.ensures.output
    (omega arith) _ (sym c.in-More.is ∙ c.write_line.ensures.answer) in
    omega arith

pub loop-len-preserved : goal.loop-len-preserved
loop-len-preserved c =
    let t = more-told c.args.capture.now c.args.more c.loop-len.at c.loop-len.out _ _ c.write_line.ensures.output
    (omega arith) _ (sym c.in-More.is ∙ c.write_line.ensures.answer) in (
      omega arith,
      omega arith,
      more_same c.args.capture.now c.args.more c.args.text.now c.loop-len.at c.loop-len.to _ c.loop-len.invariant.2
          t.2.text-is t.0 _ _ t.1 (c.same-else-text-to.ensures.0 c.if-not-same.false),
    )
