use native.Mathlib.Omega.{arith}
use mathlib.Core.List.{◌++◌}
use Rattle.ftd.specs.declared.composition.Direction.TheVariants.{Down}
use Rattle.flow.proofs.common.Contents.{content-length}
use Rattle.flow.proofs.sender.Publishing.{publish-damaged, publish-small, publish-over, publish-within}
use Rattle.flow.proofs.sender.Publishing.{publish-full, entry-within, publish-done}
use Rattle.flow.proofs.sender.Sender.publish_at.Goals as goal

pub entry_length-size-requires : goal.entry_length-size-requires
entry_length-size-requires c =
    content-length c.args.tid Down (c.args.head.now ++ c.args.tail.now) 32768 c.requires.0

pub returns-then-log-day : goal.returns-then-log-day
returns-then-log-day c =
    publish-damaged c.args.self c.args.series c.args.tid (c.args.head.now ++ c.args.tail.now) c.args.log.now
    c.requires.0 c.args.at c.requires.1 c.not_published.result c.if-log-day.true
    c.not_published.ensures

pub returns-then-log-day-2 : goal.returns-then-log-day-2
returns-then-log-day-2 c =
    publish-small c.args.self c.args.series c.args.tid (c.args.head.now ++ c.args.tail.now) c.args.log.now
    c.requires.0 c.args.at c.requires.1 c.if-log-day.false c.entry_length-size.result
    c.entry_length-size.ensures c.not_published-then-log-day-2.result c.if-log-day-2.true c.not_published-then-log-day-2.ensures

pub returns-then-over_shares : goal.returns-then-over_shares
returns-then-over_shares c =
    publish-over c.args.self c.args.series c.args.tid (c.args.head.now ++ c.args.tail.now) c.args.log.now
    c.requires.0 c.args.at c.requires.1
    c.if-log-day.false c.entry_length-size.result c.entry_length-size.ensures c.if-log-day-2.false
    c.over_shares.result c.over_shares.ensures
    c.if-over_shares.true c.not_published-then-over_shares.result c.not_published-then-over_shares.ensures

pub returns-then-one-ge-MOST_MESSAGES : goal.returns-then-one-ge-MOST_MESSAGES
returns-then-one-ge-MOST_MESSAGES c =
    publish-full c.args.self c.args.series c.args.tid (c.args.head.now ++ c.args.tail.now) c.args.log.now
    c.requires.0 c.args.at c.requires.1
    c.if-log-day.false c.entry_length-size.result c.entry_length-size.ensures c.if-log-day-2.false
    c.over_shares.result c.over_shares.ensures
    c.if-over_shares.false c.not_published-then-one-ge-MOST_MESSAGES.result c.if-one-ge-MOST_MESSAGES.true c.not_published-then-one-ge-MOST_MESSAGES.ensures

pub put_entry-requires : goal.put_entry-requires
put_entry-requires c =
    let few = content-length c.args.tid Down (c.args.head.now ++ c.args.tail.now) 32768 c.requires.0 in (
      entry-within c.args.self c.args.series c.args.tid (c.args.head.now ++ c.args.tail.now) c.args.log.now
          c.requires.0 c.args.at c.requires.1 c.if-log-day.false
          c.entry_length-size.result c.entry_length-size.ensures c.if-log-day-2.false,
      omega (arith, few),
    )

pub overflow_add-day : goal.overflow_add-day
overflow_add-day c =
    let within =
    publish-within c.args.self c.args.series c.args.tid (c.args.head.now ++ c.args.tail.now) c.args.log.now
    c.requires.0 c.args.at c.requires.1
    c.if-log-day.false c.entry_length-size.result c.entry_length-size.ensures c.if-log-day-2.false
    c.over_shares.result c.over_shares.ensures
    c.if-over_shares.false in
    omega (arith, within, c.well_formed)

pub overflow_add-day-2 : goal.overflow_add-day-2
overflow_add-day-2 c =
    let within =
    entry-within c.args.self c.args.series c.args.tid (c.args.head.now ++ c.args.tail.now) c.args.log.now
    c.requires.0 c.args.at c.requires.1 c.if-log-day.false
    c.entry_length-size.result c.entry_length-size.ensures c.if-log-day-2.false in
    omega (arith, within, c.entry_length-size.ensures, c.well_formed)

pub returns : goal.returns
returns c =
    publish-done c.args.self c.args.series c.args.tid (c.args.head.now ++ c.args.tail.now) c.args.log.now
    c.requires.0 c.args.at c.requires.1
    c.if-log-day.false c.entry_length-size.result c.entry_length-size.ensures c.if-log-day-2.false
    c.over_shares.result c.over_shares.ensures
    c.if-over_shares.false _ c.if-one-ge-MOST_MESSAGES.false c.put_entry.ensures
