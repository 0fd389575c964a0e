use Rattle.relay.proofs.relay.Handing.{in-packet, in_both, never, held-from, publishes-as}
use borrow.Author.Rules.{rules}
use Rattle.relay.proofs.relay.AtSeats.{no-seat-is}
use Rattle.relay.proofs.relay.Relay.publish_below.Goals as goal
use Rattle.relay.proofs.relay.Relay.publish_below.Goals.{in_default-via-in-Buffer+in_default, in_default-via-in_default}

-- src/relay.rt:400:20
pub overflow_add-piece : goal.overflow_add-piece
overflow_add-piece c =
    let k = c.well_formed.1.1.1.1.1.0 in
    search (rules, c.requires.1, k)

pub slice_bounds-publish_parts-count : goal.slice_bounds-publish_parts-count
slice_bounds-publish_parts-count c =
    let h =
    held-from c.args.d c.args.packet.now c.args.buffer.now c.args.all c.args.origin c.requires.0 c.requires.1
    c.in-Buffer-Some.is-0 _ c.in-Buffer-Some.is-1 in
    search rules

pub returns-in-Buffer-Some : goal.returns-in-Buffer-Some
returns-in-Buffer-Some c =
    publishes-as c.args.self _ c.server-server.result no-seat-is
    c.server-server.ensures c.args.d.series c.args.tid _ _
    (in_both c.args.d c.args.packet.now c.args.buffer.now c.args.all c.args.origin c.requires.0
    c.requires.1 c.in-Buffer-Some.is-0 _ c.in-Buffer-Some.is-1)
    c.args.log.now _ _ c.publish_parts.ensures

pub returns-in_default : goal.returns-in_default
returns-in_default c =
    elim c.in_default.branch [
      | in_default-via-in-Buffer+in_default w ↦
          absurd
          (never c.args.d c.args.packet.now c.args.buffer.now c.args.all c.args.origin c.requires.0
          c.requires.1 w.in_default.is-0 w.in_default.is-1)
      | in_default-via-in_default w ↦
          publishes-as c.args.self _ c.server-server.result no-seat-is
          c.server-server.ensures c.args.d.series c.args.tid _ _
          (in-packet c.args.d c.args.packet.now c.args.buffer.now c.args.all c.args.origin c.requires.0
          c.requires.1 w.in_default.is-0)
          c.args.log.now _ _ c.publish.ensures
    ]
