use Rattle.relay.proofs.relay.Handing.{hands-lie, handed-is, refused-is}
use Rattle.relay.proofs.relay.Relay.hand_on.Goals as goal

-- src/relay.rt:436:13
pub publish_below-step-requires : goal.publish_below-step-requires
publish_below-step-requires c = (
  hands-lie c.args.d c.args.buffer.now c.args.tid c.args.origin c.args.all c.args.d.answer
      c.requires.1 c.requires.0.3,
  c.requires.0.2,
)

-- src/relay.rt:421:5
pub returns : goal.returns
returns c =
    handed-is c.args.self c.args.packet.now c.args.log.now c.args.buffer.now c.args.d c.requires.0
    c.args.tid c.args.origin c.args.all c.requires.1 c.publish_below-step.result _
    c.publish_below-step.ensures _ c.in_default.is _ _ c.keep.ensures

-- src/relay.rt:421:5
pub returns-in-Err : goal.returns-in-Err
returns-in-Err c =
    refused-is c.args.self c.args.packet.now c.args.log.now c.args.buffer.now c.args.d c.requires.0
    c.args.tid c.args.origin c.args.all c.requires.1 c.publish_below-step.result _
    c.publish_below-step.ensures _ c.in-Err.is _ c.drop_chain.ensures _
    c.with_receiver.ensures
