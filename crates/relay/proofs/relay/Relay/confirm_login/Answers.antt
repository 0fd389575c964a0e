use Rattle.relay.proofs.relay.Towards.{confirm-late, confirm-taken, confirm-refused}
use Rattle.relay.proofs.relay.Relay.confirm_login.Goals as goal

-- src/relay.rt:329:13
pub returns-then-is_late : goal.returns-then-is_late
returns-then-is_late c =
    confirm-late c.args.self c.args.places.now c.args.series c.args.packet.now c.args.log.now c.confirm_login-step.result
    c.confirm_login-step.ensures c.read_dated-date.result c.read_dated-date.ensures c.is_late.result
    c.is_late.ensures c.if-is_late.true

-- src/relay.rt:310:5
pub returns-in-Ok : goal.returns-in-Ok
returns-in-Ok c =
    confirm-taken c.args.self c.args.places.now c.args.series c.args.packet.now c.args.log.now c.confirm_login-step.result
    c.confirm_login-step.ensures c.read_dated-date.result c.read_dated-date.ensures c.is_late.result
    c.is_late.ensures c.if-is_late.false _ c.in-Ok.is _ _ c.confirmed.ensures

-- src/relay.rt:310:5
pub returns-in-Err : goal.returns-in-Err
returns-in-Err c =
    confirm-refused c.args.self c.args.places.now c.args.series c.args.packet.now c.args.log.now c.confirm_login-step.result
    c.confirm_login-step.ensures c.read_dated-date.result c.read_dated-date.ensures c.is_late.result
    c.is_late.ensures c.if-is_late.false _ c.in-Err.is _ c.with_receiver.ensures
