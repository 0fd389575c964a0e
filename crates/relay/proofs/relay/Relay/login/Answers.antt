use mathlib.Core.Bool.{true, false}
use mathlib.Core.Path.{refl, sym, ◌∙◌}
use Rattle.flow.proofs.sender.Lookups.{eight}
use Rattle.relay.proofs.relay.AtSeats.{login-as, login-none}
use Rattle.relay.proofs.relay.Relay.login.Goals as goal

pub returns-then-seat-gt15 : goal.returns-then-seat-gt15
returns-then-seat-gt15 c =
    login-none c.args.self c.args.places.now c.args.seat c.args.series c.if-seat-gt15.true c.args.packet.now c.args.content.now c.args.out.now

pub returns-then-is_ok : goal.returns-then-is_ok
returns-then-is_ok c =
    login-as c.args.self c.args.places.now c.args.seat c.args.series c.if-seat-gt15.false c.seat_at.result
    c.server-server.result c.seat_at.ensures c.server-server.ensures (eight c.server-server.result _ c.server-server.type_inv) c.args.packet.now c.args.content.now c.args.out.now
    c.login-step.result _ _ true c.login-step.ensures (sym c.if-is_ok.true ∙ c.is_ok.ensures.value) c.keep_place.ensures

pub returns-else-is_ok : goal.returns-else-is_ok
returns-else-is_ok c =
    login-as c.args.self c.args.places.now c.args.seat c.args.series c.if-seat-gt15.false c.seat_at.result
    c.server-server.result c.seat_at.ensures c.server-server.ensures (eight c.server-server.result _ c.server-server.type_inv) c.args.packet.now c.args.content.now c.args.out.now
    c.login-step.result _ _ false c.login-step.ensures (sym c.if-is_ok.false ∙ c.is_ok.ensures.value) refl
