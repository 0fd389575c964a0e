use mathlib.Core.Path.{◌≡◌, refl}
use Rattle.flow.proofs.sender.Lookups.{eight}
use Rattle.relay.proofs.relay.AtSeats.{packet_wrote, packet-as, packet-none}
use Rattle.relay.proofs.relay.Relay.send_packet.Goals as goal
use Rattle.relay.proofs.relay.Relay.send_packet.Goals.{in-Ok-Some, in_default, in_default-2}
use Rattle.std.proofs.Common.{rules, Some, None, Ok}

pub returns-then-seat-gt15 : goal.returns-then-seat-gt15
returns-then-seat-gt15 c =
    packet-none c.args.self c.args.places.now c.args.seat c.args.series c.if-seat-gt15.true c.args.log.now c.args.out.now

pub returns-then-matches : goal.returns-then-matches
returns-then-matches c =
    let wrote : c.match-matches.matches ≡ packet_wrote c.send_packet-step.result.answer =
    elim c.match-matches.branch [
      | in-Ok-Some w ↦
          let q : c.send_packet-step.result.answer ≡ Ok (Some w.in-Ok-Some.field-0-0) = search rules in
          rw (w.matches-is, q)
      | in_default w ↦ let q : c.send_packet-step.result.answer ≡ Ok None = search rules in rw (w.matches-is, q)
      | in_default-2 w ↦ rw (w.matches-is, w.in_default.is)
    ] in
    packet-as c.args.self c.args.places.now c.args.seat c.args.series c.if-seat-gt15.false c.seat_at.result
    c.server-server.result c.seat_at.ensures c.server-server.ensures
    (eight c.server-server.result _ c.server-server.type_inv) c.args.log.now c.args.out.now
    c.send_packet-step.result _ _ _ c.send_packet-step.ensures wrote (rw c.if-matches.true c.keep_place.ensures)

pub returns-else-matches : goal.returns-else-matches
returns-else-matches c =
    let wrote : c.match-matches.matches ≡ packet_wrote c.send_packet-step.result.answer =
    elim c.match-matches.branch [
      | in-Ok-Some w ↦
          let q : c.send_packet-step.result.answer ≡ Ok (Some w.in-Ok-Some.field-0-0) = search rules in
          rw (w.matches-is, q)
      | in_default w ↦ let q : c.send_packet-step.result.answer ≡ Ok None = search rules in rw (w.matches-is, q)
      | in_default-2 w ↦ rw (w.matches-is, w.in_default.is)
    ] in
    packet-as c.args.self c.args.places.now c.args.seat c.args.series c.if-seat-gt15.false c.seat_at.result
    c.server-server.result c.seat_at.ensures c.server-server.ensures
    (eight c.server-server.result _ c.server-server.type_inv) c.args.log.now c.args.out.now
    c.send_packet-step.result _ _ _ c.send_packet-step.ensures wrote (rw c.if-matches.false refl)
