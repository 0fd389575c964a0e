use mathlib.Core.Path.{ap, ◌∙◌}
use Rattle.relay.specs.Box.{server_of}
use Rattle.relay.proofs.relay.Towards.{below-done, below-refused}
use Rattle.relay.proofs.relay.AtSeats.{no-seat-is}
use Rattle.relay.proofs.relay.Relay.open_below.Goals as goal

-- src/relay.rt:227:5
pub returns : goal.returns
returns c =
    below-done c.args.self c.args.places.now c.args.end c.args.last c.args.date c.args.log.now c.series_names-names.result
    c.series_count-n.result c.server-server.result c.open-step.result c.series_names-names.ensures
    c.series_count-n.ensures.0 (c.server-server.ensures ∙ ap (server_of c.args.self.day) no-seat-is)
    c.open-step.ensures c.in_default.is _ c.clear.ensures

-- src/relay.rt:227:5
pub returns-in-Err : goal.returns-in-Err
returns-in-Err c =
    below-refused c.args.self c.args.places.now c.args.end c.args.last c.args.date c.args.log.now c.series_names-names.result
    c.series_count-n.result c.server-server.result c.open-step.result c.series_names-names.ensures
    c.series_count-n.ensures.0 (c.server-server.ensures ∙ ap (server_of c.args.self.day) no-seat-is)
    c.open-step.ensures _ c.in-Err.is
