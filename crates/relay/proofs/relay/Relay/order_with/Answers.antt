use Rattle.relay.proofs.relay.AtSeats.{no-seat-is}
use Rattle.relay.proofs.relay.Relay.order_with.Goals as goal

pub returns : goal.returns
returns c =
    rw (c.server.ensures, no-seat-is) at c.order_of.ensures
