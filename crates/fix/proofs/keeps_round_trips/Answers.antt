use Rattle.fix.proofs.RoundTrips.{round-trips}
use Rattle.fix.proofs.keeps_round_trips.Goals as goal

pub returns : goal.returns
returns c = round-trips
