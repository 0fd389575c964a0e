use Rattle.book.proofs.event.Laws.{event-laws}
use Rattle.book.proofs.event.keeps_event_laws.Goals as goal

pub returns : goal.returns
returns c = event-laws
