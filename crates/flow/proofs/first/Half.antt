-- The first half of the agreement, from genuine messages: exactly n were handed on, the first n published, after every
-- list of calls. Assumes nothing.
use Prim.Native.Nat.{ℕ}
use mathlib.Core.List.{List}
use lib.ListN.{get_elem?}
use Rattle.flow.specs.World.{Event, open_sender, publish, login, send, send_packet, open_receiver, connect}
use Rattle.flow.specs.World.{request_login, confirm_login, receive, World, start, step, run}
use Rattle.flow.specs.Agreement.{Agreed}
use Rattle.flow.proofs.ends.ReceiverOpened.{fresh-eight, fresh-closed}
use Rattle.flow.proofs.packets.Genuine.{BegunIn, AllBegun}
use Rattle.flow.proofs.common.Lists.{every-at}
use Rattle.flow.proofs.first.Safe.{Safe, safe-published, safe-reopen, safe-connect, safe-request}
use Rattle.flow.proofs.first.Answer.{safe-confirm}
use Rattle.flow.proofs.first.Receive.{safe-receive}
use Rattle.flow.proofs.first.Turned.{safe-answer-turned, safe-receive-turned}
use Rattle.flow.proofs.lines.Steps.{LineStep, calls, rests, turns-answer, turns-receive, Steps, none, then}
use Rattle.flow.proofs.lines.Steps.{run-steps}
use Rattle.flow.proofs.lines.Moves.{line-moves}
use Rattle.flow.proofs.common.Rows.{by-given}
use Rattle.flow.proofs.right.End.{fresh-right}
use Rattle.flow.proofs.source.Sources.{Source, move-source}

abbrev pub SafeWorld : World → Type 0
SafeWorld w = Safe w.serving.published w.receiving

pub start-safe : (log buffer : List ℕ) → SafeWorld (start log buffer)
unfolding start
start-safe log buffer =
    record {
      eight = fresh-eight;
      days = λ s. rw (fresh-closed s);
      right = fresh-right buffer;
      dated = (tt, tt);
    }

pub step-safe : (w : World) (e : Event) → AllBegun w.serving → SafeWorld w → SafeWorld (step w e)
step-safe w (open_sender date ss rs) g h = h
step-safe w (publish s tid content) g h = safe-published w.serving.published w.receiving h _
step-safe w (login s i content out) g h = by-given SafeWorld w (get_elem? w.receiving.requests i) h (λ p q. h)
step-safe w (send s out) g h = h
step-safe w (send_packet s out) g h = h
step-safe w (open_receiver ss) g h = safe-reopen w.serving.published w.receiving h ss
step-safe w connect g h = safe-connect w.serving.published w.receiving h
step-safe w (request_login s content out) g h = safe-request w.serving.published w.receiving h s content out
step-safe w (confirm_login i) g h =
    by-given SafeWorld w (get_elem? w.serving.answers i) h
    (λ a q. safe-confirm w.serving.published w.receiving h a.series a.what)
step-safe w (receive i j) g h =
    by-given SafeWorld w (get_elem? w.serving.transmissions i) h λ m q.
    by-given SafeWorld w (get_elem? m.packets j) h λ p r.
    safe-receive w.serving.published w.receiving h i j m p
    (every-at (BegunIn w.serving.published) w.serving.transmissions i m g q) r

-- Each step of a line.
pub line-safe : {w v : World} → LineStep w v → AllBegun w.serving → SafeWorld w → SafeWorld v
line-safe {w} (calls e) g h = step-safe w e g h
line-safe rests g h = h
line-safe {w} (turns-answer i a q x) g h =
    safe-answer-turned w.serving.published w.receiving h x a.series a.what
line-safe {w} (turns-receive i j m p q f o b x) g h =
    safe-receive-turned w.serving.published w.receiving h x i j m p o

-- After every list of steps.
pub steps-safe : {w v : World} → Steps w v → Source w.serving → SafeWorld w → SafeWorld v
steps-safe none g h = h
steps-safe {w} (then {v = u} l ls) g h =
    steps-safe ls (move-source w.serving u.serving (line-moves l) g) (line-safe l g.begun h)

-- After every list of events.
pub run-safe : (w : World) → Source w.serving → SafeWorld w → (es : List Event) → SafeWorld (run w es)
run-safe w g h es = steps-safe (run-steps w es) g h

-- "exactly n messages were handed on: the first n published there, in order, each once"
pub safe-agreed : (w : World) (s d : ℕ) → SafeWorld w → Agreed w s d
safe-agreed w s d h = let o = h.right.right s d in record { exactly = o.exactly; first = o.first }
