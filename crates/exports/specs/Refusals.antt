-- Demand 1's second sentence (01): a refusal leaves all as before, but for the chain that Receive drops from 15 on and,
-- at the box, with a message whose publication is refused. Of every call of every state there is, and of every writer;
-- each part is a theorem of its crate, for every state and every input. What an exported function gives is the numbers
-- of these calls, and the bytes that they leave.
use Rattle.ftd.specs.Refusals.{RefusalsLeave as WritersLeave}
use Rattle.fix.specs.Refusals.{RefusalsLeave as FramesLeave}
use Rattle.flow.specs.Refusals.{RefusalsLeave as EndsLeave}
use Rattle.relay.specs.Refusals.{RefusalsLeave as BoxLeaves}
use Rattle.calendar.specs.Refusals.{RefusalsLeave as CalendarLeaves}
use Rattle.book.specs.Refusals.{RefusalsLeave as BookLeaves}

pub record RefusalsLeave : Type 0 where
  -- Packets, fields, items and login packets written: every byte of the output.
  pub writers : WritersLeave
  -- Frames read and written: the expected number, every byte of the output.
  pub frames : FramesLeave
  -- Both ends and the named places: the state, every byte of log, output and buffer.
  pub ends : EndsLeave
  -- The box: its state, the seats' numbers, every byte of log, output and buffer.
  pub box : BoxLeaves
  pub calendar : CalendarLeaves
  pub book : BookLeaves
