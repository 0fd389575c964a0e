-- A refusal leaves all as before, of every call and every writer: the theorems of the crates below, joined.
use Rattle.ftd.proofs.Refusals.{refusals-leave as writers}
use Rattle.fix.proofs.Refusals.{refusals-leave as frames}
use Rattle.flow.proofs.Refusals.{refusals-leave as ends}
use Rattle.relay.proofs.Refusals.{refusals-leave as box}
use Rattle.calendar.proofs.Refusals.{refusals-leave as calendar}
use Rattle.book.proofs.Refusals.{refusals-leave as book}
use Rattle.exports.specs.Refusals.{RefusalsLeave}

pub refusals-leave : RefusalsLeave
refusals-leave =
    record { writers = writers; frames = frames; ends = ends; box = box; calendar = calendar; book = book }
