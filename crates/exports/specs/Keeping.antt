-- Named places of a receiving end (02, No. 13) as the numbers that C and Rust get and give (include/ftd.h): the
-- checkpoints, and what keeping and return answer.
pub mod Laws
use Rattle.std.specs.Prelude.{ℕ, map}
use Rattle.flow.specs.declared.receiver.KeptSeries.{KeptSeries}
use Rattle.flow.specs.declared.receiver.Receiver.{Receiver}
use Rattle.flow.specs.declared.checkpoint.Checkpoint.{Checkpoint}
use Rattle.flow.specs.declared.checkpoint.Checkpoints.{Checkpoints}
use Rattle.flow.specs.Types.{Saved}
use Rattle.flow.specs.Types.{Restored}
use Rattle.flow.specs.Ends.{Left}
use Rattle.exports.specs.Numbers.{refusal_of, dated_flag, date_of, date_for}
use Rattle.exports.specs.Receiving.{receiver_numbers}
use Rattle.exports.specs.declared.keeping.FtdCheckpointSeries.{FtdCheckpointSeries}
use Rattle.exports.specs.declared.keeping.FtdCheckpoint.{FtdCheckpoint}
use Rattle.exports.specs.declared.keeping.FtdCheckpoints.{FtdCheckpoints}
use Rattle.exports.specs.declared.keeping.FtdKeptStep.{FtdKeptStep}
use Rattle.exports.specs.declared.keeping.FtdReturned.{FtdReturned}

-- ─── The checkpoints that numbers say: a trade date unless dated is 0 ───

abbrev pub kept_series_for : FtdCheckpointSeries → KeptSeries
kept_series_for x = record { series = x.series; date = date_for x.dated x.date; last = x.last }

abbrev pub checkpoint_for : FtdCheckpoint → Checkpoint
checkpoint_for x =
    record { name = x.name; kept = record { count = x.count; series = map kept_series_for x.series } }

unfoldable pub checkpoints_for : FtdCheckpoints → Checkpoints
checkpoints_for c = record { count = c.count; places = map checkpoint_for c.places }

-- ─── The numbers of checkpoints ───

abbrev pub kept_series_numbers : KeptSeries → FtdCheckpointSeries
kept_series_numbers k =
    record { date = date_of k.date; last = k.last; series = k.series; dated = dated_flag k.date }

abbrev pub checkpoint_numbers : Checkpoint → FtdCheckpoint
checkpoint_numbers x =
    record { name = x.name; count = x.kept.count; series = map kept_series_numbers x.kept.series }

unfoldable pub checkpoints_numbers : Checkpoints → FtdCheckpoints
checkpoints_numbers c = record { count = c.count; places = map checkpoint_numbers c.places }

-- ─── An answer: 0 or the number of the refusal ───

abbrev pub saved_number : Saved → ℕ
saved_number x = refusal_of x

abbrev pub restored_number : Restored → ℕ
restored_number x = refusal_of x

-- ─── What each call leaves ───

abbrev pub kept_step_numbers : Left Checkpoints Saved → FtdKeptStep
kept_step_numbers x = record { checkpoints = checkpoints_numbers x.end; refusal = saved_number x.answer }

abbrev pub returned_numbers : Left Receiver Restored → FtdReturned
returned_numbers x = record { end = receiver_numbers x.end; refusal = restored_number x.answer }
