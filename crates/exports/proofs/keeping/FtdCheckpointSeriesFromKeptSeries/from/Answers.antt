use Rattle.exports.proofs.keeping.FtdCheckpointSeriesFromKeptSeries.from.Goals as goal

pub returns : goal.returns
returns c = rw (c.date.ensures, c.dated.ensures)
