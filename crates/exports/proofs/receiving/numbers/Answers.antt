use Rattle.exports.proofs.receiving.numbers.Goals as goal

pub returns : goal.returns
returns c =
    rw (
      c.date.ensures,
      c.dated.ensures,
      c.flag_of.ensures,
      c.flag_of-2.ensures,
    )
