use Rattle.exports.proofs.frames.said.Goals as goal

pub returns : goal.returns
returns c =
    rw (
      c.into.ensures,
      c.into-2.ensures,
      c.into-3.ensures,
      c.kind_number.ensures,
      c.flag_of.ensures,
    )
