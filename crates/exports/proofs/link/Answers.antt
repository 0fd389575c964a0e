use Rattle.exports.specs.Numbers.{link_numbers}
use Rattle.exports.proofs.link.Goals as goal

pub returns : goal.returns
unfolding link_numbers
returns c =
    rw (
      c.into.ensures,
      c.date.ensures,
      c.place.ensures,
      c.dated.ensures,
      c.placed.ensures,
    )
