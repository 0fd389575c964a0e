use borrow.Author.Rules.{rules}
use Rattle.play.proofs.words.Parts.{taken-below}
use Rattle.play.proofs.text.Turns.{front-room, front-all}
use Rattle.play.proofs.text.front_line.Goals as goal

pub slice_bounds-bytes_line-end : goal.slice_bounds-bytes_line-end
slice_bounds-bytes_line-end c = search (rules, taken-below)

pub bytes_line-requires : goal.bytes_line-requires
bytes_line-requires c = (search (rules, front-room), search rules, search rules)

pub returns : goal.returns
returns c = (search (rules, front-all), search rules)
