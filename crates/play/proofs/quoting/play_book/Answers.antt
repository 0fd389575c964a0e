use borrow.Author.Rules.{rules}
use Rattle.play.proofs.words.Parts.{taken, said-room, said-part, said-front}
use Rattle.play.proofs.quoting.Shown.{start-played}
use Rattle.play.proofs.quoting.play_book.Goals as goal

pub put_bytes-n-requires : goal.put_bytes-n-requires
put_bytes-n-requires c = search (rules, said-room)

pub slice_bounds-start_book-end : goal.slice_bounds-start_book-end
slice_bounds-start_book-end c = search (rules, said-part)

pub slice_bounds-start_book-end-2 : goal.slice_bounds-start_book-end-2
slice_bounds-start_book-end-2 c = taken _ _ (search (rules, said-part))

pub returns : goal.returns
returns c = search (rules, start-played, said-front)
