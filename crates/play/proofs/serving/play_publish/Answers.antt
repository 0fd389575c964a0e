use borrow.Author.Rules.{rules}
use Rattle.play.proofs.words.Parts.{taken, said-room, said-part, said-front}
use Rattle.play.proofs.serving.Shown.{publish-played}
use Rattle.play.proofs.serving.play_publish.Goals as goal

pub put_bytes-n-requires : goal.put_bytes-n-requires
put_bytes-n-requires c = search (rules, said-room)

pub slice_bounds-publish-end : goal.slice_bounds-publish-end
slice_bounds-publish-end c = search (rules, said-part)

pub slice_bounds-publish-end-2 : goal.slice_bounds-publish-end-2
slice_bounds-publish-end-2 c = taken _ _ (search (rules, said-part))

pub slice_bounds-publish-end-4 : goal.slice_bounds-publish-end-4
slice_bounds-publish-end-4 c = taken _ _ (search rules)

pub returns : goal.returns
returns c = search (rules, publish-played, said-front)
