use borrow.Author.Rules.{rules}
use Rattle.play.proofs.words.Parts.{taken, said-room, said-part, said-front}
use Rattle.play.proofs.several.Shown.{records-room, publish-all-played}
use Rattle.play.proofs.several.play_publish_all.Goals as goal

pub put_bytes-n-requires : goal.put_bytes-n-requires
put_bytes-n-requires c = search (rules, said-room)

pub slice_bounds-publish_all-end : goal.slice_bounds-publish_all-end
slice_bounds-publish_all-end c = search (rules, said-part)

pub slice_bounds-publish_all-end-2 : goal.slice_bounds-publish_all-end-2
slice_bounds-publish_all-end-2 c = taken _ _ (search (rules, said-part))

pub slice_bounds-publish_all-end-4 : goal.slice_bounds-publish_all-end-4
slice_bounds-publish_all-end-4 c = taken _ _ (search rules)

pub publish_all-requires : goal.publish_all-requires
publish_all-requires c = search (rules, records-room, said-part)

pub returns : goal.returns
returns c = search (rules, publish-all-played, said-front)
