use borrow.Author.Rules.{rules}
use Rattle.play.proofs.words.Parts.{taken}
use Rattle.play.proofs.several.Shown.{published-shown, records-front, records-back}
use Rattle.play.proofs.several.publish_all.Goals as goal

pub slice_bounds-publish_records-end-2 : goal.slice_bounds-publish_records-end-2
slice_bounds-publish_records-end-2 c = taken _ _ (search rules)

pub publish_records-all-requires : goal.publish_records-all-requires
publish_records-all-requires c = search (rules, records-front)

pub published_taken-len-requires : goal.published_taken-len-requires
published_taken-len-requires c = search (rules, records-back)

pub returns : goal.returns
returns c = search (rules, published-shown)
