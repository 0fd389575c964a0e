use borrow.Author.Rules.{rules}
use Rattle.ftd.specs.Tags.{known_tags}
use Rattle.ftd.proofs.tags.KnownTags.{lengths, right-over, right-row}
use Rattle.ftd.proofs.tags.length_right.Goals as goal

pub returns-then-row-eq8 : goal.returns-then-row-eq8
returns-then-row-eq8 c = search (rules, right-over)

pub returns-else-row-eq8 : goal.returns-else-row-eq8
unfolding lengths known_tags
returns-else-row-eq8 c = search (rules, right-row)
