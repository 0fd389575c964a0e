use borrow.Author.Rules.{rules}
use Rattle.play.proofs.words.Arguments.{share-first, share-end, share-wrong, share-more, share-over}
use Rattle.play.proofs.words.share_count.Goals as goal

pub loop-n-init : goal.loop-n-init
loop-n-init c = search (rules, share-first)

pub returns-then-has_arguments : goal.returns-then-has_arguments
returns-then-has_arguments c = (search (rules, share-end), search rules)

pub returns-then-not-says_share : goal.returns-then-not-says_share
returns-then-not-says_share c = (search (rules, share-wrong), search rules)

pub loop-n-preserved : goal.loop-n-preserved
loop-n-preserved c = search (rules, share-more)

pub returns : goal.returns
returns c = (search (rules, share-over), search rules)
