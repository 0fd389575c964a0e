use Rattle.ftd.proofs.chain.Tagging.{date-room, place-room, put-counted, put-uncounted}
use borrow.Author.Rules.{rules}
use Rattle.ftd.proofs.chain.put_message_tags.Goals as goal

pub put_tags-requires : goal.put_tags-requires
put_tags-requires c = search (rules, date-room)

pub put_place-requires : goal.put_place-requires
put_place-requires c = search (rules, place-room)

pub returns-then-m : goal.returns-then-m
returns-then-m c = search (rules, put-counted)

pub returns-else-m : goal.returns-else-m
returns-else-m c = search (rules, put-uncounted)
