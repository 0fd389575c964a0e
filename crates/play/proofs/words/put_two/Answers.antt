use borrow.Author.Rules.{rules}
use Rattle.play.proofs.words.Parts.{said-room, behind-room, both-room, both-front, both_behind}
use Rattle.play.proofs.words.put_two.Goals as goal

pub put_bytes-n-requires : goal.put_bytes-n-requires
put_bytes-n-requires c = search (rules, said-room)

pub put_bytes-m-requires : goal.put_bytes-m-requires
put_bytes-m-requires c =
    behind-room c.args.line.now c.args.j c.args.i _ _ c.args.out.now _ _ c.argument-2.ensures
    c.argument.ensures c.requires c.put_bytes-n.ensures.0 c.put_bytes-n.ensures.2

pub returns : goal.returns
returns c = (
  search (rules, both-room),
  search (rules, both-front),
  both_behind _ _ _ _ _ c.argument.ensures c.put_bytes-n.ensures.0 c.put_bytes-n.ensures.1 _ _ _ _
      c.argument-2.ensures c.put_bytes-m.ensures.0 c.put_bytes-m.ensures.1,
)
