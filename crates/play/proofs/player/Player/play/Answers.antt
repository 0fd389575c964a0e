use borrow.Author.Rules.{rules}
use Rattle.play.proofs.words.Parts.{taken}
use Rattle.play.proofs.player.Plays.{play-none, play-long, play-said}
use Rattle.play.proofs.player.Room.{text-room, said-room}
use Rattle.play.proofs.player.Player.play.Goals as goal

pub returns-then-lacks_room : goal.returns-then-lacks_room
returns-then-lacks_room c = search (rules, play-none)

pub bad_line-requires : goal.bad_line-requires
bad_line-requires c = search (rules, text-room)

pub returns-then-line-len : goal.returns-then-line-len
returns-then-line-len c = search (rules, play-long)

pub slice_bounds-said-end : goal.slice_bounds-said-end
slice_bounds-said-end c = taken _ _ (search rules)

pub play_call-requires : goal.play_call-requires
play_call-requires c =
    said-room c.args.self c.args.line.now _ _ _ _ _ _ c.lacks_room.ensures c.if-lacks_room.false
    _ c.args.len _ c.counted-next.ensures c.call_of.ensures

pub returns : goal.returns
returns c = search (rules, play-said)
