use native.Mathlib.Omega.{arith}
use mathlib.Core.Path.{sym, ◌∙◌}
use Rattle.ftd.proofs.chain.Pieces.{shaped-facts, tags-long}
use Rattle.ftd.proofs.chain.Places.{answers-broken, answers-none, answers-large, answers-written}
use Rattle.ftd.proofs.write.Puts.{short-told, fits-told}
use borrow.Author.Rules.{rules}
use Rattle.ftd.proofs.chain.write_packet.Goals as goal

pub find_piece-requires : goal.find_piece-requires
find_piece-requires c = (shaped-facts _ _ _ c.is_shaped.ensures c.if-not-is_shaped.false).1

pub returns-in_default : goal.returns-in_default
returns-in_default c =
    let f = rw c.in_default.is at c.find_piece.ensures in
    let said = answers-none _ _ _ _ (sym c.is_shaped.ensures ∙ c.if-not-is_shaped.false) f in
    record { answer = said.0; output = said.1 }

pub overflow_sub-len : goal.overflow_sub-len
overflow_sub-len c =
    let f = rw c.in-Some.is at c.find_piece.ensures in
    f.0.low

pub overflow_add-len : goal.overflow_add-len
overflow_add-len c =
    let f = rw c.in-Some.is at c.find_piece.ensures in
    omega (arith, f.0.small, f.0.low)

pub overflow_add-len-2 : goal.overflow_add-len-2
overflow_add-len-2 c =
    let f = rw c.in-Some.is at c.find_piece.ensures in
    omega (arith, f.0.small, f.0.low)

pub returns-in_err-room : goal.returns-in_err-room
returns-in_err-room c =
    let f = rw c.in-Some.is at c.find_piece.ensures in
    let short = short-told _ _ _ c.room.ensures _ c.in_err-room.was in
    let said = answers-large _ _ _ _ (sym c.is_shaped.ensures ∙ c.if-not-is_shaped.false) _ _ f _
    c.message_tags.ensures.0 short.0 in
    record { answer = search rules; output = said.1 }

pub put_piece-requires : goal.put_piece-requires
put_piece-requires c =
    let f = rw c.in-Some.is at c.find_piece.ensures in
    let content = (shaped-facts _ _ _ c.is_shaped.ensures c.if-not-is_shaped.false).0 in
    let size = tags-long c.args.m c.args.i in
    (f.0, omega (arith, f.3, f.0.low, f.0.high), omega (arith, size, c.message_tags.ensures.0, fits-told _ _ _ c.room.ensures c.in_ok-room.was))

pub returns : goal.returns
returns c =
    let f = rw c.in-Some.is at c.find_piece.ensures in
    let said = answers-written _ _ _ _ (sym c.is_shaped.ensures ∙ c.if-not-is_shaped.false) _ _ f _
    c.message_tags.ensures.0 (fits-told _ _ _ c.room.ensures c.in_ok-room.was) _ c.put_piece.ensures in
    record { answer = said.0; output = said.1 }

pub returns-then-not-is_shaped : goal.returns-then-not-is_shaped
returns-then-not-is_shaped c =
    let said = answers-broken _ _ _ _ (sym c.is_shaped.ensures ∙ c.if-not-is_shaped.true) in
    record { answer = said.0; output = said.1 }
