use Prim.Native.Nat.{◌+◌, ◌-◌}
use mathlib.Core.Path.{◌∙◌}
use native.Mathlib.Omega.{arith}
use Rattle.ftd.specs.Packet.{span}
use Rattle.ftd.proofs.packet.Laws.{judged-verdict, no_message, message-told, content-told, message-room, place-fits}
use Rattle.ftd.proofs.packet.Laws.{field_found}
use borrow.Author.Rules.{rules}
use Rattle.ftd.proofs.packet.find_field.Goals as goal

pub bounds-p-1 : goal.bounds-p-1
bounds-p-1 c =
    let m = message-told _ _ (judged-verdict _ _ c.judge.ensures) c.in-MessagePacket.is in
    omega (arith, m.four)

pub be16-requires : goal.be16-requires
be16-requires c =
    let m = message-told _ _ (judged-verdict _ _ c.judge.ensures) c.in-MessagePacket.is in
    omega (arith, m.four)

pub overflow_sub-n : goal.overflow_sub-n
overflow_sub-n c =
    let m = message-told _ _ (judged-verdict _ _ c.judge.ensures) c.in-MessagePacket.is in
    let r =
    message-room _ _ _ c.size8.ensures.0 (c.size16-n.ensures.0 ∙ c.be16.ensures) m in
    omega (arith, r.2)

pub moved-requires : goal.moved-requires
moved-requires c =
    let y = span (4 + c.size8.result + 16) (c.size16-n.result - 16) in
    (place-fits c.args.p.now y c.field_place.result c.field_place.ensures.1, search rules)

pub returns : goal.returns
returns c =
    field_found _ _ _ _ _ _ _
    (content-told _ _ (judged-verdict _ _ c.judge.ensures) c.in-MessagePacket.is _ _
    c.size8.ensures.0 (c.size16-n.ensures.0 ∙ c.be16.ensures))
    c.field_place.ensures.0 c.field_place.ensures.1 c.moved.ensures

pub returns-in_default : goal.returns-in_default
returns-in_default c =
    (rw (no_message _ _ (judged-verdict _ _ c.judge.ensures) c.in_default.not-MessagePacket c.args.i), tt)

pub slice_bounds-field_place-end : goal.slice_bounds-field_place-end
slice_bounds-field_place-end c =
    let m = message-told _ _ (judged-verdict _ _ c.judge.ensures) c.in-MessagePacket.is in
    let r = message-room _ _ _ c.size8.ensures.0 (c.size16-n.ensures.0 ∙ c.be16.ensures) m in
    omega (arith, r.1, r.2)
