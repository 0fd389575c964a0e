use borrow.Author.Rules.{rules}
use native.Mathlib.Omega.{arith}
use Rattle.ftd.proofs.write.Puts.{by-refusal, by-short, by-fitting, fits-told}
use Rattle.ftd.proofs.login.Writes.{login-size, login-long, login-broken, login-right, login-fields}
use Rattle.ftd.proofs.login.write_login.Goals as goal

pub returns-then-tail-content : goal.returns-then-tail-content
returns-then-tail-content c =
    let said = by-refusal _ _ _ _
    (login-long c.args.content.now c.args.ending c.ending_len-tail.result c.ending_len-tail.ensures.0
    (omega (arith, c.if-tail-content.true))) in
    record { answer = said.0; output = said.1 }

pub returns-then-c-content : goal.returns-then-c-content
returns-then-c-content c =
    let said = by-refusal _ _ _ _ (login-broken _ _ _ c.ending_len-tail.ensures.0 _ c.next_piece-c.ensures c.if-c-content.true) in
    record { answer = said.0; output = said.1 }

pub returns-in_err-room : goal.returns-in_err-room
returns-in_err-room c =
    let said = by-short _ _ _
    (login-right c.args.content.now c.args.ending c.ending_len-tail.result c.ending_len-tail.ensures.0 _
    c.next_piece-c.ensures (omega (arith, c.if-tail-content.false)) c.if-c-content.false)
    _ (login-size c.args.date c.args.content.now c.args.ending _ _ c.tags_len.ensures.0 c.ending_len-tail.ensures.0)
    _ c.room.ensures _ c.in_err-room.was _ (search rules) in
    record { answer = said.0; output = said.1 }

pub put_login-requires : goal.put_login-requires
put_login-requires c = (
  rw (← c.tags_len.ensures.0, ← c.ending_len-tail.ensures.0)
      (omega (arith, fits-told _ _ _ c.room.ensures c.in_ok-room.was)),
  omega (arith, c.if-tail-content.false),
  login-fields c.args.content.now c.args.ending c.ending_len-tail.result c.ending_len-tail.ensures.0 _
      c.next_piece-c.ensures (omega (arith, c.if-tail-content.false)) c.if-c-content.false _
      c.ending_fields.ensures.0,
  omega (arith, c.next_piece-c.ensures.few, c.next_piece-c.ensures.small, c.ending_fields.ensures.1),
)

pub returns : goal.returns
returns c =
    let said = by-fitting _ _ _
    (login-right c.args.content.now c.args.ending c.ending_len-tail.result c.ending_len-tail.ensures.0 _
    c.next_piece-c.ensures (omega (arith, c.if-tail-content.false)) c.if-c-content.false)
    _ (login-size c.args.date c.args.content.now c.args.ending _ _ c.tags_len.ensures.0 c.ending_len-tail.ensures.0) _ c.room.ensures
    c.in_ok-room.was _ c.put_login.ensures in
    record { answer = said.0; output = said.1 }
