use Prim.Native.Nat.{◌+◌}
use mathlib.Core.Path.{refl}
use borrow.Author.Rules.{rules}
use Rattle.fix.proofs.read.Judging.{moves-in, message-made}
use Rattle.fix.proofs.read.message_of.Goals as goal

pub moved-text-requires : goal.moved-text-requires
moved-text-requires c =
    moves-in c.args.b.now c.args.fields.start (c.args.fields.start + c.args.fields.len) c.first_field.result
    c.first_field.ensures.1 (search rules)

pub returns : goal.returns
returns c = (
  message-made c.args.b.now c.args.name c.args.fields c.args.kind c.args.fill _ refl _ _ _ _ _ _ _
      c.first_tag-one.ensures
      c.second_tag-two.ensures
      c.number_at-number.ensures.0
      c.number_at-first.ensures.0
      c.number_at-second.ensures.0
      c.first_field.ensures.0
      c.moved-text.ensures,
  search rules,
)
