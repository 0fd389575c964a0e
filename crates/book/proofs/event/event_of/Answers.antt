use native.Mathlib.Omega.{arith}
use mathlib.Core.Path.{◌≡◌, sym, ◌∙◌}
use Rattle.book.proofs.event.Reading.{quotation-field, quotation-long, match-field, match-long}
use Rattle.book.proofs.event.event_of.Goals as goal

pub returns-in-8193 : goal.returns-in-8193
returns-in-8193 c = (
  quotation-field c.args.code.now c.args.tid c.args.field.now c.in-8193.is c.if-field-eq39.true
      (sym c.be32.ensures ∙ c.if-be32-eq13.true) _ c.quotation_in.ensures.0,
  c.quotation_in.ensures.1,
)

pub returns-in-8194 : goal.returns-in-8194
returns-in-8194 c =
    let u : c.args.tid ≡ 8193 → ⊥ = omega (arith, c.in-8194.is) in (
      match-field c.args.code.now c.args.tid c.args.field.now u c.in-8194.is c.if-field-eq35.true
          (sym c.be32-then-field-eq35.ensures ∙ c.if-be32-eq10.true) _ c.match_in.ensures.0,
      c.match_in.ensures.1,
    )

pub returns-in_default-2 : goal.returns-in_default-2
returns-in_default-2 c = (quotation-long c.args.code.now c.args.tid c.args.field.now c.in-8193.is c.if-field-eq39.false, tt)

pub returns-in_default-4 : goal.returns-in_default-4
returns-in_default-4 c =
    let u : c.args.tid ≡ 8193 → ⊥ = omega (arith, c.in-8194.is) in
    (match-long c.args.code.now c.args.tid c.args.field.now u c.in-8194.is c.if-field-eq35.false, tt)
