use borrow.Author.Rules.{rules}
use native.Mathlib.Omega.{arith}
use mir.Syntax.{w64}
use mir.ValLaws.{to_z-of_z}
use Rattle.play.proofs.prices.Lines.{price-below, price-above}
use Rattle.play.proofs.prices.put_price.Goals as goal

pub returns-then-price-lt0 : goal.returns-then-price-lt0
returns-then-price-lt0 c = (
  price-below (omega arith) c.args.price _ _ c.put_byte-n.ensures c.put_units.ensures.0
      c.unsigned_abs-units.ensures.value c.if-price-lt0.true (to_z-of_z w64 _ c.ranges.price),
  search rules,
)

pub returns : goal.returns
returns c = (search (rules, price-above), search rules)
