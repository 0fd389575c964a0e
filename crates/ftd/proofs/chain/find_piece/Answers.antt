use borrow.Author.Rules.{rules}
use mathlib.Core.Path.{◌∙◌}
use native.Mathlib.Nat.{sub_self}
use native.Mathlib.Omega.{arith}
use Rattle.ftd.proofs.chain.Pieces.{piece-moves, piece-here, piece-none, piece-turn}
use Rattle.ftd.proofs.chain.find_piece.Goals as goal

pub loop-left-init : goal.loop-left-init
loop-left-init c = (search rules, search rules, search rules, rw sub_self, search rules)

pub returns-then-left-eq0 : goal.returns-then-left-eq0
returns-then-left-eq0 c = (search rules, search rules, search (rules, piece-here), search rules)

pub returns-then-c-content : goal.returns-then-c-content
returns-then-c-content c = search (rules, piece-none)

pub loop-left-smaller : goal.loop-left-smaller
loop-left-smaller c =
    omega (
      arith,
      piece-moves _ _ _ c.next_piece-c.ensures c.loop-left.invariant.2
          c.if-c-content.false,
    )

pub loop-left-preserved : goal.loop-left-preserved
loop-left-preserved c = (
  search rules,
  search rules,
  c.next_piece-c.ensures.left
      ∙ c.loop-left.invariant.2,
  search (rules, piece-turn),
  omega (
    arith,
    piece-moves _ _ _ c.next_piece-c.ensures c.loop-left.invariant.2
        c.if-c-content.false,
    c.loop-left.invariant.4,
  ),
)
