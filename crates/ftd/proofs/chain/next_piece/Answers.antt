use borrow.Author.Rules.{rules}
use mathlib.Core.Path.{refl}
use Rattle.ftd.proofs.chain.Cuts.{begun-none, cut-over, cut-full, cut-turn, cut_left}
use Rattle.ftd.proofs.chain.next_piece.Goals as goal

pub loop-at-init : goal.loop-at-init
loop-at-init c = (
  search rules,
  search rules,
  search rules,
  search rules,
  refl,
  begun-none c.args.content.now
      c.args.at,
)

pub returns-then-n-eq0 : goal.returns-then-n-eq0
returns-then-n-eq0 c = search (rules, cut-over)

pub returns-then-end-n-gt-PACKET_CONTENT : goal.returns-then-end-n-gt-PACKET_CONTENT
returns-then-end-n-gt-PACKET_CONTENT c = search (rules, cut-full)

pub loop-at-preserved : goal.loop-at-preserved
loop-at-preserved c =
    (search rules, search rules, search rules, search rules, search (rules, cut_left), search (rules, cut-turn))
