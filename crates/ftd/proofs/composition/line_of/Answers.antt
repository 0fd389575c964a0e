use Rattle.ftd.specs.Composition.{appendix_e, line_tids, directions, fids, leasts, mosts, line_at}
use Rattle.ftd.proofs.composition.Lines.{other-tid, same-tid}
use borrow.Author.Rules.{rules}
use Rattle.ftd.proofs.composition.line_of.Goals as goal

pub returns-then-number16-tid : goal.returns-then-number16-tid
unfolding line_at line_tids directions fids leasts mosts appendix_e
returns-then-number16-tid c =
    same-tid (line_at c.args.i) c.args.tid c.args.direction c.number16.result
    c.number16.ensures.0 c.if-number16-tid.true

pub returns-else-number16-tid : goal.returns-else-number16-tid
unfolding line_at line_tids directions fids leasts mosts appendix_e
returns-else-number16-tid c = search (rules, other-tid)
