use Rattle.ftd.specs.Composition.{appendix_e, line_tids, directions, fids, leasts, mosts, line_at}
use Rattle.ftd.proofs.composition.Lines.{line-range}
use Rattle.ftd.proofs.composition.line_allows.Goals as goal

pub returns : goal.returns
unfolding line_at line_tids directions fids leasts mosts appendix_e
returns c =
    line-range (line_at c.args.i) c.size8.result c.size8-2.result c.args.n
    c.size8.ensures.0 c.size8-2.ensures.0 c.in_range.result c.in_range.ensures
