use Rattle.ftd.specs.Composition.{appendix_e, line_tids, directions, fids, leasts, mosts, line_at}
use Rattle.ftd.proofs.composition.line_field.Goals as goal

pub returns : goal.returns
unfolding line_at line_tids directions fids leasts mosts appendix_e
returns c = c.number16.ensures.0
