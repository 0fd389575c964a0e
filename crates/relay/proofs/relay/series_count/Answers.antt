use mathlib.Core.Path.{◌∙◌}
use borrow.Author.Rules.{rules}
use Rattle.flow.proofs.series.Places.{unmapped}
use Rattle.relay.proofs.relay.Towards.{open-count}
use Rattle.relay.proofs.relay.series_count.Goals as goal

pub returns : goal.returns
returns c = (c.min.ensures ∙ open-count c.args.e (search (rules, unmapped)), search rules)
