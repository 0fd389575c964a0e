use borrow.Author.Rules.{rules}
use borrow.Author.Tests.{tests}
use lib.Seq.{take-length}
use Rattle.ftd.specs.Texts.{text_fits}
use Rattle.ftd.proofs.texts.text_fits.Goals as goal
use Rattle.ftd.proofs.texts.text_fits.Goals.{then-value-width, else-value-width}

pub returns-then-all_in : goal.returns-then-all_in
unfolding text_fits
returns-then-all_in c = search (rules, tests, take-length)

pub returns-else-all_in : goal.returns-else-all_in
unfolding text_fits
returns-else-all_in c = search (rules, tests, take-length)
