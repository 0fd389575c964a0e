use Rattle.listing.proofs.Examples.{examples}
use Rattle.listing.proofs.Listing.{listed}
use Rattle.listing.proofs.keeps_listing.Goals as goal

pub returns : goal.returns
returns c = (listed, examples)
