-- The measure is what is left of the content.
use Rattle.std.specs.Prelude.{◌-◌, length}
use Rattle.ftd.proofs.chain.+put_rest.Given as goal

abbrev pub decreases-put_rest : goal.decreases-put_rest
decreases-put_rest l = length l.content.now - l.at
