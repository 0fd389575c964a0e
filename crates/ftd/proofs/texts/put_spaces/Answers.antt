use Rattle.std.proofs.lemmas.List.Edits.{length-between}
use lib.ListN.{length-replicate}
use Rattle.ftd.proofs.bytes.Put.{mid-put}
use Rattle.ftd.proofs.texts.put_spaces.Goals as goal

pub returns : goal.returns
returns c =
    let n = length-between c.args.out.now c.args.from c.args.to c.requires.1 in
    mid-put _ _ _ _ _ (rw n at (c.fill.ensures.after (λ y e. e))) (length-replicate _ _)
