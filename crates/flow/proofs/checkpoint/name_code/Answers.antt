use mathlib.Core.Path.{◌∙◌}
use Rattle.flow.proofs.checkpoint.Letters.{code-bytes}
use Rattle.flow.proofs.checkpoint.name_code.Goals as goal

pub returns : goal.returns
returns c = c.from_le_bytes.ensures ∙ rw c.copy_from_slice.ensures.after (code-bytes c.args.name.now c.requires)
