use native.Mathlib.Omega.{arith}
use Rattle.listing.specs.Lines.{refused_text}
use Rattle.listing.proofs.Numbers.{digits-most}
use Rattle.listing.proofs.Texts.{wrote-both}
use Rattle.listing.proofs.put_refused.Goals as goal

pub put_tabbed-requires : goal.put_tabbed-requires
put_tabbed-requires c =
    omega (
      arith,
      digits-most 2 c.args.refusal
          (omega arith),
    )

pub returns : goal.returns
unfolding refused_text
returns c = (
  wrote-both (omega arith) c.put_word-n.ensures
      c.put_tabbed.ensures,
  omega (
    arith,
    digits-most 2
        c.args.refusal
        (omega arith),
  ),
)
