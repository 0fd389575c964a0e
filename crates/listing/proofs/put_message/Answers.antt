use native.Mathlib.Omega.{arith}
use Rattle.listing.specs.Lines.{message_text}
use Rattle.listing.proofs.Numbers.{digits-most}
use Rattle.listing.proofs.Texts.{wrote-both}
use Rattle.listing.proofs.put_message.Goals as goal

pub put_tabbed-n-requires : goal.put_tabbed-n-requires
put_tabbed-n-requires c =
    omega (arith, digits-most 4 c.args.series (omega arith))

pub put_tabbed-n-requires-2 : goal.put_tabbed-n-requires-2
put_tabbed-n-requires-2 c =
    omega (arith, digits-most 4 c.args.series (omega arith), digits-most 9 c.args.number (omega arith))

pub put_tabbed-requires : goal.put_tabbed-requires
put_tabbed-requires c =
    let a =
    c.args in
    omega (
      arith,
      digits-most 4 a.series (omega arith),
      digits-most 9 a.number (omega arith),
      digits-most 4
          a.fields (omega arith),
    )

pub returns : goal.returns
unfolding message_text
returns c =
    let a =
    c.args in (
      wrote-both (omega arith)
          (wrote-both (omega arith)
          (wrote-both (omega arith)
          c.put_start-n.ensures.0
          c.put_tabbed-n.ensures)
          c.put_tabbed-n-2.ensures)
          c.put_tabbed.ensures,
      omega (
        arith,
        digits-most 4 a.series (omega arith),
        digits-most 9 a.number (omega arith),
        digits-most 4
            a.fields (omega arith),
      ),
    )
