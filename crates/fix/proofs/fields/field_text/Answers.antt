use native.Mathlib.Nat.{add-sub_cancel_left}
use Rattle.fix.specs.Fields.{text_of}
use Rattle.fix.proofs.fields.field_text.Goals as goal

pub returns-in-None : goal.returns-in-None
unfolding text_of
returns-in-None c = rw (← c.find_field.ensures.0, c.in-None.is)

pub returns-in-Some : goal.returns-in-Some
unfolding text_of
returns-in-Some c =
    rw (
      ← c.find_field.ensures.0,
      c.in-Some.is,
      add-sub_cancel_left,
    )
