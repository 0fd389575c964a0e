-- The content check (01, refusal table, last line): 7, 8, 9 and 10, in that order.
pub mod Helpers
use Rattle.std.specs.Prelude.{ℕ, List, cond}
use Rattle.ftd.specs.Fields.{shaped}
use Rattle.ftd.specs.Items.{check_of}
use Rattle.ftd.specs.Composition.{composed}
use Rattle.ftd.specs.declared.refusal.Refusal.TheVariants.{FieldRun, Composition}
use Rattle.ftd.specs.declared.composition.Direction.{Direction}
use Rattle.ftd.specs.Types.{Checked}
use Rattle.std.specs.Prelude.{Ok, Err}

-- A refusal stands; what passed goes on to the next test.
abbrev pub passed_then : Checked → Checked → Checked
passed_then (Ok tt) next = next
passed_then (Err r) next = Err r

-- Of content that is given for a message: whole fields within the limit (7), widths (8), items (9), make-up (10).
unfoldable pub content_check : ℕ → Direction → List ℕ → ℕ → Checked
content_check tid d content limit =
    cond (shaped content limit)
    (passed_then (check_of content)
    (cond (composed tid d content) (Ok tt) (Err Composition)))
    (Err FieldRun)
