-- A piece behind the bytes held of its chain: what holding it leaves of the series; over plain variables. Assumes
-- nothing.
use Prim.Native.Nat.{ℕ, ◌+◌, ◌*◌, ◌≤◌}
use mathlib.Core.Path.{◌≡◌, sym, ◌∙◌}
use mathlib.Core.List.{List}
use mathlib.Core.Bool.{Bool, true, false}
use borrow.Author.Tests.{ltb-false, leb-true}
use lib.ListN.{length}
use lib.Dec.{ltb, leb}
use Rattle.ftd.specs.Bytes.{put}
use Rattle.ftd.specs.Packet.{span}
use Rattle.ftd.specs.declared.refusal.Refusal.TheVariants.{TooSmall}
use Rattle.ftd.specs.declared.packet.Header.{Header}
use Rattle.flow.specs.declared.receive.OneStep.{OneStep}
use Rattle.flow.specs.declared.receiver.KeptSeries.{KeptSeries}
use Rattle.flow.specs.declared.receiver.Origin.TheVariants.{Buffer}
use Rattle.flow.specs.declared.receiver.Received.TheVariants.{Refused as NotTaken}
use Rattle.flow.specs.Types.{Target}
use Rattle.flow.specs.Deciding.{copied_to}
use Rattle.flow.specs.ReceiveHelpers.{parts_of, no_room, one_dropping, one_completing, one_keeping, one_holds}
use Rattle.flow.proofs.common.Bools.{or-neither}
use Rattle.std.specs.Prelude.{Some}

-- Where there is room, the piece fits into the part.
pub piece-fits : (count size held more : ℕ) (b : Bool) → b ≡ no_room count size held more → b ≡ false
    → held + more ≤ 32768
piece-fits count size held more b q x =
    ltb-false 32768 (held + more) (or-neither (ltb size (parts_of count)) (ltb 32768 (held + more)) (sym q ∙ x)).1

-- A piece of a series at place i, and whether it lacks room.
module _ (kept : KeptSeries) (i count : ℕ) (h : Header) (held pieces : ℕ) (whole : Bool) (more size : ℕ)
    (b : Bool) (q : b ≡ no_room count size held more) where
  -- 18.
  pub hold-small : b ≡ true → (r : OneStep) → r ≡ one_dropping kept (NotTaken TooSmall)
      → r ≡ one_holds kept i count h held pieces whole more size
  unfolding one_holds
  hold-small x r y = rw (y, ← q, x)

  module _ (x : b ≡ false) where
    pub hold-whole : whole ≡ true → (r : OneStep)
        → r ≡ one_completing kept h Buffer (span (32768 * i) (held + more)) (Some (32768 * i + held))
        → r ≡ one_holds kept i count h held pieces whole more size
    unfolding one_holds
    hold-whole w r y = rw (y, ← q, x, w)

    pub hold-done : whole ≡ false → (r : OneStep)
        → r ≡ one_keeping kept h.tid (held + more) pieces (Some (32768 * i + held))
        → r ≡ one_holds kept i count h held pieces whole more size
    unfolding one_holds
    hold-done w r y = rw (y, ← q, x, w)

-- ─── The piece is copied ───

module _ (target : Target) (n : ℕ) (q : target ≡ Some n) (content buffer : List ℕ) (b : Bool)
    (k : b ≡ leb (n + length content) (length buffer)) where
  pub copy-there : b ≡ true → n + length content ≤ length buffer
  copy-there x = leb-true (n + length content) (length buffer) (sym k ∙ x)

  pub copy_done : b ≡ true → (after : List ℕ) → after ≡ put buffer n content → after ≡ copied_to target content buffer
  copy_done x after y = rw (q, ← k, x) y

  pub copy-none : b ≡ false → buffer ≡ copied_to target content buffer
  copy-none x = rw (q, ← k, x)
