-- What the numbers of an answer mean to a driver, as include/ftd.h says them: written from there, without the
-- definitions that make the numbers. A number that no answer has means what stands last.
pub mod Calls
pub mod Values
pub mod Absent
use Rattle.std.specs.Prelude.{ℕ, Bool, cond, eqb}
use Rattle.ftd.specs.Packet.{span}
use Rattle.ftd.specs.declared.packet.Span.{Span}
use Rattle.ftd.specs.declared.refusal.Refusal.{Refusal}
use Rattle.ftd.specs.declared.refusal.Refusal.TheVariants.{LongExtension, BrokenTag, BodyLength, Version, ChainLetter}
use Rattle.ftd.specs.declared.refusal.Refusal.TheVariants.{ContentLength, FieldRun, FieldLength, Item, Composition}
use Rattle.ftd.specs.declared.refusal.Refusal.TheVariants.{Opening, NotOnePacket, UnknownSeries, NotLoggedIn, OtherDay}
use Rattle.ftd.specs.declared.refusal.Refusal.TheVariants.{OutOfLine, BrokenChain, TooSmall, WrongStart, DamagedLog}
use Rattle.ftd.specs.declared.refusal.Refusal.TheVariants.{DayFull, Quantity, Levels, Volume, NoSeat, Sessions}
use Rattle.ftd.specs.declared.refusal.Refusal.TheVariants.{Holiday, NotOneFrame, RequiredTag, LowNumber, WrongName}
use Rattle.ftd.specs.declared.refusal.Refusal.TheVariants.{FifthName, UnknownName}
use Rattle.exports.specs.declared.FtdSpan.{FtdSpan}

-- enum ftd_refusal.
unfoldable pub row_for : ℕ → Refusal
row_for n =
    cond (eqb n 1) LongExtension
    (cond (eqb n 2) BrokenTag
    (cond (eqb n 3) BodyLength
    (cond (eqb n 4) Version
    (cond (eqb n 5) ChainLetter
    (cond (eqb n 6) ContentLength
    (cond (eqb n 7) FieldRun
    (cond (eqb n 8) FieldLength
    (cond (eqb n 9) Item
    (cond (eqb n 10) Composition
    (cond (eqb n 11) Opening
    (cond (eqb n 12) NotOnePacket
    (cond (eqb n 13) UnknownSeries
    (cond (eqb n 14) NotLoggedIn
    (cond (eqb n 15) OtherDay
    (cond (eqb n 16) OutOfLine
    (cond (eqb n 17) BrokenChain
    (cond (eqb n 18) TooSmall
    (cond (eqb n 19) WrongStart
    (cond (eqb n 20) DamagedLog
    (cond (eqb n 21) DayFull
    (cond (eqb n 22) Quantity
    (cond (eqb n 23) Levels
    (cond (eqb n 24) Volume
    (cond (eqb n 25) NoSeat
    (cond (eqb n 26) Sessions
    (cond (eqb n 27) Holiday
    (cond (eqb n 28) NotOneFrame
    (cond (eqb n 29) RequiredTag
    (cond (eqb n 30) LowNumber
    (cond (eqb n 31) WrongName
    (cond (eqb n 32) FifthName
    UnknownName)))))))))))))))))))))))))))))))

-- `refusal` is 0, or why the call did nothing.
abbrev pub or_refused : {A : Type 0} → ℕ → (Refusal → A) → A → A
or_refused refusal turned done = cond (eqb refusal 0) done (turned (row_for refusal))

-- 1: it is so.
abbrev pub bool_for : ℕ → Bool
bool_for n = eqb n 1

-- struct ftd_span.
abbrev pub span_for : FtdSpan → Span
span_for s = span s.start s.len
