-- The rows of the refusal table by number (specs/Meaning.antt). Assumes nothing.
pub mod Calls
pub mod Values
pub mod Absent
use mathlib.Core.Path.{◌≡◌, refl}
use mathlib.Core.Bool.{Bool, true, false}
use lib.Dec.{eqb}
use Rattle.ftd.specs.Refusal.{number_of}
use Rattle.ftd.specs.declared.refusal.Refusal.{Refusal}
use Rattle.ftd.specs.declared.refusal.Refusal.TheVariants.{LongExtension, BrokenTag, BodyLength, Version, ChainLetter}
use Rattle.ftd.specs.declared.refusal.Refusal.TheVariants.{ContentLength, FieldRun, FieldLength, Item, Composition}
use Rattle.ftd.specs.declared.refusal.Refusal.TheVariants.{Opening, NotOnePacket, UnknownSeries, NotLoggedIn, OtherDay}
use Rattle.ftd.specs.declared.refusal.Refusal.TheVariants.{OutOfLine, BrokenChain, TooSmall, WrongStart, DamagedLog}
use Rattle.ftd.specs.declared.refusal.Refusal.TheVariants.{DayFull, Quantity, Levels, Volume, NoSeat, Sessions}
use Rattle.ftd.specs.declared.refusal.Refusal.TheVariants.{Holiday, NotOneFrame, RequiredTag, LowNumber, WrongName}
use Rattle.ftd.specs.declared.refusal.Refusal.TheVariants.{FifthName, UnknownName}
use Rattle.exports.specs.Numbers.{flag}
use Rattle.exports.specs.Meaning.{row_for, or_refused, bool_for}

-- A number says its row; it is neither 0 nor the number that is not in the table.
abbrev Says : Refusal → Type 0
Says r = (row_for (number_of r) ≡ r) × (eqb (number_of r) 0 ≡ false) × (eqb (number_of r) 255 ≡ false)

says : (r : Refusal) → Says r
unfolding row_for
says LongExtension = (refl, refl, refl)
says BrokenTag = (refl, refl, refl)
says BodyLength = (refl, refl, refl)
says Version = (refl, refl, refl)
says ChainLetter = (refl, refl, refl)
says ContentLength = (refl, refl, refl)
says FieldRun = (refl, refl, refl)
says FieldLength = (refl, refl, refl)
says Item = (refl, refl, refl)
says Composition = (refl, refl, refl)
says Opening = (refl, refl, refl)
says NotOnePacket = (refl, refl, refl)
says UnknownSeries = (refl, refl, refl)
says NotLoggedIn = (refl, refl, refl)
says OtherDay = (refl, refl, refl)
says OutOfLine = (refl, refl, refl)
says BrokenChain = (refl, refl, refl)
says TooSmall = (refl, refl, refl)
says WrongStart = (refl, refl, refl)
says DamagedLog = (refl, refl, refl)
says DayFull = (refl, refl, refl)
says Quantity = (refl, refl, refl)
says Levels = (refl, refl, refl)
says Volume = (refl, refl, refl)
says NoSeat = (refl, refl, refl)
says Sessions = (refl, refl, refl)
says Holiday = (refl, refl, refl)
says NotOneFrame = (refl, refl, refl)
says RequiredTag = (refl, refl, refl)
says LowNumber = (refl, refl, refl)
says WrongName = (refl, refl, refl)
says FifthName = (refl, refl, refl)
says UnknownName = (refl, refl, refl)

pub row_back : (r : Refusal) → row_for (number_of r) ≡ r
row_back r = (says r).0

pub row_zero : (r : Refusal) → eqb (number_of r) 0 ≡ false
row_zero r = (says r).1

pub row-table : (r : Refusal) → eqb (number_of r) 255 ≡ false
row-table r = (says r).2

pub refused-back : {A : Type 0} (turned : Refusal → A) (done : A) (r : Refusal)
    → or_refused (number_of r) turned done ≡ turned r
refused-back turned done r = rw (row_zero r, row_back r) refl

pub flag-back : (b : Bool) → bool_for (flag b) ≡ b
flag-back false = refl
flag-back true = refl
