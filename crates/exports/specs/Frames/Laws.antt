-- What holds of a frame as numbers: nothing of what it says and of its judgement is lost, and the numbers that a caller is
-- told as next follow each other.
use Rattle.std.specs.Prelude.{ℕ, ◌≡◌, cond, not, eqb}
use Rattle.std.proofs.Math.Option.{Option, none, some}
use Rattle.ftd.specs.Follow.{Numbered, Follows}
use Rattle.ftd.specs.Refusal.{number_of}
use Rattle.ftd.specs.Packet.{span}
use Rattle.ftd.specs.declared.refusal.Refusal.{Refusal}
use Rattle.fix.specs.Types.{Number}
use Rattle.fix.specs.declared.kinds.Kind.{Kind}
use Rattle.fix.specs.declared.kinds.Kind.TheVariants.{Heartbeat, TestRequest, ResendRequest, SequenceReset}
use Rattle.fix.specs.declared.kinds.Kind.TheVariants.{Logout, Logon, Other}
use Rattle.fix.specs.declared.read.Message.{Message}
use Rattle.fix.specs.declared.read.Judged.{Judged}
use Rattle.fix.specs.declared.read.Judged.TheVariants.{Refused, Next, Again, Gap, Reset}
use Rattle.fix.specs.declared.read.Reading.{Reading}
use Rattle.fix.specs.Read.{read_of}
use Rattle.fix.specs.Follow.{Event, frame, set_to, is_set}
use Rattle.exports.specs.declared.frames.FtdReading.{FtdReading}
use Rattle.exports.specs.Frames.{said_numbers, reading_numbers, front_numbers, text_numbers}
use Rattle.fix.specs.Types.{MaybeFront}

-- The type that a number says.
unfoldable pub kind_for : ℕ → Kind
kind_for n =
    cond (eqb n 1) Heartbeat
    (cond (eqb n 2) TestRequest
    (cond (eqb n 3) ResendRequest
    (cond (eqb n 4) SequenceReset
    (cond (eqb n 5) Logout
    (cond (eqb n 6) Logon Other)))))

-- What the numbers of a frame say.
unfoldable pub message_for : FtdReading → Message
message_for x =
    record {
      kind = kind_for x.kind;
      name = span x.name.start x.name.len;
      fields = span x.fields.start x.fields.len;
      number = x.number;
      first = x.first;
      second = x.second;
      text = span x.text.start x.text.len;
      fill = not (eqb x.fill 0);
    }

-- A refusal with a number.
pub record TurnedAway (a : Judged) (number : ℕ) : Type 0 where
  pub row : Refusal
  pub turned : a ≡ Refused row
  pub numbered : number_of row ≡ number

-- ─── A caller that gives each call the expected number that the last one left, or sets it (02, No. 12) ───

abbrev pub left_expected : ℕ → Event → ℕ
left_expected expected (frame b) = (reading_numbers (read_of b expected)).expected
left_expected expected (set_to n) = n

-- The number that is told as next.
abbrev pub told_next : FtdReading → Option ℕ
told_next x = cond (eqb x.answer 1) (some x.number) none

abbrev pub took_next : ℕ → Event → Option ℕ
took_next expected (frame b) = told_next (reading_numbers (read_of b expected))
took_next expected (set_to n) = none

abbrev pub readings : Numbered ℕ Event
readings = record { wanted = λ n. n; step = left_expected; took = took_next; anew = is_set }

pub record FrameNumberLaws : Type 0 where
  -- The numbers of a message say that message.
  pub back : (expected answer : ℕ) (m : Message) → message_for (said_numbers expected answer m) ≡ m
  -- The answer says how the frame was judged, and the number of a refusal is its row's.
  pub refused : (x : Reading) → (reading_numbers x).answer ≡ 0 → TurnedAway x.answer (reading_numbers x).refusal
  pub next : (x : Reading) → (reading_numbers x).answer ≡ 1 → x.answer ≡ Next (message_for (reading_numbers x))
  pub again : (x : Reading) → (reading_numbers x).answer ≡ 2 → x.answer ≡ Again (message_for (reading_numbers x))
  pub gap : (x : Reading) → (reading_numbers x).answer ≡ 3 → x.answer ≡ Gap (message_for (reading_numbers x))
  pub reset : (x : Reading) → (reading_numbers x).answer ≡ 4 → x.answer ≡ Reset (message_for (reading_numbers x))
  pub expected : (x : Reading) → (reading_numbers x).expected ≡ x.expected
  -- The numbers told as next follow each other, until the caller sets the expected one.
  pub follow : Follows readings
  -- The numbers of a field or of a text are of no other one.
  pub field : (x y : MaybeFront) → front_numbers x ≡ front_numbers y → x ≡ y
  pub number : (x y : Number) → text_numbers x ≡ text_numbers y → x ≡ y
