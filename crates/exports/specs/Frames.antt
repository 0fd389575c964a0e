-- Frames of JR/T 0087 as the numbers that C and Rust get (include/ftd.h): a frame read, its fields, and texts as numbers.
pub mod Laws
use Rattle.std.specs.Prelude.{ℕ}
use Rattle.ftd.specs.Refusal.{number_of}
use Rattle.fix.specs.Types.{Number}
use Rattle.fix.specs.declared.kinds.Kind.{Kind}
use Rattle.fix.specs.declared.kinds.Kind.TheVariants.{Heartbeat, TestRequest, ResendRequest, SequenceReset}
use Rattle.fix.specs.declared.kinds.Kind.TheVariants.{Logout, Logon, Other}
use Rattle.fix.specs.declared.read.Message.{Message}
use Rattle.fix.specs.declared.read.Judged.{Judged}
use Rattle.fix.specs.declared.read.Judged.TheVariants.{Refused, Next, Again, Gap, Reset}
use Rattle.fix.specs.declared.read.Reading.{Reading}
use Rattle.exports.specs.Numbers.{flag, no_span, span_numbers}
use Rattle.exports.specs.declared.frames.FtdReading.{FtdReading}
use Rattle.exports.specs.declared.frames.FtdTagged.{FtdTagged}
use Rattle.exports.specs.declared.frames.FtdNumber.{FtdNumber}
use Rattle.std.specs.Prelude.{Some, None}
use Rattle.fix.specs.Types.{MaybeFront}

-- ─── Read: 0 refused, 1 next, 2 again, 3 gap, 4 reset ───

-- The type: 0 another than the six.
abbrev pub kind_number : Kind → ℕ
kind_number Heartbeat = 1
kind_number TestRequest = 2
kind_number ResendRequest = 3
kind_number SequenceReset = 4
kind_number Logout = 5
kind_number Logon = 6
kind_number Other = 0

-- A refusal has no values; the expected number is as it was.
abbrev pub refused_numbers : ℕ → ℕ → FtdReading
refused_numbers expected refusal =
    record {
      name = no_span;
      fields = no_span;
      text = no_span;
      expected = expected;
      number = 0;
      first = 0;
      second = 0;
      answer = 0;
      refusal = refusal;
      kind = 0;
      fill = 0;
    }

-- Every other answer has what the frame says.
abbrev pub said_numbers : ℕ → ℕ → Message → FtdReading
said_numbers expected answer m =
    record {
      name = span_numbers m.name;
      fields = span_numbers m.fields;
      text = span_numbers m.text;
      expected = expected;
      number = m.number;
      first = m.first;
      second = m.second;
      answer = answer;
      refusal = 0;
      kind = kind_number m.kind;
      fill = flag m.fill;
    }

abbrev pub judged_numbers : ℕ → Judged → FtdReading
judged_numbers expected (Refused r) = refused_numbers expected (number_of r)
judged_numbers expected (Next m) = said_numbers expected 1 m
judged_numbers expected (Again m) = said_numbers expected 2 m
judged_numbers expected (Gap m) = said_numbers expected 3 m
judged_numbers expected (Reset m) = said_numbers expected 4 m

abbrev pub reading_numbers : Reading → FtdReading
reading_numbers x = judged_numbers x.expected x.answer

-- ─── A field: 1, its tag and the place of its text, or all 0 ───

abbrev pub front_numbers : MaybeFront → FtdTagged
front_numbers None = record { start = 0; len = 0; tag = 0; found = 0 }
front_numbers (Some found1) = record { start = found1.start; len = found1.len; tag = found1.tag; found = 1 }

-- ─── A text as a number: 1 and its value, or 0 and 0 ───

abbrev pub text_numbers : Number → FtdNumber
text_numbers None = record { number = 0; found = 0 }
text_numbers (Some n) = record { number = n; found = 1 }
