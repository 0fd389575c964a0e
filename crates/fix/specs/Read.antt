-- A frame read with the expected number (02, No. 12).
use Rattle.std.specs.Prelude.{ℕ, ◌+◌, List, Bool, cond, ltb, eqb}
use Rattle.std.proofs.Math.Option.{Option, none, some}
use Rattle.ftd.specs.Bytes.{part}
use Rattle.ftd.specs.Packet.{span}
use Rattle.ftd.specs.declared.packet.Span.{Span}
use Rattle.ftd.specs.declared.refusal.Refusal.TheVariants.{NotOneFrame, RequiredTag, LowNumber}
use Rattle.fix.specs.declared.kinds.Kind.{Kind}
use Rattle.fix.specs.declared.read.Message.{Message}
use Rattle.fix.specs.declared.read.Judged.{Judged}
use Rattle.fix.specs.declared.read.Judged.TheVariants.{Refused, Next, Again, Gap, Reset}
use Rattle.fix.specs.declared.read.Reading.{Reading}
use Rattle.fix.specs.Kinds.{kind_of, first_tag, second_tag, is_reset}
use Rattle.fix.specs.Fields.{Given, fields_of, first_of, number_at, says_yes}
use Rattle.fix.specs.Check.{wrong_numbers, wrong_tags}
use Rattle.fix.specs.Frame.{frame_of}
use Rattle.std.specs.Prelude.{Some, None}
use Rattle.fix.specs.Types.{MaybeFront, MaybeFrame}

-- ─── What comes with every answer but a refusal ───

-- The place of a field's text, moved on; nothing where there is no field.
abbrev pub moved_to : ℕ → MaybeFront → Span
moved_to at None = span 0 0
moved_to at (Some found) = span (at + found.start) found.len

-- Kind and type; the fields behind 35 up to the one before 10; the number of 34; the type's own values as numbers (0
-- where a test request's text is none), and the text of the first; whether 123 says Y.
abbrev pub message_with : List ℕ → Span → Span → Kind → Bool → Message
message_with b name fields kind fill =
    let run = part b fields.start fields.len in
    record {
      kind = kind;
      name = name;
      fields = fields;
      number = number_at 34 (fields_of run);
      first = number_at (first_tag kind) (fields_of run);
      second = number_at (second_tag kind) (fields_of run);
      text = moved_to fields.start (first_of run (first_tag kind));
      fill = fill;
    }

unfoldable pub message_of : List ℕ → Span → Span → Message
message_of b name fields =
    message_with b name fields (kind_of (part b name.start name.len))
    (says_yes 123 (fields_of (part b fields.start fields.len)))

-- ─── The judgement ───

-- The message that an answer bears; a refusal bears none.
abbrev pub message_in : Judged → Option Message
message_in (Refused r) = none
message_in (Next m) = some m
message_in (Again m) = some m
message_in (Gap m) = some m
message_in (Reset m) = some m

abbrev pub reading : ℕ → Judged → Reading
reading expected answer = record { expected = expected; answer = answer }

-- By its number: equal is next and raises the expected one, higher is a gap, lower with the flag again, else 30.
unfoldable pub numbered_of : Message → Bool → ℕ → Reading
numbered_of m duplicate expected =
    cond (eqb m.number expected) (reading (expected + 1) (Next m))
    (cond (ltb expected m.number) (reading expected (Gap m))
    (cond duplicate (reading expected (Again m))
    (reading expected (Refused LowNumber))))

-- A sequence reset without gap fill is reset, whatever its number: the caller applies resets.
unfoldable pub judged_of : Message → Bool → ℕ → Reading
judged_of m duplicate expected =
    cond (is_reset m.kind) (cond m.fill (numbered_of m duplicate expected) (reading expected (Reset m)))
    (numbered_of m duplicate expected)

-- 28 over all fields before 29 looks at any.
unfoldable pub checked_of : Message → List Given → ℕ → Reading
checked_of m fs expected =
    cond (wrong_numbers m.kind fs) (reading expected (Refused NotOneFrame))
    (cond (wrong_tags m.kind fs) (reading expected (Refused RequiredTag))
    (judged_of m (says_yes 43 fs) expected))

abbrev pub framed_of : List ℕ → ℕ → MaybeFrame → Reading
framed_of b expected None = reading expected (Refused NotOneFrame)
framed_of b expected (Some found) =
    checked_of (message_of b found.name found.fields) (fields_of (part b found.fields.start found.fields.len)) expected

unfoldable pub read_of : List ℕ → ℕ → Reading
read_of b expected = framed_of b expected (frame_of b)
