-- Both round trips of a frame (02, No. 12): what is read, written again, gives the same bytes; what is written is read
-- back as what was meant; and the writer refuses exactly what would not read back so.
use Rattle.std.specs.Prelude.{ℕ, ◌≤◌, ◌≡◌, List, ◌++◌, false, length, take, drop}
use Rattle.ftd.specs.Bytes.{part}
use Rattle.ftd.specs.declared.packet.Span.{Span}
use Rattle.fix.specs.Kinds.{kind_of}
use Rattle.fix.specs.Fields.{fields_of, says_yes}
use Rattle.fix.specs.Check.{wrong_numbers, wrong_tags}
use Rattle.fix.specs.Frame.{frame_of, frame_bytes}
use Rattle.fix.specs.Read.{read_of, message_of, judged_of}
use Rattle.fix.specs.Write.{write_answer, write_output}
use Rattle.std.specs.Prelude.{Ok}
use Rattle.fix.specs.Types.{some_frame}

abbrev pub text_at : List ℕ → Span → List ℕ
text_at b s = part b s.start s.len

-- Rows 28 and 29 pass some bytes, and their type and their fields are these.
pub record ReadsAs (b name run : List ℕ) : Type 0 where
  pub name_at : Span
  pub fields_at : Span
  pub framed : frame_of b ≡ some_frame name_at fields_at
  pub same_name : text_at b name_at ≡ name
  pub same_fields : text_at b fields_at ≡ run
  pub numbers : wrong_numbers (kind_of name) (fields_of run) ≡ false
  pub tags : wrong_tags (kind_of name) (fields_of run) ≡ false

pub record RoundTrips : Type 0 where
  -- What is read is the frame of its type and fields; written again, it is the same bytes.
  pub same : (b name run : List ℕ) → ReadsAs b name run → b ≡ frame_bytes name run
  pub again : (b name run out : List ℕ) → ReadsAs b name run → length b ≤ length out
      → (write_answer name run (length out) ≡ Ok (length b)) × (write_output name run out ≡ b ++ drop (length b) out)
  -- What is written is read back as what was meant.
  pub back : (name run out : List ℕ) (n : ℕ) → write_answer name run (length out) ≡ Ok n
      → ReadsAs (take n (write_output name run out)) name run
  -- In an output with room, the writer refuses what would not read back so, and nothing else (the other direction is
  -- `back`).
  pub refuses : (name run out : List ℕ) → ReadsAs (frame_bytes name run) name run
      → length (frame_bytes name run) ≤ length out
      → write_answer name run (length out) ≡ Ok (length (frame_bytes name run))
  -- Such bytes are judged by their number alone.
  pub judged : (b name run : List ℕ) (expected : ℕ) (r : ReadsAs b name run)
      → read_of b expected ≡ judged_of (message_of b r.name_at r.fields_at) (says_yes 43 (fields_of run)) expected
