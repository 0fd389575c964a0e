-- A frame written (02, No. 12): the type, and the fields as one run of bytes TAG=TEXT SOH.
use Rattle.std.specs.Prelude.{ℕ, List, ◌++◌, cond, length, drop, ltb}
use Rattle.ftd.specs.declared.refusal.Refusal.TheVariants.{NotOneFrame, RequiredTag, TooSmall}
use Rattle.ftd.specs.Types.{Written}
use Rattle.fix.specs.Kinds.{kind_of}
use Rattle.fix.specs.Fields.{fields_of}
use Rattle.fix.specs.Check.{wrong_numbers, wrong_tags}
use Rattle.fix.specs.Frame.{is_framed, frame_bytes}
use Rattle.std.specs.Prelude.{Ok, Err}
use Rattle.ftd.specs.declared.write.WriteError.TheVariants.{Refused, NotPlain}
use Rattle.ftd.specs.declared.write.WriteError.TheVariants.{NotPlain}

-- 28: no frame, or a number is wrong; 18: the output is too short; 29: tags. Refused, nothing is written.
unfoldable pub write_answer : List ℕ → List ℕ → ℕ → Written
write_answer name run room =
    cond (is_framed name run)
    (cond (wrong_numbers (kind_of name) (fields_of run)) (Err (Refused NotOneFrame))
    (cond (ltb room (length (frame_bytes name run))) (Err (Refused TooSmall))
    (cond (wrong_tags (kind_of name) (fields_of run)) (Err (Refused RequiredTag))
    (Ok (length (frame_bytes name run))))))
    (Err (Refused NotOneFrame))

-- The bytes of the output: the frame at its start, and what was behind it stays.
abbrev pub output_of : Written → List ℕ → List ℕ → List ℕ
output_of (Ok n) frame out = frame ++ drop n out
output_of (Err (Refused r)) frame out = out
output_of (Err NotPlain) frame out = out

unfoldable pub write_output : List ℕ → List ℕ → List ℕ → List ℕ
write_output name run out = output_of (write_answer name run (length out)) (frame_bytes name run) out
