-- Packets as they are written (4.1, 4.2; 01, "Packet", "Message packet" and demand 2), and what a writer answers.
pub mod Laws
use Rattle.std.specs.Prelude.{ℕ, ◌+◌, ◌-◌, List, ◌∷◌, ◌++◌, Bool, cond, not, ◌&&◌, ◌||◌, length, drop, ltb, eqb}
use Rattle.ftd.specs.Bytes.{bytes16, bytes32}
use Rattle.ftd.specs.Tags.{good_tags}
use Rattle.ftd.specs.Fields.{exact_run, field_content, packet_content}
use Rattle.ftd.specs.Packet.{wrong_body, is_skipped, chain_letter, most_extension}
use Rattle.ftd.specs.declared.refusal.Refusal.{Refusal}
use Rattle.ftd.specs.declared.refusal.Refusal.TheVariants.{LongExtension, BrokenTag, BodyLength, FieldRun}
use Rattle.ftd.specs.declared.refusal.Refusal.TheVariants.{TooSmall, Item}
use Rattle.ftd.specs.declared.packet.Header.{Header}
use Rattle.ftd.specs.Types.{Written}
use Rattle.std.specs.Prelude.{Ok, Err}
use Rattle.ftd.specs.declared.write.WriteError.TheVariants.{Refused, NotPlain}
use Rattle.ftd.specs.declared.write.WriteError.TheVariants.{NotPlain}

-- ─── The bytes of a packet ───

-- The first four: type, length of the extension, length of the body.
abbrev pub frame_head : ℕ → ℕ → ℕ → List ℕ
frame_head kind ext body = kind ∷ ext ∷ bytes16 body

unfoldable pub packet_bytes : ℕ → List ℕ → List ℕ → List ℕ
packet_bytes kind extension body = frame_head kind (length extension) (length body) ++ (extension ++ body)

-- The header of a message: version 1, TID, chain letter, series, number, field count, content length.
unfoldable pub header_bytes : Header → ℕ → List ℕ
header_bytes h size =
    1 ∷ (bytes32
    h.tid ++ (chain_letter
    h.chain ∷ (bytes16 h.series ++ (bytes32 h.number ++ (bytes16 h.fields ++ bytes16 size)))))

unfoldable pub message_bytes : Header → List ℕ → List ℕ → List ℕ
message_bytes h extension content = packet_bytes 0x01 extension (header_bytes h (length content) ++ content)

-- ─── What is refused: what the reader would refuse of the result ───

-- Nothing is wrong with the values; a refusal of the table; or they are no packet of the kind that is to be written,
-- which the table has no number for.
pub data Verdict : Type 0 where
  fine : Verdict
  refuse : Refusal → Verdict
  other : Written → Verdict

-- Link and skipped packets. A body of type 0x01 makes none of both: it is 3, or with 16 to 4,096 bytes a message
-- packet, which is written otherwise; and a body above 65,535 has no length of two bytes.
unfoldable pub is_plain : ℕ → ℕ → Bool
is_plain kind body = not (ltb 65535 body) && (not (eqb kind 0x01) || eqb body 0)

unfoldable pub plain_verdict : ℕ → List ℕ → List ℕ → Verdict
plain_verdict kind extension body =
    cond (ltb most_extension (length extension)) (refuse LongExtension)
    (cond (is_plain kind (length body))
    (cond (is_skipped kind (length body) || good_tags extension) fine (refuse BrokenTag))
    (cond (wrong_body kind (length body)) (refuse BodyLength)
    (other (Err NotPlain))))

unfoldable pub message_verdict : Header → List ℕ → List ℕ → Verdict
message_verdict h extension content =
    cond (ltb most_extension (length extension)) (refuse LongExtension)
    (cond (ltb packet_content (length content)) (refuse BodyLength)
    (cond (good_tags extension)
    (cond (exact_run content h.fields) fine (refuse FieldRun))
    (refuse BrokenTag)))

-- A field: no packet holds one of more than 4,074 bytes.
unfoldable pub field_verdict : List ℕ → Verdict
field_verdict bytes = cond (ltb field_content (length bytes)) (refuse FieldRun) fine

-- ─── What a writer answers, and what it leaves in the output ───

-- 18: the output lacks the bytes needed.
unfoldable pub written_answer : Verdict → List ℕ → List ℕ → Written
written_answer fine bytes out = cond (ltb (length out) (length bytes)) (Err (Refused TooSmall)) (Ok (length bytes))
written_answer (refuse r) bytes out = Err (Refused r)
written_answer (other w) bytes out = w

-- Refused, the output is as it was; otherwise the bytes stand at its start, and what was behind them stays.
unfoldable pub written_output : Verdict → List ℕ → List ℕ → List ℕ
written_output fine bytes out = cond (ltb (length out) (length bytes)) out (bytes ++ drop (length bytes) out)
written_output (refuse r) bytes out = out
written_output (other w) bytes out = out

-- ─── A value written ───

-- A value that does not fit is refused as the item would be, with 9.
abbrev pub fit_verdict : Bool → Verdict
fit_verdict fits = cond fits fine (refuse Item)
