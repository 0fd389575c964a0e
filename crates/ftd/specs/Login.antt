-- A login packet and its answer (01, "The serving end", "The receiving end"): TID 0x0016, S, series and number 0, a
-- trade date, if any, as the only tag. They are written alike, but for the start field that Ask puts behind the
-- content.
use Rattle.std.specs.Prelude.{ℕ, ◌+◌, ◌-◌, ◌≡◌, List, [], ◌++◌, true, false, cond, length}
use Rattle.ftd.specs.Bytes.{part}
use Rattle.ftd.specs.Fields.{fields_of, shaped, packet_content}
use Rattle.ftd.specs.Packet.{not_one_packet, no_message_packet, span, dated_of}
use Rattle.ftd.specs.Write.{message_bytes, Verdict, fine, refuse}
use Rattle.ftd.specs.Tags.{tags_for, extension_bytes}
use Rattle.ftd.specs.Resume.{resume_bytes}
use Rattle.ftd.specs.declared.refusal.Refusal.TheVariants.{FieldRun}
use Rattle.ftd.specs.Types.{TradeDate}
use Rattle.ftd.specs.declared.packet.Chain.TheVariants.{Single}
use Rattle.ftd.specs.declared.packet.Header.{Header}
use Rattle.ftd.specs.declared.packet.Packet.TheVariants.{Message}
use Rattle.std.specs.Prelude.{Some, None}
use Rattle.ftd.specs.Types.{MaybeEnding}

-- TID 0x0016.
abbrev pub login_tid : ℕ
login_tid = 0x0016

unfoldable pub login_header : List ℕ → Header
login_header content =
    record { tid = login_tid; chain = Single; series = 0; number = 0; fields = length (fields_of content) }

unfoldable pub login_bytes : TradeDate → List ℕ → List ℕ
login_bytes date content = message_bytes (login_header content) (extension_bytes (tags_for date)) content

-- ─── Written ───

-- What stands behind the content that is given.
abbrev pub ending_bytes : MaybeEnding → List ℕ
ending_bytes None = []
ending_bytes (Some found) = resume_bytes found.series found.number

-- 7: the content that is given is not whole fields of at most 4,074, or more than one packet holds with what stands
-- behind it.
unfoldable pub login_verdict : List ℕ → MaybeEnding → Verdict
login_verdict content ending = cond (shaped content (packet_content - length (ending_bytes ending))) fine (refuse FieldRun)

-- ─── What holds of it ───

pub record LoginLaws : Type 0 where
  -- Read back: header, trade date, and content where its place says.
  pub back : (d : TradeDate) (c : List ℕ) → shaped c packet_content ≡ true → dated_of (login_bytes d c) ≡ record {
    packet =
        Message (login_header c) (span 4 (length (extension_bytes (tags_for d))))
        (span (4 + length (extension_bytes (tags_for d)) + 16) (length c));
    date = d;
    place = None;
  }
  pub content-back : (d : TradeDate) (c : List ℕ)
      → part (login_bytes d c) (4 + length (extension_bytes (tags_for d)) + 16) (length c) ≡ c
  -- It is one packet, and a message packet.
  pub one-packet : (d : TradeDate) (c : List ℕ) → shaped c packet_content ≡ true
      → (not_one_packet (login_bytes d c) ≡ false) × (no_message_packet (login_bytes d c) ≡ false)
  -- What is written without refusal has shape.
  pub fine-shaped : (c : List ℕ) (ending : MaybeEnding) → login_verdict c ending ≡ fine
      → shaped (c ++ ending_bytes ending) packet_content ≡ true
