-- What some bytes are (4.1, 4.2; 01, "Packet" and "Message packet", rows 1 to 7 of the refusal table).
pub mod Helpers
pub mod Laws
use Rattle.std.specs.Prelude.{ℕ, ◌+◌, ◌-◌, List, [], Bool, true, false, cond, not, ◌&&◌, ◌||◌, length, get_or, ltb, leb, eqb}
use Rattle.ftd.specs.Bytes.{be16_of, be32_of, part}
use Rattle.ftd.specs.Tags.{good_tags, trade_date_of, packet_place_of}
use Rattle.ftd.specs.Fields.{exact_run, fields_of, field_place_of}
use Rattle.ftd.specs.declared.refusal.Refusal.TheVariants.{LongExtension, BrokenTag, BodyLength, Version}
use Rattle.ftd.specs.declared.refusal.Refusal.TheVariants.{ChainLetter, ContentLength, FieldRun}
use Rattle.ftd.specs.declared.packet.Span.{Span}
use Rattle.ftd.specs.declared.packet.Chain.{Chain}
use Rattle.ftd.specs.declared.packet.Chain.TheVariants.{Single, First, Middle, Last}
use Rattle.ftd.specs.declared.packet.Header.{Header}
use Rattle.ftd.specs.Types.{TradeDate}
use Rattle.ftd.specs.Types.{PacketPlace}
use Rattle.ftd.specs.declared.packet.Dated.{Dated}
use Rattle.ftd.specs.declared.packet.Packet.{Packet}
use Rattle.ftd.specs.declared.packet.Packet.TheVariants.{Short, Link, Skipped, Message, Refused}
use Rattle.ftd.specs.declared.packet.Verdict.{Verdict}
use Rattle.ftd.specs.declared.packet.Verdict.TheVariants.{TooFew, LinkPacket, SkippedPacket}
use Rattle.ftd.specs.declared.packet.Verdict.TheVariants.{MessagePacket, Against}
use Rattle.ftd.specs.declared.packet.Judged.{Judged}
use Rattle.std.specs.Prelude.{Some, None}
use Rattle.ftd.specs.Types.{MaybeField, some_field}

-- ─── Limits (4.1; 01, "Packet") ───

abbrev pub most_extension : ℕ
most_extension = 127

-- The body of a message packet: its header, and at most a packet's content.
abbrev pub least_body : ℕ
least_body = 16

abbrev pub most_body : ℕ
most_body = 4096

-- ─── What the first four bytes say (4.1.1) ───

-- Byte 0: the type.
abbrev pub kind_of : List ℕ → ℕ
kind_of p = get_or p 0 0

-- Byte 1: the length of the extension.
abbrev pub extension_length : List ℕ → ℕ
extension_length p = get_or p 1 0

-- Bytes 2 and 3: the length of the body, which counts neither header nor extension.
abbrev pub body_length : List ℕ → ℕ
body_length p = be16_of p 2

-- As many bytes as the first four say.
unfoldable pub said_length : List ℕ → ℕ
said_length p = 4 + extension_length p + body_length p

-- The same for any bytes: 0 where the four are not there.
unfoldable pub said_in : List ℕ → ℕ
said_in p = cond (leb 4 (length p)) (said_length p) 0

-- Where the body starts.
abbrev pub body_start : List ℕ → ℕ
body_start p = 4 + extension_length p

unfoldable pub extension_of : List ℕ → List ℕ
extension_of p = part p 4 (extension_length p)

-- ─── The body of a message packet (4.2.1) ───

-- Version 1 byte, TID 4, chain 1, series 2, number 4, field count 2, content length 2, then the content.

unfoldable pub version_of : List ℕ → ℕ
version_of p = get_or p (body_start p) 0

unfoldable pub tid_of : List ℕ → ℕ
tid_of p = be32_of p (body_start p + 1)

unfoldable pub letter_of : List ℕ → ℕ
letter_of p = get_or p (body_start p + 5) 0

unfoldable pub series_of : List ℕ → ℕ
series_of p = be16_of p (body_start p + 6)

unfoldable pub message_number_of : List ℕ → ℕ
message_number_of p = be32_of p (body_start p + 8)

unfoldable pub field_count_of : List ℕ → ℕ
field_count_of p = be16_of p (body_start p + 12)

unfoldable pub content_length_of : List ℕ → ℕ
content_length_of p = be16_of p (body_start p + 14)

unfoldable pub content_of : List ℕ → List ℕ
content_of p = part p (body_start p + 16) (body_length p - 16)

-- ─── The refusals, one test a row; each says something of any bytes ───

-- Fewer than four bytes, or fewer than the four say.
abbrev pub head_missing : List ℕ → Bool
head_missing p = ltb (length p) 4

unfoldable pub rest_missing : List ℕ → Bool
rest_missing p = ltb (length p) (said_length p)

-- How many bytes are certainly missing (02, No. 1): four less those there while the first four are not all there, then
-- the rest of the packet.
unfoldable pub missing_of : List ℕ → ℕ
missing_of p = cond (head_missing p) (4 - length p) (said_length p - length p)

-- 12: fewer than four bytes, or not as many as the first four say. (Said of no bytes are 0, yet no bytes are not one
-- packet.)
unfoldable pub not_one_packet : List ℕ → Bool
not_one_packet p = head_missing p || not (eqb (length p) (said_length p))

-- 12, of Login and Answer also: no message packet, by the first four bytes.
unfoldable pub no_message_packet : List ℕ → Bool
no_message_packet p = not (eqb (kind_of p) 0x01 && leb least_body (body_length p) && leb (body_length p) most_body)

-- 1: the extension is above 127.
abbrev pub long_extension : List ℕ → Bool
long_extension p = ltb most_extension (extension_length p)

-- 3: type 0x01 with a body of 1 to 15 or above 4,096.
unfoldable pub wrong_body : ℕ → ℕ → Bool
wrong_body kind body = eqb kind 0x01 && (not (eqb body 0) && (ltb body least_body || ltb most_body body))

-- Skipped: any type but 0x00 and 0x01, and type 0x00 with a body.
unfoldable pub is_skipped : ℕ → ℕ → Bool
is_skipped kind body = ltb 0x01 kind || (eqb kind 0x00 && ltb 0 body)

-- 2: the tags don't end with the extension, a known tag has a wrong length, or 0x05 or 0x70 stands twice.
abbrev pub broken_tag : List ℕ → Bool
broken_tag p = not (good_tags (extension_of p))

-- A link packet has no body.
abbrev pub is_link : List ℕ → Bool
is_link p = eqb (body_length p) 0

-- 4: the version is not 1.
abbrev pub wrong_version : List ℕ → Bool
wrong_version p = not (eqb (version_of p) 1)

-- 5: the chain letter is not S (0x53), F (0x46), C (0x43) or L (0x4C).
unfoldable pub is_letter : ℕ → Bool
is_letter x = eqb x 0x53 || (eqb x 0x46 || (eqb x 0x43 || eqb x 0x4C))

abbrev pub wrong_letter : List ℕ → Bool
wrong_letter p = not (is_letter (letter_of p))

-- 6: the content length is not the body less 16.
abbrev pub wrong_content_length : List ℕ → Bool
wrong_content_length p = not (eqb (content_length_of p + 16) (body_length p))

-- 7: the content isn't exactly that many fields.
abbrev pub wrong_fields : List ℕ → Bool
wrong_fields p = not (exact_run (content_of p) (field_count_of p))

-- ─── What was read ───

-- The letters of the chain: S single, F first, C middle, L last.
unfoldable pub chain_of : ℕ → Chain
chain_of x = cond (eqb x 0x53) Single (cond (eqb x 0x46) First (cond (eqb x 0x43) Middle Last))

abbrev pub chain_letter : Chain → ℕ
chain_letter Single = 0x53
chain_letter First = 0x46
chain_letter Middle = 0x43
chain_letter Last = 0x4C

abbrev pub span : ℕ → ℕ → Span
span start len = record { start = start; len = len }

abbrev pub extension_span : List ℕ → Span
extension_span p = span 4 (extension_length p)

-- Where the content lies.
abbrev pub content_span : List ℕ → Span
content_span p = span (body_start p + 16) (body_length p - 16)

unfoldable pub header_of : List ℕ → Header
header_of p =
    record {
      tid = tid_of p;
      chain = chain_of (letter_of p);
      series = series_of p;
      number = message_number_of p;
      fields = field_count_of p;
    }

-- A message packet with nothing wrong: its values and places.
unfoldable pub accepted_of : List ℕ → Packet
accepted_of p = Message (header_of p) (extension_span p) (content_span p)

-- ─── Reading: the first test that holds decides ───

-- The body of a message packet.
unfoldable pub message_of : List ℕ → Packet
message_of p =
    cond (wrong_version p) (Refused Version)
    (cond (wrong_letter p) (Refused ChainLetter)
    (cond (wrong_content_length p) (Refused ContentLength)
    (cond (wrong_fields p) (Refused FieldRun)
    (accepted_of p))))

-- A packet that is there whole.
unfoldable pub whole_of : List ℕ → Packet
whole_of p =
    cond (is_skipped (kind_of p) (body_length p))
    (Skipped (kind_of p) (extension_span p) (span (body_start p) (body_length p)))
    (cond (broken_tag p) (Refused BrokenTag)
    (cond (is_link p) (Link (kind_of p) (extension_span p))
    (message_of p)))

unfoldable pub read_of : List ℕ → Packet
read_of p =
    cond (head_missing p) (Short (missing_of p))
    (cond (long_extension p) (Refused LongExtension)
    (cond (wrong_body (kind_of p) (body_length p)) (Refused BodyLength)
    (cond (rest_missing p) (Short (missing_of p))
    (whole_of p))))

-- A link packet and a message packet bear the trade date and the place of their extension; nothing else bears any.
abbrev pub bears_tags : Packet → Bool
bears_tags (Short n) = false
bears_tags (Link kind extension) = true
bears_tags (Skipped kind extension body) = false
bears_tags (Message h extension content) = true
bears_tags (Refused r) = false

unfoldable pub with_tags : Packet → TradeDate → PacketPlace → Dated
with_tags packet d j =
    record {
      packet = packet;
      date = cond (bears_tags packet) d None;
      place = cond (bears_tags packet) j None;
    }

unfoldable pub dated_of : List ℕ → Dated
dated_of p = with_tags (read_of p) (trade_date_of (extension_of p)) (packet_place_of (extension_of p))

-- ─── The same without the parts ───

-- What the bytes are, without values and places.
abbrev pub verdict_of : Packet → Verdict
verdict_of (Short n) = TooFew
verdict_of (Link kind extension) = LinkPacket
verdict_of (Skipped kind extension body) = SkippedPacket
verdict_of (Message h extension content) = MessagePacket
verdict_of (Refused r) = Against r

unfoldable pub judgement : Dated → Judged
judgement d = record { verdict = verdict_of d.packet; date = d.date; place = d.place }

unfoldable pub judged_of : List ℕ → Judged
judged_of p = judgement (dated_of p)

-- The parts again, by the verdict.
abbrev pub parts_of : List ℕ → Verdict → Packet
parts_of p TooFew = Short (missing_of p)
parts_of p LinkPacket = Link (kind_of p) (extension_span p)
parts_of p SkippedPacket = Skipped (kind_of p) (extension_span p) (span (body_start p) (body_length p))
parts_of p MessagePacket = accepted_of p
parts_of p (Against r) = Refused r

-- Bytes are missing.
abbrev pub is_short : Packet → Bool
is_short (Short n) = true
is_short (Link kind extension) = false
is_short (Skipped kind extension body) = false
is_short (Message h extension content) = false
is_short (Refused r) = false

-- ─── Field i of a packet ───

-- The fields of a message packet, each with FID and length; bytes that are no message packet have none.
abbrev pub fields_within : List ℕ → Packet → List (List ℕ)
fields_within p (Short n) = []
fields_within p (Link kind extension) = []
fields_within p (Skipped kind extension body) = []
fields_within p (Message h extension content) = fields_of (part p content.start content.len)
fields_within p (Refused r) = []

unfoldable pub message_fields : List ℕ → List (List ℕ)
message_fields p = fields_within p (read_of p)

-- A place in a part that starts at `base`, as a place in the whole.
abbrev pub moved_by : ℕ → MaybeField → MaybeField
moved_by base None = None
moved_by base (Some found) = some_field found.fid (base + found.start) found.len

-- Field i, counted from 0: FID, place in the packet and length of its bytes without FID and length; else no field.
abbrev pub field_within : List ℕ → Packet → ℕ → MaybeField
field_within p (Short n) i = None
field_within p (Link kind extension) i = None
field_within p (Skipped kind extension body) i = None
field_within p (Message h extension content) i =
    moved_by content.start (field_place_of (part p content.start content.len) i)
field_within p (Refused r) i = None

unfoldable pub field_of : List ℕ → ℕ → MaybeField
field_of p i = field_within p (read_of p) i

-- The bytes of field i: that part of the packet.
abbrev pub part_at : List ℕ → MaybeField → List ℕ
part_at p None = []
part_at p (Some found) = part p found.start found.len

unfoldable pub field_bytes : List ℕ → ℕ → List ℕ
field_bytes p i = part_at p (field_of p i)
