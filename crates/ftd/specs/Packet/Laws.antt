-- What holds of reading (01, "Packet" and "Message packet"): the statements that the layers above go by.
use Rattle.std.specs.Prelude.{ℕ, ◌+◌, ◌-◌, ◌<◌, ◌≤◌, ◌≡◌, List, [], ◌++◌, true, false, cond, ◌↔◌, ◌⊎◌, length, get_or}
use Rattle.ftd.specs.Bytes.{Bytes, part, joined}
use Rattle.ftd.specs.Tags.{good_tags}
use Rattle.ftd.specs.Fields.{exact_run, fid_of, bytes_of}
use Rattle.ftd.specs.Packet.{most_extension, most_body, kind_of, extension_length, body_length, said_length, body_start}
use Rattle.ftd.specs.Packet.{extension_of, version_of, letter_of, field_count_of, content_length_of, content_of, is_letter}
use Rattle.ftd.specs.Packet.{head_missing, rest_missing, missing_of, not_one_packet, long_extension, wrong_body, whole_of}
use Rattle.ftd.specs.Packet.{span, extension_span, accepted_of, is_short, read_of, message_fields, field_of, field_bytes}
use Rattle.ftd.specs.declared.refusal.Refusal.TheVariants.{LongExtension, BodyLength}
use Rattle.ftd.specs.declared.packet.Span.{Span}
use Rattle.ftd.specs.declared.packet.Header.{Header}
use Rattle.ftd.specs.declared.packet.Packet.{Packet}
use Rattle.ftd.specs.declared.packet.Packet.TheVariants.{Short, Link, Skipped, Message, Refused}
use Rattle.std.specs.Prelude.{None}
use Rattle.ftd.specs.Types.{some_field}

-- ─── What each kind of packet is: conditions on the bytes, each by itself, in no order ───

-- A message packet with nothing wrong (01, "Message packet", rows 1 to 7).
pub record IsMessage (p : List ℕ) : Type 0 where
  pub four : 4 ≤ length p
  pub type : kind_of p ≡ 1
  pub extension : extension_length p ≤ most_extension
  pub least : 16 ≤ body_length p
  pub most : body_length p ≤ most_body
  pub there : said_length p ≤ length p
  pub tags : good_tags (extension_of p) ≡ true
  pub version : version_of p ≡ 1
  pub letter : is_letter (letter_of p) ≡ true
  pub size : content_length_of p + 16 ≡ body_length p
  pub fields : exact_run (content_of p) (field_count_of p) ≡ true

-- A link packet (01, "Packet", rows 1 and 2): type 0x00 or 0x01, no body.
pub record IsLink (p : List ℕ) : Type 0 where
  pub four : 4 ≤ length p
  pub type : kind_of p ≤ 1
  pub extension : extension_length p ≤ most_extension
  pub empty : body_length p ≡ 0
  pub there : said_length p ≤ length p
  pub tags : good_tags (extension_of p) ≡ true

-- A skipped packet (01, "Packet", row 1): type 0x00 with a body, or 0x02 and above; its tags are not looked at.
pub record IsSkipped (p : List ℕ) : Type 0 where
  pub four : 4 ≤ length p
  pub type : ((kind_of p ≡ 0) × (0 < body_length p)) ⊎ (2 ≤ kind_of p)
  pub extension : extension_length p ≤ most_extension
  pub there : said_length p ≤ length p

-- Bytes are missing: fewer than four, or, where the four give neither 1 nor 3, fewer than they say (01, "Packet").
pub record IsCut (p : List ℕ) : Type 0 where
  pub four : 4 ≤ length p
  pub extension : extension_length p ≤ most_extension
  pub body : wrong_body (kind_of p) (body_length p) ≡ false
  pub rest : length p < said_length p

abbrev pub IsShort : List ℕ → Type 0
IsShort p = (length p < 4) ⊎ IsCut p

-- ─── Places and widths ───

-- A part ends at a place, and the place lies in the packet.
abbrev pub EndsAt : Span → ℕ → Type 0
EndsAt s to = s.start + s.len ≡ to

-- Extension and body, or extension, header and content, adjoin and end where the packet does, inside the bytes.
abbrev pub Inside : List ℕ → Packet → Type 0
Inside p (Short n) = Unit
Inside p (Link kind extension) = EndsAt extension (said_length p) × (said_length p ≤ length p)
Inside p (Skipped kind extension body) =
    EndsAt extension body.start × EndsAt body (said_length p) × (said_length p ≤ length p)
Inside p (Message h extension content) =
    EndsAt extension (content.start - 16) × EndsAt content (said_length p) × (said_length p ≤ length p)
Inside p (Refused r) = Unit

-- Each value of a header fits the width that it has on the line.
pub record InWidth (h : Header) : Type 0 where
  pub tid : h.tid < 4294967296
  pub series : h.series < 65536
  pub number : h.number < 4294967296
  pub fields : h.fields < 65536

-- ─── Bytes still missing (02, No. 1) ───

-- Reading as it was before short told a number: the same tests in the same order, with one answer for short.
abbrev pub unnumbered : Packet → List ℕ → Packet
unnumbered short p =
    cond (head_missing p) short
    (cond (long_extension p) (Refused LongExtension)
    (cond (wrong_body (kind_of p) (body_length p)) (Refused BodyLength)
    (cond (rest_missing p) short
    (whole_of p))))

pub record ShortLaws : Type 0 where
  -- Short exactly where bytes are missing, with this number and no other.
  pub exactly : (p : List ℕ) → (read_of p ≡ Short (missing_of p)) ↔ IsShort p
  pub only : (p : List ℕ) (n : ℕ) → read_of p ≡ Short n → n ≡ missing_of p
  -- Four less those there while the first four are not all there; then up to the end that they say.
  pub head : (p : List ℕ) → length p < 4 → read_of p ≡ Short (4 - length p)
  pub rest : (p : List ℕ) (n : ℕ) → 4 ≤ length p → read_of p ≡ Short n → length p + n ≡ said_length p
  -- The number aside nothing moved: short where it was, and every other answer the old one.
  pub unmoved : (p : List ℕ) (short : Packet) → cond (is_short (read_of p)) short (read_of p) ≡ unnumbered short p
  -- At least 1; of bytes at most 65,662: the extension and the body of the longest skipped packet.
  pub least : (p : List ℕ) (n : ℕ) → read_of p ≡ Short n → 1 ≤ n
  pub most : (p : List ℕ) (n : ℕ) → Bytes p → read_of p ≡ Short n → n ≤ 65662
  -- So many are certainly missing: with fewer more, whatever they are, it is short again, by so many less.
  pub again : (p more : List ℕ) (n : ℕ) → read_of p ≡ Short n → length more < n
      → read_of (p ++ more) ≡ Short (n - length more)
  -- With the first four there, so many more are enough, whatever they are; exactly so many make it one packet.
  pub enough : (p more : List ℕ) (n : ℕ) → 4 ≤ length p → read_of p ≡ Short n → n ≤ length more
      → is_short (read_of (p ++ more)) ≡ false
  pub one : (p more : List ℕ) (n : ℕ) → 4 ≤ length p → read_of p ≡ Short n → length more ≡ n
      → not_one_packet (p ++ more) ≡ false
  -- So many more never reach beyond this packet's end, wherever the bytes that follow put it.
  pub within : (p more : List ℕ) (n : ℕ) → read_of p ≡ Short n → length p + n ≤ said_length (p ++ more)

-- ─── All of it ───

pub record ReadLaws : Type 0 where
  -- Each kind of packet is read exactly where the bytes are one, with these values and places and no others.
  pub message : (p : List ℕ) → (read_of p ≡ accepted_of p) ↔ IsMessage p
  pub message-only : (p : List ℕ) (h : Header) (e c : Span) → read_of p ≡ Message h e c → Message h e c ≡ accepted_of p
  pub link : (p : List ℕ) → (read_of p ≡ Link (kind_of p) (extension_span p)) ↔ IsLink p
  pub link-only : (p : List ℕ) (kind : ℕ) (e : Span) → read_of p ≡ Link kind e
      → Link kind e ≡ Link (kind_of p) (extension_span p)
  pub skipped : (p : List ℕ) → (read_of p ≡ Skipped (kind_of p) (extension_span p) (span (body_start p) (body_length p)))
      ↔ IsSkipped p
  pub skipped-only : (p : List ℕ) (kind : ℕ) (e b : Span) → read_of p ≡ Skipped kind e b
      → Skipped kind e b ≡ Skipped (kind_of p) (extension_span p) (span (body_start p) (body_length p))
  -- Short, and how many bytes are missing then.
  pub short : ShortLaws
  -- Packets and refusals stay what they are with anything behind them.
  pub stays : (p q : List ℕ) → is_short (read_of p) ≡ false → read_of (p ++ q) ≡ read_of p
  -- Each place lies inside the packet.
  pub inside : (p : List ℕ) → Inside p (read_of p)
  -- A value of the header fits its width.
  pub widths : (p : List ℕ) (h : Header) (e c : Span) → Bytes p → read_of p ≡ Message h e c → InWidth h
  -- The fields with their heads make up the content exactly, and there are as many as the header says.
  pub whole : (p : List ℕ) (h : Header) (e c : Span) → read_of p ≡ Message h e c
      → joined (message_fields p) ≡ part p c.start c.len
  pub count : (p : List ℕ) (h : Header) (e c : Span) → read_of p ≡ Message h e c → length (message_fields p) ≡ h.fields
  -- Field i is field i of these: its FID, and its bytes without FID and length; from their count on there is none.
  pub some : (p : List ℕ) (i : ℕ) → i < length (message_fields p) →
      (start : ℕ)
      × (field_of p i ≡ some_field (fid_of (get_or (message_fields p) i [])) start (length (get_or (message_fields p) i []) - 6))
      × (field_bytes p i ≡ bytes_of (get_or (message_fields p) i []))
  pub none : (p : List ℕ) (i : ℕ) → length (message_fields p) ≤ i → (field_of p i ≡ None) × (field_bytes p i ≡ [])
