-- What holds of writing (01, demand 2): writing the values that were read gives the same bytes again, what is written
-- is read back as what was meant, and a writer refuses what the reader would refuse of the result, with the same
-- number.
use Rattle.std.specs.Prelude.{ℕ, ◌+◌, ◌≡◌, List, [], ◌++◌, false, cond, length, take}
use Rattle.ftd.specs.Bytes.{Bytes, part}
use Rattle.ftd.specs.Tags.{trade_date_of, packet_place_of}
use Rattle.ftd.specs.Packet.{said_length, not_one_packet, no_message_packet, is_skipped, span, read_of, dated_of}
use Rattle.ftd.specs.Write.{packet_bytes, message_bytes, fine, refuse, plain_verdict, message_verdict}
use Rattle.ftd.specs.declared.refusal.Refusal.{Refusal}
use Rattle.ftd.specs.declared.packet.Span.{Span}
use Rattle.ftd.specs.declared.packet.Header.{Header}
use Rattle.ftd.specs.declared.packet.Packet.{Packet}
use Rattle.ftd.specs.declared.packet.Packet.TheVariants.{Link, Skipped, Message, Refused}

-- The part of a packet at a place.
abbrev pub at : List ℕ → Span → List ℕ
at p s = part p s.start s.len

-- What a link packet or a skipped one is read as.
abbrev pub plain_packet : ℕ → ℕ → ℕ → Packet
plain_packet kind ext body =
    cond (is_skipped kind body) (Skipped kind (span 4 ext) (span (4 + ext) body)) (Link kind (span 4 ext))

pub record WriteLaws : Type 0 where
  -- Reading what was written, with anything behind it, gives the values; their bytes lie where the places say.
  pub message-back : (h : Header) (extension content q : List ℕ) → message_verdict h extension content ≡ fine
      → read_of (message_bytes h extension content ++ q) ≡ Message h (span 4 (length extension))
      (span (4 + length extension + 16) (length content))
  pub message-places : (h : Header) (extension content q : List ℕ)
      → (part (message_bytes h extension content ++ q) 4 (length extension) ≡ extension)
      × (part (message_bytes h extension content ++ q) (4 + length extension + 16) (length content) ≡ content)
  -- The same with the trade date and the place, as one answer; and what was written is one packet, and a message packet.
  pub dated-back : (h : Header) (extension content q : List ℕ) → message_verdict h extension content ≡ fine
      → dated_of (message_bytes h extension content ++ q)
      ≡ record {
        packet = Message h (span 4 (length extension)) (span (4 + length extension + 16) (length content));
        date = trade_date_of extension;
        place = packet_place_of extension;
      }
  pub one-packet : (h : Header) (extension content : List ℕ) → message_verdict h extension content ≡ fine
      → (not_one_packet (message_bytes h extension content) ≡ false)
      × (no_message_packet (message_bytes h extension content) ≡ false)
  pub plain_back : (kind : ℕ) (extension body q : List ℕ) → plain_verdict kind extension body ≡ fine
      → read_of (packet_bytes kind extension body ++ q) ≡ plain_packet kind (length extension) (length body)
  pub plain-places : (kind : ℕ) (extension body q : List ℕ)
      → (part (packet_bytes kind extension body ++ q) 4 (length extension) ≡ extension)
      × (part (packet_bytes kind extension body ++ q) (4 + length extension) (length body) ≡ body)
  -- A refusal is the one that the reader gives for the result.
  pub message-refused : (h : Header) (extension content : List ℕ) (r : Refusal)
      → message_verdict h extension content ≡ refuse r
      → read_of (message_bytes h extension content) ≡ Refused r
  pub plain-refused : (kind : ℕ) (extension body : List ℕ) (r : Refusal) → plain_verdict kind extension body ≡ refuse r
      → read_of (packet_bytes kind extension body) ≡ Refused r
  -- Writing the values that were read gives the same bytes again, and is not refused.
  pub message-again : (p : List ℕ) (h : Header) (e c : Span) → Bytes p → read_of p ≡ Message h e c
      → (message_verdict h (at p e) (at p c) ≡ fine) × (message_bytes h (at p e) (at p c) ≡ take (said_length p) p)
  pub link-again : (p : List ℕ) (kind : ℕ) (e : Span) → Bytes p → read_of p ≡ Link kind e
      → (plain_verdict kind (at p e) [] ≡ fine) × (packet_bytes kind (at p e) [] ≡ take (said_length p) p)
  pub skipped-again : (p : List ℕ) (kind : ℕ) (e b : Span) → Bytes p → read_of p ≡ Skipped kind e b
      → (plain_verdict kind (at p e) (at p b) ≡ fine) × (packet_bytes kind (at p e) (at p b) ≡ take (said_length p) p)
