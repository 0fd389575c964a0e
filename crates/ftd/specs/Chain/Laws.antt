-- What holds of the packets of a message (01, "Message packet", demand 2): nothing is lost, no field is split, each
-- packet is read back as what was meant, and the packets are found again in what was written by their first four bytes.
use Rattle.std.specs.Prelude.{ℕ, ◌+◌, ◌*◌, ◌≤◌, ◌<◌, ◌≡◌, List, [], ◌∷◌, ◌++◌, map, true, false, cond, length, get_or, eqb}
use Rattle.ftd.specs.Bytes.{part, joined}
use Rattle.ftd.specs.Runs.{Form, run_of}
use Rattle.ftd.specs.Tags.{tag, good_tags, trade_date_of, packet_place_of, Tag, tag_bytes, tags_for, extension_bytes}
use Rattle.ftd.specs.Fields.{fields_of, exact_run, shaped, most_content, packet_content}
use Rattle.ftd.specs.Packet.{extension_length, body_length, not_one_packet, no_message_packet, span, read_of, dated_of}
use Rattle.ftd.specs.Chain.{Piece, no_fields, pieces_of, chain_at, header_for, packets_of, overhead_of, overhead}
use Rattle.ftd.specs.Chain.{most_packets, tags_at}
use Rattle.ftd.specs.Types.{TradeDate}
use Rattle.ftd.specs.Types.{PacketPlace}
use Rattle.ftd.specs.declared.chain.Message.{Message}
use Rattle.ftd.specs.declared.packet.Chain.{Chain}
use Rattle.ftd.specs.declared.packet.Packet.TheVariants.{Message as Accepted}
use Rattle.std.specs.Prelude.{Some, None}

-- Bytes cut by the packets' first four bytes.
unfoldable pub packet_form : Form
packet_form = record { head = 4; follow = λ l. extension_length l + body_length l }

-- Piece i of a content, and packet i of a message.
abbrev pub piece_at_place : List ℕ → ℕ → Piece
piece_at_place content i = get_or (pieces_of content) i no_fields

abbrev pub packet_at_place : Message → List ℕ → ℕ → List ℕ
packet_at_place m content i = get_or (packets_of m content) i []

-- The letters by place: S alone, or F, C .., L.
abbrev pub letter_at : Message → List ℕ → ℕ → Chain
letter_at m content i = chain_at (eqb i 0) (eqb (i + 1) (length (packets_of m content)))

-- The place that packet i bears.
abbrev pub place_for : Message → ℕ → PacketPlace
place_for m i = cond m.counted (Some i) None

pub record ChainLaws : Type 0 where
  -- An extension made of tags is a run of just these tags.
  pub tags-back : (ts : List Tag) → run_of tag (extension_bytes ts) ≡ record { entries = map tag_bytes ts; rest = [] }
  -- The tags that an end writes pass the check of tags, and have the trade date and no place;
  pub tags-good : (d : TradeDate) → good_tags (extension_bytes (tags_for d)) ≡ true
  pub tags-date : (d : TradeDate) → trade_date_of (extension_bytes (tags_for d)) ≡ d
  pub tags-unplaced : (d : TradeDate) → packet_place_of (extension_bytes (tags_for d)) ≡ None
  -- those of packet j have its place too where the packets are counted, and take as many bytes at every place.
  pub at-good : (m : Message) (j : ℕ) → good_tags (extension_bytes (tags_at m j)) ≡ true
  pub at-date : (m : Message) (j : ℕ) → trade_date_of (extension_bytes (tags_at m j)) ≡ m.date
  pub at_place : (m : Message) (j : ℕ) → packet_place_of (extension_bytes (tags_at m j)) ≡ place_for m j
  pub at_long : (m : Message) (j : ℕ) → length (extension_bytes (tags_at m j)) ≡ length (extension_bytes (tags_at m 0))
  -- Content that has shape is as many whole fields as it has fields; what one packet holds is one piece.
  pub exact : (content : List ℕ) (limit : ℕ) → shaped content limit ≡ true
      → exact_run content (length (fields_of content)) ≡ true
  pub single : (content : List ℕ) → shaped content packet_content ≡ true
      → pieces_of content ≡ record { count = length (fields_of content); bytes = content } ∷ []
  -- The pieces' bytes joined are the content.
  pub pieces-joined : (content : List ℕ) (limit : ℕ) → shaped content limit ≡ true
      → joined (map (λ (p : Piece). p.bytes) (pieces_of content)) ≡ content
  -- Each piece is so many whole fields, of at most 4,080 bytes together.
  pub piece-whole : (content : List ℕ) (limit i : ℕ) → shaped content limit ≡ true → i < length (pieces_of content)
      → (length (piece_at_place content i).bytes ≤ packet_content)
      × (exact_run (piece_at_place content i).bytes (piece_at_place content i).count ≡ true)
  -- There are as many packets as pieces, one at least.
  pub as_many : (m : Message) (content : List ℕ)
      → (length (packets_of m content) ≡ length (pieces_of content)) × (0 < length (packets_of m content))
  -- Two neighbours have more than 4,080 bytes together, so that a message has at most 17.
  pub few : (content : List ℕ) → length content ≤ most_content → length (pieces_of content) ≤ most_packets
  -- A packet takes its piece and so many bytes around it, a message its content and as many around each packet; without a
  -- trade date, or not counted, no more than otherwise.
  pub packet-takes : (m : Message) (content : List ℕ) (i : ℕ) → i < length (packets_of m content)
      → length (packet_at_place m content i) ≡ overhead_of m + length (piece_at_place content i).bytes
  pub takes : (m : Message) (content : List ℕ) (limit : ℕ) → shaped content limit ≡ true
      → length (joined (packets_of m content)) ≡ length content + length (packets_of m content) * overhead_of m
  pub around : (m : Message) → overhead_of m ≤ overhead
  -- Each packet, with anything behind it, is read back: TID, series and number of the message, the letter of its place,
  -- its piece, the trade date and, where the packets are counted, its place.
  pub read_back : (m : Message) (content : List ℕ) (limit i : ℕ) (q : List ℕ) → shaped content limit ≡ true
      → i < length (packets_of m content)
      → read_of (packet_at_place m content i ++ q)
      ≡ Accepted (header_for m (letter_at m content i) (piece_at_place content i).count)
      (span 4 (length (extension_bytes (tags_at m i))))
      (span (4 + length (extension_bytes (tags_at m i)) + 16) (length (piece_at_place content i).bytes))
  pub trade-date-back : (m : Message) (content : List ℕ) (i : ℕ) (q : List ℕ) → i < length (packets_of m content)
      → trade_date_of (part (packet_at_place m content i ++ q) 4 (length (extension_bytes (tags_at m i)))) ≡ m.date
  pub place-back : (m : Message) (content : List ℕ) (i : ℕ) (q : List ℕ) → i < length (packets_of m content)
      → packet_place_of (part (packet_at_place m content i ++ q) 4 (length (extension_bytes (tags_at m i)))) ≡ place_for m i
  pub piece_back : (m : Message) (content : List ℕ) (i : ℕ) (q : List ℕ) → i < length (packets_of m content)
      → part (packet_at_place m content i ++ q) (4 + length (extension_bytes (tags_at m i)) + 16)
      (length (piece_at_place content i).bytes) ≡ (piece_at_place content i).bytes
  -- The same with the trade date and the place, as one answer; and each is one packet, and a message packet.
  pub dated-back : (m : Message) (content : List ℕ) (limit i : ℕ) (q : List ℕ) → shaped content limit ≡ true
      → i < length (packets_of m content)
      → dated_of (packet_at_place m content i ++ q)
      ≡ record {
        packet =
            Accepted (header_for m (letter_at m content i) (piece_at_place content i).count)
            (span 4 (length (extension_bytes (tags_at m i))))
            (span (4 + length (extension_bytes (tags_at m i)) + 16) (length (piece_at_place content i).bytes));
        date = m.date;
        place = place_for m i;
      }
  pub one-packet : (m : Message) (content : List ℕ) (limit i : ℕ) → shaped content limit ≡ true
      → i < length (packets_of m content)
      → (not_one_packet (packet_at_place m content i) ≡ false) × (no_message_packet (packet_at_place m content i) ≡ false)
  -- What a whole message is written as, cut by the packets' first four bytes, is its packets.
  pub cut-back : (m : Message) (content : List ℕ)
      → run_of packet_form (joined (packets_of m content)) ≡ record { entries = packets_of m content; rest = [] }
