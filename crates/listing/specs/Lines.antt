-- The listing of a capture: a line for each packet, and a last line (01, Lister).
use Rattle.std.specs.Prelude.{ℕ, zero, suc, ◌+◌, List, [], ◌∷◌, ◌++◌, Bool, true, false, cond, not, ◌&&◌, ◌||◌, length, drop, ltb, leb, eqb}
use Rattle.ftd.specs.Bytes.{part}
use Rattle.ftd.specs.Tags.{keep_alive_of}
use Rattle.ftd.specs.Refusal.{number_of}
use Rattle.ftd.specs.Packet.{said_in, chain_letter, read_of}
use Rattle.ftd.specs.declared.packet.Packet.{Packet}
use Rattle.ftd.specs.declared.packet.Packet.TheVariants.{Short, Link, Skipped, Message, Refused}
use Rattle.listing.specs.declared.Line.{Line}
use Rattle.listing.specs.declared.Line.TheVariants.{TooSmall, Last, More}
use Rattle.listing.specs.Text.{decimal_of, hex8_of, tabbed, tab, newline, heart, link, skip, msg, end, short}
use Rattle.listing.specs.Text.{refused, long}

-- ─── A line ───

-- A link packet of type 0x00 with tag 0x04 in its extension (01, Lister: `heart`).
unfoldable pub is_heart : List ℕ → ℕ → ℕ → ℕ → Bool
is_heart p kind start len = eqb kind 0 && keep_alive_of (part p start len)

unfoldable pub link_text : List ℕ → ℕ → ℕ → ℕ → List ℕ
link_text p kind start len = cond (is_heart p kind start len) heart link

-- `msg`, TID and chain letter, then series, number and field count (01, Lister).
unfoldable pub start_text : ℕ → ℕ → List ℕ
start_text tid letter = msg ++ tab ++ hex8_of tid ++ tab ++ (letter ∷ [])

unfoldable pub message_text : ℕ → ℕ → ℕ → ℕ → ℕ → List ℕ
message_text tid letter series number fields = start_text tid letter ++ tabbed series ++ tabbed number ++ tabbed fields

-- `refused` and the number (01, Lister).
unfoldable pub refused_text : ℕ → List ℕ
refused_text n = refused ++ tabbed n

-- What stands behind the offset, for what was read of the bytes p.
abbrev pub packet_text : List ℕ → Packet → List ℕ
packet_text p (Short n) = short
packet_text p (Link kind extension) = link_text p kind extension.start extension.len
packet_text p (Skipped kind extension body) = skip
packet_text p (Message h extension content) =
    message_text h.tid (chain_letter h.chain) h.series h.number h.fields
packet_text p (Refused r) = refused_text (number_of r)

-- A line: offset, tab, the other fields, newline.
unfoldable pub line_with : ℕ → List ℕ → List ℕ
line_with at text = decimal_of at ++ tab ++ text ++ newline

-- The line at a place of a capture; `more` says that the input goes on behind it (01, Lister: `long`).
unfoldable pub line_of : List ℕ → Bool → ℕ → List ℕ
line_of capture more at =
    cond more (line_with 0 long)
    (cond (leb (length capture) at) (line_with at end)
    (line_with at (packet_text (drop at capture) (read_of (drop at capture)))))

-- ─── The next line ───

-- Another line follows the line of a packet that is there whole.
abbrev pub goes_on : Packet → Bool
goes_on (Short n) = false
goes_on (Link kind extension) = true
goes_on (Skipped kind extension body) = true
goes_on (Message h extension content) = true
goes_on (Refused r) = false

-- `long`, `end`, `short` and `refused` are last lines.
unfoldable pub is_last : List ℕ → Bool → ℕ → Bool
is_last capture more at = more || (leb (length capture) at || not (goes_on (read_of (drop at capture))))

-- The place behind the packet at a place.
unfoldable pub next_of : List ℕ → ℕ → ℕ
next_of capture at = at + said_in (drop at capture)

-- ─── The listing ───

-- The lines from a place on, at most `fuel` and one.
unfoldable pub lines_in : ℕ → List ℕ → Bool → ℕ → List ℕ
lines_in zero capture more at = line_of capture more at
lines_in (suc fuel) capture more at =
    let others =
    lines_in fuel capture more (next_of capture at) in line_of capture more at ++ cond (is_last capture more at) [] others

-- The lines from a place on: a packet has a byte at least, so there are no more of them than bytes.
unfoldable pub listing_from : List ℕ → Bool → ℕ → List ℕ
listing_from capture more at = lines_in (length capture) capture more at

-- All lines (01, Lister).
abbrev pub listing_of : List ℕ → Bool → List ℕ
listing_of capture more = listing_from capture more 0

-- ─── What `write_line` answers, and what it leaves in the buffer ───

-- Fewer than 64 bytes are too few; else the length of the line and the next place.
unfoldable pub answer_of : List ℕ → Bool → ℕ → List ℕ → Line
answer_of capture more at out =
    cond (ltb (length out) 64) TooSmall
    (cond (is_last capture more at) (Last (length (line_of capture more at)))
    (More (length (line_of capture more at)) (next_of capture at)))

-- The line, and behind it the bytes that were there.
unfoldable pub out_of : List ℕ → Bool → ℕ → List ℕ → List ℕ
out_of capture more at out =
    cond (ltb (length out) 64) out (line_of capture more at ++ drop (length (line_of capture more at)) out)
