-- A message cut into packets (4.2.1.2; 01, "Message packet"): whole fields, as many as 4,080 content bytes hold, in
-- order.
pub mod Helpers
pub mod Laws
use Rattle.std.specs.Prelude.{ℕ, suc, ◌+◌, ◌-◌, ◌*◌, List, [], ◌∷◌, ◌++◌, Bool, true, false, cond, length, get_or, drop, ltb, leb, eqb}
use Rattle.ftd.specs.Bytes.{joined}
use Rattle.ftd.specs.Fields.{fields_of, shaped, most_content, packet_content}
use Rattle.ftd.specs.Write.{message_bytes, Verdict, fine, refuse}
use Rattle.ftd.specs.Tags.{Tag, extension_bytes, tags_for, place_tag}
use Rattle.ftd.specs.declared.refusal.Refusal.TheVariants.{FieldRun, TooSmall}
use Rattle.ftd.specs.declared.packet.Chain.{Chain}
use Rattle.ftd.specs.declared.packet.Chain.TheVariants.{Single, First, Middle, Last}
use Rattle.ftd.specs.declared.packet.Header.{Header}
use Rattle.ftd.specs.declared.chain.Message.{Message}
use Rattle.ftd.specs.Types.{ChainSize}
use Rattle.std.specs.Prelude.{Some, None, Ok, Err}
use Rattle.ftd.specs.Types.{PacketAnswer, some_packet}

-- ─── The cut ───

-- A piece of a content: whole fields, and how many.
pub record Piece : Type 0 where
  pub count : ℕ
  pub bytes : List ℕ

abbrev pub no_fields : Piece
no_fields = record { count = 0; bytes = [] }

abbrev pub with_field : Piece → List ℕ → Piece
with_field p f = record { count = p.count + 1; bytes = p.bytes ++ f }

-- The piece that is begun takes the next field if 4,080 bytes hold it; otherwise the next piece begins with it.
abbrev pub pack : Piece → List (List ℕ) → List Piece
pack p [] = p ∷ []
pack p (f ∷ fs) =
    let more = pack (with_field p f) fs in
    let next = p ∷ pack (with_field no_fields f) fs in
    cond (leb (length p.bytes + length f) packet_content) more next

-- The pieces of a content; of one with no field, one with none.
unfoldable pub pieces_of : List ℕ → List Piece
pieces_of content = pack no_fields (fields_of content)

-- ─── The packets of a message ───

-- One packet is S; of several the first is F, the last L, the others C.
abbrev pub chain_at : Bool → Bool → Chain
chain_at true true = Single
chain_at true false = First
chain_at false true = Last
chain_at false false = Middle

-- All packets of a message bear its TID, series and number.
unfoldable pub header_for : Message → Chain → ℕ → Header
header_for m c count = record { tid = m.tid; chain = c; series = m.series; number = m.number; fields = count }

-- The tags of packet j: the trade date, if any, and behind it, where the packets are counted, its place.
abbrev pub tags_at : Message → ℕ → List Tag
tags_at m j = tags_for m.date ++ cond m.counted (place_tag j ∷ []) []

unfoldable pub packet_for : Message → ℕ → Chain → Piece → List ℕ
packet_for m j c p = message_bytes (header_for m c p.count) (extension_bytes (tags_at m j)) p.bytes

abbrev pub is_nil : List Piece → Bool
is_nil [] = true
is_nil (p ∷ ps) = false

-- From place j on.
abbrev pub framed : Message → ℕ → List Piece → List (List ℕ)
framed m j [] = []
framed m j (p ∷ ps) = packet_for m j (chain_at (eqb j 0) (is_nil ps)) p ∷ framed m (suc j) ps

-- The packets of a message, by place.
unfoldable pub packets_of : Message → List ℕ → List (List ℕ)
packets_of m content = framed m 0 (pieces_of content)

-- ─── What the writers refuse ───

-- A message has at most 32,768 content bytes.
unfoldable pub chain_verdict : List ℕ → Verdict
chain_verdict content = cond (shaped content most_content) fine (refuse FieldRun)

-- ─── One packet of a message, by its place ───

-- The message has one at that place; 18 counts that packet alone. Whether it is the last.
unfoldable pub packet_answer : Message → List ℕ → ℕ → List ℕ → PacketAnswer
packet_answer m content i out =
    let packets = packets_of m content in
    let size = length (get_or packets i []) in
    cond (shaped content most_content)
    (cond (ltb i (length packets))
    (cond (ltb (length out) size) (Err TooSmall) (some_packet size (eqb (i + 1) (length packets))))
    (Ok None))
    (Err FieldRun)

-- Written, the packet stands at the output's start, and what was behind it stays; otherwise the output is as it was.
abbrev pub output_left : PacketAnswer → List ℕ → List ℕ → List ℕ
output_left (Ok (Some found)) packet out = packet ++ drop found.len out
output_left (Ok None) packet out = out
output_left (Err r) packet out = out

unfoldable pub packet_output : Message → List ℕ → ℕ → List ℕ → List ℕ
packet_output m content i out = output_left (packet_answer m content i out) (get_or (packets_of m content) i []) out

-- ─── What a message takes ───

-- How many packets, and how many bytes in all.
unfoldable pub size_answer : Message → List ℕ → ChainSize
size_answer m content =
    cond (shaped content most_content)
    (Ok (record { packets = length (packets_of m content); bytes = length (joined (packets_of m content)) }))
    (Err FieldRun)

-- ─── The most that a message takes (02, No. 5) ───

-- A packet's bytes besides its content: the first four, the tags that an end writes, the message's header. Every place
-- takes as many.
unfoldable pub overhead_of : Message → ℕ
overhead_of m = 4 + length (extension_bytes (tags_at m 0)) + 16

-- With a trade date, and counted; every trade date takes as many.
unfoldable pub overhead : ℕ
overhead = overhead_of (record { date = Some 0; tid = 0; series = 0; number = 0; counted = true })

-- Packets of a message (`ChainLaws.few`); bytes of one of them, and of all.
abbrev pub most_packets : ℕ
most_packets = 17

abbrev pub most_packet : ℕ
most_packet = overhead + packet_content

abbrev pub most_output : ℕ
most_output = most_content + most_packets * overhead
