-- What `ftd` answers, as the numbers that C and Rust get (include/ftd.h).
use Rattle.std.specs.Prelude.{ℕ, ◌-◌, List, [], ◌∷◌, Bool, true, false, cond, drop, eqb}
use Rattle.ftd.specs.Bytes.{be32_of}
use Rattle.ftd.specs.Runs.{front}
use Rattle.ftd.specs.Refusal.{number_of}
use Rattle.ftd.specs.Fields.{field}
use Rattle.ftd.specs.Packet.{chain_letter}
use Rattle.ftd.specs.Types.{TradeDate}
use Rattle.ftd.specs.Types.{PacketPlace}
use Rattle.ftd.specs.declared.packet.Span.{Span}
use Rattle.ftd.specs.declared.packet.Header.{Header}
use Rattle.ftd.specs.declared.packet.Packet.{Packet}
use Rattle.ftd.specs.declared.packet.Dated.{Dated}
use Rattle.ftd.specs.declared.packet.Packet.TheVariants.{Short, Link, Skipped, Message, Refused}
use Rattle.ftd.specs.declared.composition.Direction.{Direction}
use Rattle.ftd.specs.declared.composition.Direction.TheVariants.{Up, Down}
use Rattle.ftd.specs.Types.{Checked}
use Rattle.ftd.specs.declared.chain.Message.{Message as Outgoing}
use Rattle.ftd.specs.Types.{ChainSize}
use Rattle.ftd.specs.Types.{Written}
use Rattle.exports.specs.declared.FtdSpan.{FtdSpan}
use Rattle.exports.specs.declared.FtdPacket.{FtdPacket}
use Rattle.exports.specs.declared.FtdField.{FtdField}
use Rattle.exports.specs.declared.FtdStep.{FtdStep}
use Rattle.exports.specs.declared.FtdMessage.{FtdMessage}
use Rattle.exports.specs.declared.FtdSize.{FtdSize}
use Rattle.ftd.specs.declared.resume.Resume.{Resume}
use Rattle.ftd.specs.declared.resume.Resume.TheVariants.{Absent, Next, Misshapen, Several}
use Rattle.exports.specs.declared.tags.FtdDate.{FtdDate}
use Rattle.exports.specs.declared.resume.FtdResume.{FtdResume}
use Rattle.exports.specs.declared.written.FtdWritten.{FtdWritten}
use Rattle.std.specs.Prelude.{Some, None, Ok, Err, Result}
use Rattle.ftd.specs.declared.refusal.Refusal.{Refusal}
use Rattle.ftd.specs.Types.{MaybeField}
use Rattle.ftd.specs.declared.write.WriteError.TheVariants.{Refused, NotPlain}
use Rattle.ftd.specs.declared.write.WriteError.TheVariants.{NotPlain}

-- ─── An answer that has nothing to say but a refusal: 0, or its number; and one of how many bytes were written ───

abbrev pub refusal_of : {T : Type 0} → Result T Refusal → ℕ
refusal_of (Ok x) = 0
refusal_of (Err r) = number_of r

abbrev pub bytes_of : Result ℕ Refusal → FtdWritten
bytes_of (Ok n) = record { bytes = n; refusal = 0 }
bytes_of (Err r) = record { bytes = 0; refusal = number_of r }

-- ─── A Bool: 1 or 0 ───

abbrev pub flag : Bool → ℕ
flag false = 0
flag true = 1

-- ─── The trade date: 1 and its value, or 0 and 0 ───

abbrev pub dated_flag : TradeDate → ℕ
dated_flag None = 0
dated_flag (Some d) = 1

abbrev pub date_of : TradeDate → ℕ
date_of None = 0
date_of (Some d) = d

abbrev pub trade_date_numbers : TradeDate → FtdDate
trade_date_numbers d = record { date = date_of d; dated = dated_flag d }

-- The trade date that numbers say: none where the first is 0.
unfoldable pub date_for : ℕ → ℕ → TradeDate
date_for dated date = cond (eqb dated 0) None (Some date)

-- ─── A packet's place in its message: 1 and its value, or 0 and 0 ───

abbrev pub placed_flag : PacketPlace → ℕ
placed_flag None = 0
placed_flag (Some j) = 1

abbrev pub place_number : PacketPlace → ℕ
place_number None = 0
place_number (Some j) = j

-- ─── A part of lent bytes ───

abbrev pub span_numbers : Span → FtdSpan
span_numbers s = record { start = s.start; len = s.len }

abbrev pub no_span : FtdSpan
no_span = record { start = 0; len = 0 }

-- ─── Two lists as one, place by place ───

abbrev pub paired : {A B C : Type 0} → (A → B → C) → List A → List B → List C
paired f [] m = []
paired f (x ∷ l) [] = []
paired f (x ∷ l) (y ∷ m) = f x y ∷ paired f l m

-- ─── A packet: 0 short and how many bytes are missing, 1 link, 2 skipped, 3 message, 4 refused; the rest is 0 ───

unfoldable pub plain_numbers : ℕ → ℕ → ℕ → FtdPacket
plain_numbers answer missing refusal =
    record {
      size = 0;
      missing = missing;
      extension = no_span;
      content = no_span;
      tid = 0;
      number = 0;
      date = 0;
      series = 0;
      fields = 0;
      place = 0;
      answer = answer;
      refusal = refusal;
      kind = 0;
      chain = 0;
      dated = 0;
      placed = 0;
    }

unfoldable pub link_numbers : ℕ → ℕ → Span → TradeDate → PacketPlace → FtdPacket
link_numbers n kind e d j =
    record {
      size = n;
      missing = 0;
      extension = span_numbers e;
      content = no_span;
      tid = 0;
      number = 0;
      date = date_of d;
      series = 0;
      fields = 0;
      place = place_number j;
      answer = 1;
      refusal = 0;
      kind = kind;
      chain = 0;
      dated = dated_flag d;
      placed = placed_flag j;
    }

-- The extension of a skipped packet is not read, so it has neither trade date nor place.
unfoldable pub skipped_numbers : ℕ → ℕ → Span → Span → FtdPacket
skipped_numbers n kind e body =
    record {
      size = n;
      missing = 0;
      extension = span_numbers e;
      content = span_numbers body;
      tid = 0;
      number = 0;
      date = 0;
      series = 0;
      fields = 0;
      place = 0;
      answer = 2;
      refusal = 0;
      kind = kind;
      chain = 0;
      dated = 0;
      placed = 0;
    }

unfoldable pub message_numbers : ℕ → Header → Span → Span → TradeDate → PacketPlace → FtdPacket
message_numbers n h e content d j =
    record {
      size = n;
      missing = 0;
      extension = span_numbers e;
      content = span_numbers content;
      tid = h.tid;
      number = h.number;
      date = date_of d;
      series = h.series;
      fields = h.fields;
      place = place_number j;
      answer = 3;
      refusal = 0;
      kind = 1;
      chain = chain_letter h.chain;
      dated = dated_flag d;
      placed = placed_flag j;
    }

-- A link, skipped or message packet of n bytes.
abbrev pub packet_numbers : ℕ → Packet → TradeDate → PacketPlace → FtdPacket
packet_numbers n (Short k) d j = plain_numbers 0 k 0
packet_numbers n (Link kind e) d j = link_numbers n kind e d j
packet_numbers n (Skipped kind e body) d j = skipped_numbers n kind e body
packet_numbers n (Message h e content) d j = message_numbers n h e content d j
packet_numbers n (Refused r) d j = plain_numbers 4 0 (number_of r)

-- A packet with the trade date and the place that it bears.
abbrev pub dated_numbers : ℕ → Dated → FtdPacket
dated_numbers n x = packet_numbers n x.packet x.date x.place

-- ─── A field: 1, its FID and its place, or all 0 ───

abbrev pub field_numbers : MaybeField → FtdField
field_numbers None = record { start = 0; len = 0; fid = 0; found = 0 }
field_numbers (Some found1) = record { start = found1.start; len = found1.len; fid = found1.fid; found = 1 }

-- The field at a place of a content, if one stands there whole: 1, its FID and the length of its bytes, or all 0.
unfoldable pub step_of : List ℕ → ℕ → FtdStep
step_of content at =
    cond (eqb (front field (drop at content)) 0)
    (record { len = 0; fid = 0; found = 0 })
    (record { len = front field (drop at content) - 6; fid = be32_of content at; found = 1 })

-- ─── The content check: 0, or the number of the refusal ───

unfoldable pub direction_for : ℕ → Direction
direction_for d = cond (eqb d 0) Up Down

abbrev pub verdict_number : Checked → ℕ
verdict_number x = refusal_of x

-- ─── A message written: its packets bear no place, which the ends' Sends alone write (02, No. 10) ───

unfoldable pub message_for : FtdMessage → Outgoing
message_for m =
    record {
      date = date_for m.dated m.date;
      tid = m.tid;
      series = m.series;
      number = m.number;
      counted = false;
    }

abbrev pub size_numbers : ChainSize → FtdSize
size_numbers (Ok s) = record { packets = s.packets; bytes = s.bytes; refusal = 0 }
size_numbers (Err r) = record { packets = 0; bytes = 0; refusal = number_of r }

-- The last answer is another writer's and has no number in the table: 255.
abbrev pub written_numbers : Written → FtdWritten
written_numbers (Ok n) = record { bytes = n; refusal = 0 }
written_numbers (Err (Refused r)) = record { bytes = 0; refusal = number_of r }
written_numbers (Err NotPlain) = record { bytes = 0; refusal = 255 }

-- ─── The start field: 0 none, 1 and its values, 2 of another width, 3 more than one ───

abbrev pub resume_numbers : Resume → FtdResume
resume_numbers Absent = record { number = 0; series = 0; answer = 0 }
resume_numbers (Next series number) = record { number = number; series = series; answer = 1 }
resume_numbers Misshapen = record { number = 0; series = 0; answer = 2 }
resume_numbers Several = record { number = 0; series = 0; answer = 3 }
