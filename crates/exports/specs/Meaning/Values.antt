-- The answers that are no state's: packets, fields and items read, checks, sizes and writers, the start field, trade
-- dates and modes, the calendar, the book, fields and texts of frames. What their numbers mean (include/ftd.h), and
-- that the numbers of each answer mean that answer. (A frame read: `FrameNumberLaws`; the order of two ends:
-- `OrderNumberLaws`.)
use Rattle.std.specs.Prelude.{ℕ, ◌+◌, ◌-◌, ◌<◌, ◌≤◌, ◌≡◌, List, Bool, true, false, cond, length, eqb}
use Rattle.ftd.specs.Bytes.{be16_of, be32_of}
use Rattle.ftd.specs.Packet.{dated_of}
use Rattle.ftd.specs.Types.{TradeDate}
use Rattle.ftd.specs.Types.{PacketPlace}
use Rattle.ftd.specs.declared.packet.Chain.{Chain}
use Rattle.ftd.specs.declared.packet.Chain.TheVariants.{Single, First, Middle, Last}
use Rattle.ftd.specs.declared.packet.Header.{Header}
use Rattle.ftd.specs.declared.packet.Packet.{Packet}
use Rattle.ftd.specs.declared.packet.Packet.TheVariants.{Short, Link, Skipped, Message}
use Rattle.ftd.specs.declared.packet.Packet.TheVariants.{Refused as WrongPacket}
use Rattle.ftd.specs.declared.packet.Dated.{Dated}
use Rattle.ftd.specs.declared.composition.Direction.TheVariants.{Up, Down}
use Rattle.ftd.specs.Types.{Checked}
use Rattle.ftd.specs.Types.{ChainSize}
use Rattle.ftd.specs.Types.{Written}
use Rattle.ftd.specs.declared.resume.Resume.{Resume}
use Rattle.ftd.specs.declared.resume.Resume.TheVariants.{Absent, Next, Misshapen, Several}
use Rattle.ftd.specs.declared.item.FieldItem.{FieldItem}
use Rattle.ftd.specs.declared.item.FieldItem.TheVariants.{NoItem, NoValue, Char, Word, Int, Text, Number, Float, Date}
use Rattle.ftd.specs.declared.dates.Date.TheVariants.{NoDate, Unused, Day}
use Rattle.ftd.specs.declared.mode.Mode.{Mode}
use Rattle.ftd.specs.declared.mode.Mode.TheVariants.{Private, Broadcast, Management, Dialog, Unknown}
use Rattle.calendar.specs.Types.{SetAnswer}
use Rattle.calendar.specs.declared.trading.SetStep.{SetStep}
use Rattle.calendar.specs.Types.{TradeTime}
use Rattle.book.specs.Types.{Outcome}
use Rattle.book.specs.declared.calls.Step.{Step}
use Rattle.book.specs.Types.{Mean}
use Rattle.fix.specs.Types.{Number as TextNumber}
use Rattle.exports.specs.declared.FtdPacket.{FtdPacket}
use Rattle.exports.specs.declared.FtdField.{FtdField}
use Rattle.exports.specs.declared.FtdMessage.{FtdMessage}
use Rattle.exports.specs.declared.FtdSize.{FtdSize}
use Rattle.exports.specs.declared.tags.FtdDate.{FtdDate}
use Rattle.exports.specs.declared.resume.FtdResume.{FtdResume}
use Rattle.exports.specs.declared.written.FtdWritten.{FtdWritten}
use Rattle.exports.specs.declared.items.FtdItem.{FtdItem}
use Rattle.exports.specs.declared.trading.FtdTradeTime.{FtdTradeTime}
use Rattle.exports.specs.declared.quotes.FtdListed.{FtdListed}
use Rattle.exports.specs.declared.quotes.FtdMean.{FtdMean}
use Rattle.exports.specs.declared.frames.FtdTagged.{FtdTagged}
use Rattle.exports.specs.declared.frames.FtdNumber.{FtdNumber}
use Rattle.exports.specs.Numbers.{flag, trade_date_numbers, dated_numbers, field_numbers, step_of, direction_for}
use Rattle.exports.specs.Numbers.{verdict_number, message_for, size_numbers, written_numbers, resume_numbers}
use Rattle.exports.specs.Items.{item_numbers, item_for, mode_number}
use Rattle.exports.specs.Trading.{trade_time_numbers}
use Rattle.exports.specs.Trading.{step_numbers as set_numbers}
use Rattle.exports.specs.Quotes.{level_numbers, mean_numbers}
use Rattle.exports.specs.Quotes.{step_numbers as book_step_numbers}
use Rattle.exports.specs.Frames.{front_numbers, text_numbers}
use Rattle.exports.specs.Meaning.{row_for, or_refused, bool_for, span_for}
use Rattle.std.specs.Prelude.{Some, None, Ok, Err}
use Rattle.ftd.specs.Types.{MaybeField, some_field}
use Rattle.book.specs.Types.{MaybeLevel, some_level}
use Rattle.fix.specs.Types.{MaybeFront, some_front}
use Rattle.ftd.specs.declared.write.WriteError.TheVariants.{Refused, NotPlain}
use Rattle.ftd.specs.declared.refusal.Refusal.{Refusal}
use Rattle.ftd.specs.declared.write.WriteError.TheVariants.{NotPlain}

-- ─── Packets ───

-- dated, date; placed, place.
abbrev pub trade_date_for : ℕ → ℕ → TradeDate
trade_date_for dated date = cond (eqb dated 1) (Some date) None

abbrev pub packet_place_for : ℕ → ℕ → PacketPlace
packet_place_for placed place = cond (eqb placed 1) (Some place) None

-- The letter 'S', 'F', 'C' or 'L'.
unfoldable pub chain_for : ℕ → Chain
chain_for n = cond (eqb n 83) Single (cond (eqb n 70) First (cond (eqb n 67) Middle Last))

abbrev pub header_for : FtdPacket → Header
header_for n =
    record {
      tid = n.tid;
      chain = chain_for n.chain;
      series = n.series;
      number = n.number;
      fields = n.fields;
    }

-- enum ftd_answer.
unfoldable pub packet_for : FtdPacket → Packet
packet_for n =
    cond (eqb n.answer 0) (Short n.missing)
    (cond (eqb n.answer 1) (Link n.kind (span_for n.extension))
    (cond (eqb n.answer 2) (Skipped n.kind (span_for n.extension) (span_for n.content))
    (cond (eqb n.answer 3) (Message (header_for n) (span_for n.extension) (span_for n.content))
    (WrongPacket (row_for n.refusal)))))

abbrev pub dated_by : FtdPacket → Dated
dated_by n =
    record {
      packet = packet_for n;
      date = trade_date_for n.dated n.date;
      place = packet_place_for n.placed n.place;
    }

-- A packet that is there whole: a link packet, a skipped one or a message packet.
abbrev pub is_there : Packet → Bool
is_there (Short n) = false
is_there (Link kind extension) = true
is_there (Skipped kind extension body) = true
is_there (Message h extension content) = true
is_there (WrongPacket r) = false

abbrev pub date_by : FtdDate → TradeDate
date_by n = trade_date_for n.dated n.date

-- ─── Fields, checks, writers ───

abbrev pub field_by : FtdField → MaybeField
field_by n = cond (eqb n.found 0) None (some_field n.fid n.start n.len)

abbrev pub checked_for : ℕ → Checked
checked_for n = or_refused n Err (Ok tt)

abbrev pub size_by : FtdSize → ChainSize
size_by n = or_refused n.refusal Err (Ok (record { packets = n.packets; bytes = n.bytes }))

-- FTD_NOT_PLAIN is not in the table.
abbrev pub written_by : FtdWritten → Written
written_by n = cond (eqb n.refusal 255) (Err NotPlain) (or_refused n.refusal (λ (r : Refusal). Err (Refused r)) (Ok n.bytes))

-- enum ftd_start.
unfoldable pub resume_by : FtdResume → Resume
resume_by n =
    cond (eqb n.answer 0) Absent
    (cond (eqb n.answer 1) (Next n.series n.number)
    (cond (eqb n.answer 2) Misshapen
    Several))

-- ─── Items and modes ───

-- enum ftd_kind.
unfoldable pub item_by : FtdItem → FieldItem
item_by n =
    cond (eqb n.kind 0) NoItem
    (cond (eqb n.kind 1) NoValue
    (cond (eqb n.kind 2) (Char n.value)
    (cond (eqb n.kind 3) (Word n.value)
    (cond (eqb n.kind 4) (Int n.value)
    (cond (eqb n.kind 5) (Text n.start n.len)
    (cond (eqb n.kind 6) (Number (bool_for n.negative) n.value)
    (cond (eqb n.kind 7) (Float (bool_for n.negative) n.value)
    (cond (eqb n.kind 8) (Date (Day n.year n.month n.day))
    (Date Unused)))))))))

-- A Date that is no date has no value.
abbrev pub value_of : FieldItem → FieldItem
value_of NoItem = NoItem
value_of NoValue = NoValue
value_of (Char x) = Char x
value_of (Word x) = Word x
value_of (Int x) = Int x
value_of (Text start len) = Text start len
value_of (Number minus units) = Number minus units
value_of (Float minus units) = Float minus units
value_of (Date NoDate) = NoValue
value_of (Date Unused) = Date Unused
value_of (Date (Day y m d)) = Date (Day y m d)

-- A value that its type can have: Char, Word and Int by their bytes.
abbrev pub Fits : FieldItem → Type 0
Fits NoItem = Unit
Fits NoValue = Unit
Fits (Char x) = x < 256
Fits (Word x) = x < 65536
Fits (Int x) = x < 4294967296
Fits (Text start len) = Unit
Fits (Number minus units) = Unit
Fits (Float minus units) = Unit
Fits (Date d) = Unit

-- enum ftd_mode.
unfoldable pub mode_for : ℕ → Mode
mode_for n =
    cond (eqb n 0) Unknown
    (cond (eqb n 1) Private
    (cond (eqb n 2) Broadcast
    (cond (eqb n 3) Management
    Dialog)))

-- ─── Calendar, book, frames ───

abbrev pub set_for : ℕ → SetAnswer
set_for refusal = or_refused refusal Err (Ok tt)

abbrev pub trade_time_by : FtdTradeTime → TradeTime
trade_time_by n = cond (eqb n.inside 0) None (Some n.date)

abbrev pub booked_for : ℕ → Outcome
booked_for refusal = or_refused refusal Err (Ok tt)

abbrev pub level_by : FtdListed → MaybeLevel
level_by n = cond (eqb n.found 0) None (some_level n.price n.quantity)

abbrev pub mean_by : FtdMean → Mean
mean_by n = cond (eqb n.found 0) None (Some n.price)

abbrev pub front_by : FtdTagged → MaybeFront
front_by n = cond (eqb n.found 0) None (some_front n.tag n.start n.len)

abbrev pub text_number_by : FtdNumber → TextNumber
text_number_by n = cond (eqb n.found 0) None (Some n.number)

-- ─── The statement ───

pub record ValueLaws : Type 0 where
  -- A packet that was read, with its trade date and place; `size` is the length of one that is there whole.
  pub read : (n : ℕ) (p : List ℕ) → dated_by (dated_numbers n (dated_of p)) ≡ dated_of p
  pub size : (n : ℕ) (x : Dated) → is_there x.packet ≡ true → (dated_numbers n x).size ≡ n
  pub trade-date : (d : TradeDate) → date_by (trade_date_numbers d) ≡ d
  pub keep-alive : (b : Bool) → bool_for (flag b) ≡ b
  -- Fields, the content check, a message's size and every writer.
  pub field : (x : MaybeField) → field_by (field_numbers x) ≡ x
  -- (At a place that the caller knows: FID, length and that many bytes, or not all of them.)
  pub step : (content : List ℕ) (at : ℕ) → 6 + be16_of content (at + 4) ≤ length content - at
      → step_of content at ≡ record { len = be16_of content (at + 4); fid = be32_of content at; found = 1 }
  pub no_step : (content : List ℕ) (at : ℕ) → length content - at < 6 + be16_of content (at + 4)
      → step_of content at ≡ record { len = 0; fid = 0; found = 0 }
  pub up : direction_for 0 ≡ Up
  pub down : direction_for 1 ≡ Down
  pub checked : (x : Checked) → checked_for (verdict_number x) ≡ x
  pub sizes : (x : ChainSize) → size_by (size_numbers x) ≡ x
  pub written : (x : Written) → written_by (written_numbers x) ≡ x
  pub start : (x : Resume) → resume_by (resume_numbers x) ≡ x
  -- A message that is given: what its packets bear.
  pub given-date : (m : FtdMessage) → (message_for m).date ≡ cond (eqb m.dated 0) None (Some m.date)
  pub given-tid : (m : FtdMessage) → (message_for m).tid ≡ m.tid
  pub given-series : (m : FtdMessage) → (message_for m).series ≡ m.series
  pub given-number : (m : FtdMessage) → (message_for m).number ≡ m.number
  pub given-no-place : (m : FtdMessage) → (message_for m).counted ≡ false
  -- An item that was read; and written from the numbers that were read it is the same value.
  pub item : (x : FieldItem) → item_by (item_numbers x) ≡ value_of x
  pub item-given : (x : FieldItem) → Fits x → item_for (item_numbers x) ≡ value_of x
  pub mode : (x : Mode) → mode_for (mode_number x) ≡ x
  -- The calendar, the book, fields and texts of frames.
  pub set : (x : SetStep) → set_for (set_numbers x).refusal ≡ x.answer
  pub time : (x : TradeTime) → trade_time_by (trade_time_numbers x) ≡ x
  pub booked : (x : Step) → booked_for (book_step_numbers x).refusal ≡ x.answer
  pub level : (x : MaybeLevel) → level_by (level_numbers x) ≡ x
  pub mean : (x : Mean) → mean_by (mean_numbers x) ≡ x
  pub front : (x : MaybeFront) → front_by (front_numbers x) ≡ x
  pub text : (x : TextNumber) → text_number_by (text_numbers x) ≡ x
