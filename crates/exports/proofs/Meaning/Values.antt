-- `ValueLaws` holds. Assumes nothing.
use Prim.Native.Nat.{ℕ, ◌+◌, ◌-◌, ◌<◌, ◌≤◌}
use native.Mathlib.Omega.{arith}
use mathlib.Core.Path.{◌≡◌, refl}
use mathlib.Core.List.{List}
use mathlib.Core.Bool.{Bool, true, false, not}
use borrow.Author.Tests.{lt-ltb, ne_eqb}
use lib.ListN.{length}
use lib.Dec.{eqb}
use Rattle.ftd.specs.Bytes.{be16_of, be32_of}
use Rattle.ftd.proofs.fields.Turns.{field-short, field-whole}
use Rattle.ftd.specs.Packet.{dated_of}
use Rattle.ftd.specs.Types.{TradeDate}
use Rattle.ftd.specs.Types.{PacketPlace}
use Rattle.ftd.specs.declared.packet.Chain.{Chain}
use Rattle.ftd.specs.declared.packet.Chain.TheVariants.{Single, First, Middle, Last}
use Rattle.ftd.specs.declared.packet.Packet.{Packet}
use Rattle.ftd.specs.declared.packet.Packet.TheVariants.{Short, Link, Skipped, Message}
use Rattle.ftd.specs.declared.packet.Packet.TheVariants.{Refused as WrongPacket}
use Rattle.ftd.specs.declared.composition.Direction.TheVariants.{Up, Down}
use Rattle.ftd.specs.Types.{Checked}
use Rattle.ftd.specs.Types.{ChainSize}
use Rattle.ftd.specs.Types.{Written}
use Rattle.ftd.specs.declared.resume.Resume.{Resume}
use Rattle.ftd.specs.declared.resume.Resume.TheVariants.{Absent, Next, Misshapen, Several}
use Rattle.ftd.specs.declared.item.FieldItem.{FieldItem}
use Rattle.ftd.specs.declared.item.FieldItem.TheVariants.{NoItem, NoValue, Char, Word, Int, Text, Number, Float, Date}
use Rattle.ftd.specs.declared.dates.Date.TheVariants.{NoDate, Unused, Day}
use Rattle.ftd.specs.declared.mode.Mode.{Mode}
use Rattle.ftd.specs.declared.mode.Mode.TheVariants.{Private, Broadcast, Management, Dialog, Unknown}
use Rattle.calendar.specs.Types.{SetAnswer}
use Rattle.calendar.specs.Types.{TradeTime}
use Rattle.book.specs.Types.{Outcome}
use Rattle.book.specs.Types.{Mean}
use Rattle.fix.specs.Types.{Number as TextNumber}
use Rattle.exports.specs.Numbers.{flag, dated_numbers, field_numbers, step_of, direction_for}
use Rattle.exports.specs.Numbers.{verdict_number, message_for, size_numbers, written_numbers, resume_numbers}
use Rattle.exports.specs.Items.{item_numbers, item_for, mode_number}
use Rattle.exports.specs.Trading.{trade_time_numbers}
use Rattle.exports.specs.Quotes.{level_numbers, mean_numbers}
use Rattle.exports.specs.Frames.{front_numbers, text_numbers}
use Rattle.ftd.specs.Packet.{with_tags, read_of, extension_of, chain_letter}
use Rattle.ftd.specs.Tags.{trade_date_of, packet_place_of}
use Rattle.exports.specs.Numbers.{dated_flag, date_of, date_for, placed_flag, place_number, plain_numbers}
use Rattle.exports.specs.Numbers.{link_numbers, skipped_numbers, message_numbers}
use Rattle.exports.specs.Items.{char_for, word_for, int_for}
use Rattle.exports.specs.Trading.{set_number}
use Rattle.exports.specs.Quotes.{outcome_number}
use Rattle.exports.specs.Meaning.Values.{trade_date_for, packet_place_for, chain_for, packet_for, dated_by, is_there}
use Rattle.exports.specs.Meaning.Values.{field_by, checked_for, size_by, written_by, resume_by, item_by}
use Rattle.exports.specs.Meaning.Values.{value_of, Fits, mode_for, set_for, trade_time_by, booked_for, level_by}
use Rattle.exports.specs.Meaning.Values.{mean_by, front_by, text_number_by, ValueLaws}
use Rattle.exports.proofs.Meaning.{row_back, row-table, refused-back, flag-back}
use Rattle.std.specs.Prelude.{Some, None, Ok, Err}
use Rattle.ftd.specs.Types.{MaybeField}
use Rattle.book.specs.Types.{MaybeLevel}
use Rattle.fix.specs.Types.{MaybeFront}
use Rattle.ftd.specs.declared.write.WriteError.TheVariants.{Refused, NotPlain}
use Rattle.ftd.specs.declared.refusal.Refusal.{Refusal}
use Rattle.ftd.specs.declared.write.WriteError.TheVariants.{NotPlain}

-- ─── Packets ───

date-back : (d : TradeDate) → trade_date_for (dated_flag d) (date_of d) ≡ d
date-back None = refl
date-back (Some d) = refl

place-back : (j : PacketPlace) → packet_place_for (placed_flag j) (place_number j) ≡ j
place-back None = refl
place-back (Some j) = refl

chain_back : (c : Chain) → chain_for (chain_letter c) ≡ c
unfolding chain_for
chain_back Single = refl
chain_back First = refl
chain_back Middle = refl
chain_back Last = refl

read : (n : ℕ) (x : Packet) (d : TradeDate) (j : PacketPlace)
    → dated_by (dated_numbers n (with_tags x d j)) ≡ with_tags x d j
unfolding with_tags packet_for plain_numbers link_numbers skipped_numbers message_numbers
read n (Short k) d j = refl
read n (Link kind e) d j = rw (date-back d, place-back j) refl
read n (Skipped kind e body) d j = refl
read n (Message h e content) d j = rw (chain_back h.chain, date-back d, place-back j) refl
read n (WrongPacket r) d j = rw (row_back r) refl

read_whole : (n : ℕ) (p : List ℕ) → dated_by (dated_numbers n (dated_of p)) ≡ dated_of p
unfolding dated_of
read_whole n p = read n (read_of p) (trade_date_of (extension_of p)) (packet_place_of (extension_of p))

size : (n : ℕ) (x : Packet) (d : TradeDate) (j : PacketPlace) → is_there x ≡ true
    → (dated_numbers n (record { packet = x; date = d; place = j })).size ≡ n
unfolding plain_numbers link_numbers skipped_numbers message_numbers
size n (Short k) d j h = cc
size n (Link kind e) d j h = refl
size n (Skipped kind e body) d j h = refl
size n (Message m e content) d j h = refl
size n (WrongPacket r) d j h = cc

-- ─── Fields, checks, writers ───

field : (x : MaybeField) → field_by (field_numbers x) ≡ x
field None = refl
field (Some found) = refl

step : (content : List ℕ) (at : ℕ) → 6 + be16_of content (at + 4) ≤ length content - at
    → step_of content at ≡ record { len = be16_of content (at + 4); fid = be32_of content at; found = 1 }
unfolding step_of
step content at h =
    let n = be16_of content (at + 4) in
    let less : 6 + n - 6 ≡ n = omega arith in
    rw (field-whole content at h, ne_eqb (6 + n) 0 (λ e. omega (arith, e)), less) refl

no_step : (content : List ℕ) (at : ℕ) → length content - at < 6 + be16_of content (at + 4)
    → step_of content at ≡ record { len = 0; fid = 0; found = 0 }
unfolding step_of
no_step content at h = rw (field-short content at h) refl

up : direction_for 0 ≡ Up
unfolding direction_for
up = refl

down : direction_for 1 ≡ Down
unfolding direction_for
down = refl

checked : (x : Checked) → checked_for (verdict_number x) ≡ x
checked (Ok tt) = refl
checked (Err r) = refused-back Err (Ok tt) r

sizes : (x : ChainSize) → size_by (size_numbers x) ≡ x
sizes (Ok s) = refl
sizes (Err r) = refused-back Err _ r

written : (x : Written) → written_by (written_numbers x) ≡ x
written (Ok n) = refl
written (Err (Refused r)) = rw (row-table r) (refused-back (λ (e : Refusal). Err (Refused e)) (Ok 0) r)
written (Err NotPlain) = refl

start : (x : Resume) → resume_by (resume_numbers x) ≡ x
unfolding resume_by
start Absent = refl
start (Next series number) = refl
start Misshapen = refl
start Several = refl

-- ─── Items and modes ───

item : (x : FieldItem) → item_by (item_numbers x) ≡ value_of x
unfolding item_by
item NoItem = refl
item NoValue = refl
item (Char x) = refl
item (Word x) = refl
item (Int x) = refl
item (Text start len) = refl
item (Number minus units) = rw (flag-back minus) refl
item (Float minus units) = rw (flag-back minus) refl
item (Date NoDate) = refl
item (Date Unused) = refl
item (Date (Day y m d)) = refl

not-zero : (b : Bool) → not (eqb (flag b) 0) ≡ b
not-zero false = refl
not-zero true = refl

item-given : (x : FieldItem) → Fits x → item_for (item_numbers x) ≡ value_of x
unfolding item_for char_for word_for int_for
item-given NoItem h = refl
item-given NoValue h = refl
item-given (Char x) h = rw (lt-ltb x 256 h) refl
item-given (Word x) h = rw (lt-ltb x 65536 h) refl
item-given (Int x) h = rw (lt-ltb x 4294967296 h) refl
item-given (Text start len) h = refl
item-given (Number minus units) h = rw (not-zero minus) refl
item-given (Float minus units) h = rw (not-zero minus) refl
item-given (Date NoDate) h = refl
item-given (Date Unused) h = refl
item-given (Date (Day y m d)) h = refl

mode : (x : Mode) → mode_for (mode_number x) ≡ x
unfolding mode_for
mode Unknown = refl
mode Private = refl
mode Broadcast = refl
mode Management = refl
mode Dialog = refl

-- ─── Calendar, book, frames ───

set : (x : SetAnswer) → set_for (set_number x) ≡ x
set (Ok tt) = refl
set (Err r) = refused-back Err (Ok tt) r

time : (x : TradeTime) → trade_time_by (trade_time_numbers x) ≡ x
time None = refl
time (Some d) = refl

booked : (x : Outcome) → booked_for (outcome_number x) ≡ x
booked (Ok tt) = refl
booked (Err r) = refused-back Err (Ok tt) r

level : (x : MaybeLevel) → level_by (level_numbers x) ≡ x
level None = refl
level (Some found) = refl

mean : (x : Mean) → mean_by (mean_numbers x) ≡ x
mean None = refl
mean (Some p) = refl

front : (x : MaybeFront) → front_by (front_numbers x) ≡ x
front None = refl
front (Some found) = refl

text : (x : TextNumber) → text_number_by (text_numbers x) ≡ x
text None = refl
text (Some n) = refl

pub value-laws : ValueLaws
unfolding message_for date_for
value-laws =
    record {
      read = read_whole;
      size = λ n x h. size n x.packet x.date x.place h;
      trade-date = date-back;
      keep-alive = flag-back;
      field = field;
      step = step;
      no_step = no_step;
      up = up;
      down = down;
      checked = checked;
      sizes = sizes;
      written = written;
      start = start;
      given-date = λ m. refl;
      given-tid = λ m. refl;
      given-series = λ m. refl;
      given-number = λ m. refl;
      given-no-place = λ m. refl;
      item = item;
      item-given = item-given;
      mode = mode;
      set = λ x. set x.answer;
      time = time;
      booked = λ x. booked x.answer;
      level = level;
      mean = mean;
      front = front;
      text = text;
    }
