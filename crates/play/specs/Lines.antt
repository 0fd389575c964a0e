-- The lines that the player prints.
use Rattle.std.specs.Prelude.{ℕ, suc, ◌+◌, ◌/◌, ◌≤◌, List, [], ◌∷◌, ◌++◌, Bool, cond, length, take, ℤ, pos, negsuc, eqb}
use Rattle.ftd.specs.Signed.{pow10}
use Rattle.ftd.specs.Signed.Write.{digits_in}
use Rattle.ftd.specs.Refusal.{number_of}
use Rattle.ftd.specs.declared.refusal.Refusal.{Refusal}
use Rattle.flow.specs.Types.{Opened}
use Rattle.flow.specs.Types.{Published}
use Rattle.flow.specs.Types.{LoggedIn}
use Rattle.flow.specs.Types.{Requested}
use Rattle.flow.specs.Types.{Confirmed}
use Rattle.flow.specs.declared.receiver.Received.{Received}
use Rattle.flow.specs.declared.receiver.Received.TheVariants.{Idle, Duplicate, Partial, Complete}
use Rattle.flow.specs.declared.receiver.Received.TheVariants.{Refused as NotTaken}
use Rattle.flow.specs.Types.{Saved}
use Rattle.flow.specs.Types.{Restored}
use Rattle.calendar.specs.Types.{SetAnswer}
use Rattle.calendar.specs.Types.{TradeTime}
use Rattle.book.specs.Types.{Outcome}
use Rattle.book.specs.Types.{Mean}
use Rattle.flow.specs.Answers.{content_in}
use Rattle.listing.specs.Text.{decimal_of, hex_of, hex8_of, newline, refused}
use Rattle.std.specs.Prelude.{Some, None, Ok, Err}
use Rattle.flow.specs.Types.{SendAnswer, PacketSent}
use Rattle.book.specs.Types.{MaybeLevel}

-- Bytes as pairs of upper-case hexadecimal digits.
unfoldable pub hex_bytes : List ℕ → List ℕ
hex_bytes [] = []
hex_bytes (x ∷ l) = hex_of 2 x ++ hex_bytes l

-- The same, or `-` where there is none.
unfoldable pub content_text : List ℕ → List ℕ
content_text bytes = cond (eqb (length bytes) 0) (45 ∷ []) (hex_bytes bytes)

abbrev pub gap : List ℕ
gap = 32 ∷ []

unfoldable pub word_line : List ℕ → List ℕ
word_line word = word ++ newline

unfoldable pub numbered : List ℕ → ℕ → List ℕ
numbered word n = word ++ gap ++ decimal_of n

unfoldable pub bytes_line : List ℕ → List ℕ → List ℕ → List ℕ
bytes_line word between bytes = word_line (numbered word (length bytes) ++ between ++ content_text bytes)

-- ─── Answers ───

abbrev pub opened : List ℕ
opened = 111 ∷ 112 ∷ 101 ∷ 110 ∷ 101 ∷ 100 ∷ []

abbrev pub published : List ℕ
published = 112 ∷ 117 ∷ 98 ∷ 108 ∷ 105 ∷ 115 ∷ 104 ∷ 101 ∷ 100 ∷ []

abbrev pub login : List ℕ
login = 108 ∷ 111 ∷ 103 ∷ 105 ∷ 110 ∷ []

abbrev pub sent : List ℕ
sent = 115 ∷ 101 ∷ 110 ∷ 116 ∷ []

abbrev pub packet : List ℕ
packet = 112 ∷ 97 ∷ 99 ∷ 107 ∷ 101 ∷ 116 ∷ []

abbrev pub last_gap : List ℕ
last_gap = 32 ∷ 108 ∷ 97 ∷ 115 ∷ 116 ∷ 32 ∷ []

abbrev pub more_gap : List ℕ
more_gap = 32 ∷ 109 ∷ 111 ∷ 114 ∷ 101 ∷ 32 ∷ []

abbrev pub none : List ℕ
none = 110 ∷ 111 ∷ 110 ∷ 101 ∷ []

abbrev pub connected : List ℕ
connected = 99 ∷ 111 ∷ 110 ∷ 110 ∷ 101 ∷ 99 ∷ 116 ∷ 101 ∷ 100 ∷ []

abbrev pub asked : List ℕ
asked = 97 ∷ 115 ∷ 107 ∷ 101 ∷ 100 ∷ []

abbrev pub answered : List ℕ
answered = 97 ∷ 110 ∷ 115 ∷ 119 ∷ 101 ∷ 114 ∷ 101 ∷ 100 ∷ []

abbrev pub idle : List ℕ
idle = 105 ∷ 100 ∷ 108 ∷ 101 ∷ []

abbrev pub again : List ℕ
again = 97 ∷ 103 ∷ 97 ∷ 105 ∷ 110 ∷ []

abbrev pub held : List ℕ
held = 104 ∷ 101 ∷ 108 ∷ 100 ∷ []

abbrev pub message : List ℕ
message = 109 ∷ 101 ∷ 115 ∷ 115 ∷ 97 ∷ 103 ∷ 101 ∷ []

abbrev pub kept : List ℕ
kept = 107 ∷ 101 ∷ 112 ∷ 116 ∷ []

abbrev pub returned : List ℕ
returned = 114 ∷ 101 ∷ 116 ∷ 117 ∷ 114 ∷ 110 ∷ 101 ∷ 100 ∷ []

abbrev pub set : List ℕ
set = 115 ∷ 101 ∷ 116 ∷ []

abbrev pub inside : List ℕ
inside = 105 ∷ 110 ∷ 115 ∷ 105 ∷ 100 ∷ 101 ∷ []

abbrev pub outside : List ℕ
outside = 111 ∷ 117 ∷ 116 ∷ 115 ∷ 105 ∷ 100 ∷ 101 ∷ []

abbrev pub date : List ℕ
date = 100 ∷ 97 ∷ 116 ∷ 101 ∷ []

abbrev pub started : List ℕ
started = 115 ∷ 116 ∷ 97 ∷ 114 ∷ 116 ∷ 101 ∷ 100 ∷ []

abbrev pub taken : List ℕ
taken = 116 ∷ 97 ∷ 107 ∷ 101 ∷ 110 ∷ []

abbrev pub level : List ℕ
level = 108 ∷ 101 ∷ 118 ∷ 101 ∷ 108 ∷ []

abbrev pub mean : List ℕ
mean = 109 ∷ 101 ∷ 97 ∷ 110 ∷ []

unfoldable pub refused_line : Refusal → List ℕ
refused_line r = word_line (numbered refused (number_of r))

-- Of an answer that says no more than a refusal: the word meant, or `refused` and the number.
abbrev pub outcome_line : List ℕ → Outcome → List ℕ
outcome_line word (Ok tt) = word_line word
outcome_line word (Err r) = refused_line r

-- `opened`.
abbrev pub opened_line : Opened → List ℕ
opened_line x = outcome_line opened x

-- `published` and the message's number.
abbrev pub published_line : Published → List ℕ
published_line (Ok k) = word_line (numbered published k)
published_line (Err r) = refused_line r

-- `login`, how many bytes were written, and these bytes of the output.
abbrev pub login_answer_line : List ℕ → LoggedIn → List ℕ
login_answer_line out (Ok n) = bytes_line login gap (take n out)
login_answer_line out (Err r) = refused_line r

-- `sent` likewise, or `none`.
abbrev pub sent_line : List ℕ → SendAnswer → List ℕ
sent_line out (Ok None) = word_line none
sent_line out (Ok (Some found)) = bytes_line sent gap (take found.len out)
sent_line out (Err r) = refused_line r

-- `packet` likewise, with `last` or `more` before the bytes: whether it is its message's last; or `none`.
unfoldable pub packet_line : Bool → List ℕ → List ℕ
packet_line is_last bytes = bytes_line packet (cond is_last last_gap more_gap) bytes

abbrev pub sent_packet_line : List ℕ → PacketSent → List ℕ
sent_packet_line out (Ok None) = word_line none
sent_packet_line out (Ok (Some found)) = packet_line found.last (take found.len out)
sent_packet_line out (Err r) = refused_line r

-- `asked`, how many bytes were written, and these bytes of the output.
abbrev pub requested_line : List ℕ → Requested → List ℕ
requested_line out (Ok n) = bytes_line asked gap (take n out)
requested_line out (Err r) = refused_line r

-- `answered` and the series' last number.
abbrev pub confirmed_line : Confirmed → List ℕ
confirmed_line (Ok k) = word_line (numbered answered k)
confirmed_line (Err r) = refused_line r

-- `message`, the number, which is the series' last now, TID and content.
unfoldable pub message_start : ℕ → ℕ → List ℕ
message_start last tid = numbered message last ++ gap ++ hex8_of tid ++ gap

unfoldable pub message_line : ℕ → ℕ → List ℕ → List ℕ
message_line last tid content = word_line (message_start last tid ++ content_text content)

-- `idle`; `again` or `held` and the series' last number; a message, with its content as it lies in the packet p or in
-- the reassembly buffer.
abbrev pub received_line : List ℕ → List ℕ → Received → List ℕ
received_line p buffer Idle = word_line idle
received_line p buffer (Duplicate k) = word_line (numbered again k)
received_line p buffer (Partial k) = word_line (numbered held k)
received_line p buffer (Complete last tid origin at) = message_line last tid (content_in p buffer origin at)
received_line p buffer (NotTaken r) = refused_line r

-- Where a bufferful goes on behind an answer (02, No. 8), its line, from a place to an end, is short.
abbrev pub Passing : Received → ℕ → ℕ → Type 0
Passing Idle at to = to ≤ at + 28
Passing (Duplicate k) at to = to ≤ at + 28
Passing (Partial k) at to = to ≤ at + 28
Passing (Complete last tid origin c) at to = Unit {0}
Passing (NotTaken r) at to = Unit {0}

-- ─── The answers of the named places (02, No. 13) ───

-- `kept`, or `refused` and the number.
abbrev pub saved_line : Saved → List ℕ
saved_line x = outcome_line kept x

-- `returned`, or `refused` and the number.
abbrev pub restored_line : Restored → List ℕ
restored_line x = outcome_line returned x

-- ─── The calendar's answers ───

-- `set`, or `refused` and the number.
abbrev pub set_line : SetAnswer → List ℕ
set_line x = outcome_line set x

-- `inside` and the trade date, or `outside`.
abbrev pub time_line : TradeTime → List ℕ
time_line None = word_line outside
time_line (Some d) = word_line (numbered inside d)

-- `date` and the date.
abbrev pub date_line : ℕ → List ℕ
date_line d = word_line (numbered date d)

-- ─── The book's answers ───

-- The decimals of a price.
abbrev pub price_scale : ℕ
price_scale = 4

-- So many units of 0.0001: the whole part without zeros in front, the point, four digits.
unfoldable pub units_text : ℕ → List ℕ
units_text units = decimal_of (units / pow10 price_scale) ++ (0x2E ∷ []) ++ digits_in price_scale units

-- A price as a Float of four decimals is shown, without zeros in front: 123.4500, -0.0001, 0.0000.
unfoldable pub price_text : ℤ → List ℕ
price_text (pos n) = units_text n
price_text (negsuc n) = (0x2D ∷ []) ++ units_text (suc n)

unfoldable pub priced : List ℕ → ℤ → List ℕ
priced word p = word ++ gap ++ price_text p

unfoldable pub spaced : ℕ → List ℕ
spaced n = gap ++ decimal_of n

unfoldable pub pair_line : ℤ → ℕ → List ℕ
pair_line p n = word_line (priced level p ++ spaced n)

unfoldable pub price_line : ℤ → List ℕ
price_line p = word_line (priced mean p)

-- `level`, price and quantity, or `none`.
abbrev pub level_line : MaybeLevel → List ℕ
level_line None = word_line none
level_line (Some found) = pair_line found.price found.quantity

-- `mean` and the price, or `none`.
abbrev pub mean_line : Mean → List ℕ
mean_line None = word_line none
mean_line (Some p) = price_line p
