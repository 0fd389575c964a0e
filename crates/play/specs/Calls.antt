-- The call that a script's line says: its words, parted by one space each.
use Rattle.std.specs.Prelude.{ℕ, ◌-◌, ◌*◌, ◌≤◌, List, [], ◌∷◌, Bool, true, false, cond, take, ltb}
use Rattle.play.specs.declared.calls.Verb.{Verb}
use Rattle.play.specs.declared.calls.Verb.TheVariants.{Unknown}
use Rattle.play.specs.declared.calls.Verb.TheVariants.{Buffers as NamesBuffers, OpenDay as NamesOpenDay}
use Rattle.play.specs.declared.calls.Verb.TheVariants.{Publish as NamesPublish, Login as NamesLogin}
use Rattle.play.specs.declared.calls.Verb.TheVariants.{Send as NamesSend, OpenEnd as NamesOpenEnd}
use Rattle.play.specs.declared.calls.Verb.TheVariants.{Connect as NamesConnect, Ask as NamesAsk}
use Rattle.play.specs.declared.calls.Verb.TheVariants.{Answer as NamesAnswer, Receive as NamesReceive}
use Rattle.play.specs.declared.calls.Verb.TheVariants.{State as NamesState, Calendar as NamesCalendar}
use Rattle.play.specs.declared.calls.Verb.TheVariants.{Mark as NamesMark, Book as NamesBook, Take as NamesTake}
use Rattle.play.specs.declared.calls.Verb.TheVariants.{Level as NamesLevel, Mean as NamesMean, ReceiveAll as NamesReceiveAll}
use Rattle.play.specs.declared.calls.Verb.TheVariants.{PublishAll as NamesPublishAll, SendPacket as NamesSendPacket}
use Rattle.play.specs.declared.calls.Verb.TheVariants.{Keep as NamesKeep, Return as NamesReturn}
use Rattle.play.specs.declared.calls.Call.{Call}
use Rattle.play.specs.declared.calls.Call.TheVariants.{Bad, Buffers, OpenDay, Publish, Login, Send, OpenEnd}
use Rattle.play.specs.declared.calls.Call.TheVariants.{Connect, Ask, Answer, Receive, State}
use Rattle.play.specs.declared.calls.Call.TheVariants.{SetCalendar, AskTime, MarkDate, ReceiveAll, PublishAll}
use Rattle.play.specs.declared.calls.Call.TheVariants.{StartBook, TakeMessage, ShowLevel, ShowMean, Keep, Return}
use Rattle.play.specs.Words.{end_of, number_in, tid_in, same_word, argument, has_form, most_named, series_count}
use Rattle.play.specs.Words.{most_times, most_dates, most_listed, word_count, share_count, has_name}

-- ─── The first word ───

-- `book`, `take`, `level`, `mean`.
unfoldable pub book_verb_of : List ℕ → Verb
book_verb_of word =
    cond (same_word word (98 ∷ 111 ∷ 111 ∷ 107 ∷ [])) NamesBook
    (cond (same_word word (116 ∷ 97 ∷ 107 ∷ 101 ∷ [])) NamesTake
    (cond (same_word word (108 ∷ 101 ∷ 118 ∷ 101 ∷ 108 ∷ [])) NamesLevel
    (cond (same_word word (109 ∷ 101 ∷ 97 ∷ 110 ∷ [])) NamesMean Unknown)))

-- `receiveall`, `publishall`, `keep`, `return`, or one of those.
unfoldable pub several_verb_of : List ℕ → Verb
several_verb_of word =
    cond (same_word word (114 ∷ 101 ∷ 99 ∷ 101 ∷ 105 ∷ 118 ∷ 101 ∷ 97 ∷ 108 ∷ 108 ∷ [])) NamesReceiveAll
    (cond (same_word word (112 ∷ 117 ∷ 98 ∷ 108 ∷ 105 ∷ 115 ∷ 104 ∷ 97 ∷ 108 ∷ 108 ∷ [])) NamesPublishAll
    (cond (same_word word (107 ∷ 101 ∷ 101 ∷ 112 ∷ [])) NamesKeep
    (cond (same_word word (114 ∷ 101 ∷ 116 ∷ 117 ∷ 114 ∷ 110 ∷ [])) NamesReturn (book_verb_of word))))

-- `calendar`, `mark`, or one of those.
unfoldable pub trading_verb_of : List ℕ → Verb
trading_verb_of word =
    cond (same_word word (99 ∷ 97 ∷ 108 ∷ 101 ∷ 110 ∷ 100 ∷ 97 ∷ 114 ∷ [])) NamesCalendar
    (cond (same_word word (109 ∷ 97 ∷ 114 ∷ 107 ∷ [])) NamesMark (several_verb_of word))

-- `ropen`, `connect`, `ask`, `answer`, `receive`, `state`, or one of those.
unfoldable pub end_verb_of : List ℕ → Verb
end_verb_of word =
    cond (same_word word (114 ∷ 111 ∷ 112 ∷ 101 ∷ 110 ∷ [])) NamesOpenEnd
    (cond (same_word word (99 ∷ 111 ∷ 110 ∷ 110 ∷ 101 ∷ 99 ∷ 116 ∷ [])) NamesConnect
    (cond (same_word word (97 ∷ 115 ∷ 107 ∷ [])) NamesAsk
    (cond (same_word word (97 ∷ 110 ∷ 115 ∷ 119 ∷ 101 ∷ 114 ∷ [])) NamesAnswer
    (cond (same_word word (114 ∷ 101 ∷ 99 ∷ 101 ∷ 105 ∷ 118 ∷ 101 ∷ [])) NamesReceive
    (cond (same_word word (115 ∷ 116 ∷ 97 ∷ 116 ∷ 101 ∷ [])) NamesState (trading_verb_of word))))))

-- `buffers`, `sopen`, `publish`, `login`, `send`, `sendpacket`, or one of those.
unfoldable pub verb_of : List ℕ → Verb
verb_of word =
    cond (same_word word (98 ∷ 117 ∷ 102 ∷ 102 ∷ 101 ∷ 114 ∷ 115 ∷ [])) NamesBuffers
    (cond (same_word word (115 ∷ 111 ∷ 112 ∷ 101 ∷ 110 ∷ [])) NamesOpenDay
    (cond (same_word word (112 ∷ 117 ∷ 98 ∷ 108 ∷ 105 ∷ 115 ∷ 104 ∷ [])) NamesPublish
    (cond (same_word word (108 ∷ 111 ∷ 103 ∷ 105 ∷ 110 ∷ [])) NamesLogin
    (cond (same_word word (115 ∷ 101 ∷ 110 ∷ 100 ∷ [])) NamesSend
    (cond (same_word word (115 ∷ 101 ∷ 110 ∷ 100 ∷ 112 ∷ 97 ∷ 99 ∷ 107 ∷ 101 ∷ 116 ∷ [])) NamesSendPacket (end_verb_of word))))))

-- ─── The arguments: whether they have their form, and numbers within their limits ───

-- A log of at most 1,048,576 bytes, a chain buffer of at most 262,144.
unfoldable pub buffers_with : Bool → ℕ → ℕ → Call
buffers_with right log chain =
    cond right (cond (ltb 1048576 log) Bad (cond (ltb 262144 chain) Bad (Buffers log chain))) Bad

-- A trade date of four bytes, and so many series with their reserves.
unfoldable pub open_day_with : ℕ → ℕ → Call
open_day_with date count = cond (ltb 4294967295 date) Bad (cond (ltb most_named count) Bad (OpenDay date count))

unfoldable pub publish_with : Bool → ℕ → ℕ → Call
publish_with right series tid =
    cond right (cond (ltb 65535 series) Bad (cond (ltb 4294967295 tid) Bad (Publish series tid))) Bad

-- An output of at most 65,536 bytes, here and below.
unfoldable pub login_call_with : Bool → ℕ → ℕ → Call
login_call_with right series room =
    cond right (cond (ltb 65535 series) Bad (cond (ltb 65536 room) Bad (Login series room))) Bad

-- Of a whole message, or of one packet.
unfoldable pub send_with : Bool → ℕ → ℕ → Bool → Call
send_with right series room single =
    cond right (cond (ltb 65535 series) Bad (cond (ltb 65536 room) Bad (Send series room single))) Bad

unfoldable pub open_end_with : ℕ → Call
open_end_with count = cond (ltb most_named count) Bad (OpenEnd count)

unfoldable pub ask_with : Bool → ℕ → ℕ → Call
ask_with right series room =
    cond right (cond (ltb 65535 series) Bad (cond (ltb 65536 room) Bad (Ask series room))) Bad

unfoldable pub answer_with : Bool → ℕ → Call
answer_with right series = cond right (cond (ltb 65535 series) Bad (Answer series)) Bad

-- Seconds of four bytes, alone in their line; a line of another form is another call.
unfoldable pub time_with : Bool → ℕ → Call → Call
time_with alone seconds other = cond alone (cond (ltb 4294967295 seconds) Bad (AskTime seconds)) other

-- At most 16 sessions of three numbers each; the numbers left are holidays, at most 64.
unfoldable pub calendar_with : ℕ → ℕ → Call
calendar_with sessions count =
    cond (ltb most_times sessions) Bad
    (cond (ltb most_listed count) Bad
    (cond (ltb count (3 * sessions)) Bad
    (cond (ltb most_dates (count - 3 * sessions)) Bad (SetCalendar sessions (count - 3 * sessions)))))

unfoldable pub mark_with : Bool → ℕ → Call
mark_with right mark = cond right (cond (ltb 4294967295 mark) Bad (MarkDate mark)) Bad

unfoldable pub take_with : Bool → ℕ → Call
take_with right tid = cond right (cond (ltb 4294967295 tid) Bad (TakeMessage tid)) Bad

-- The side is `b` for buying, `s` for selling; the place is of four bytes.
unfoldable pub level_with : Bool → Bool → Bool → ℕ → Call
level_with right buying selling place =
    cond right
    (cond (ltb 4294967295 place) Bad
    (cond buying (ShowLevel true place) (cond selling (ShowLevel false place) Bad)))
    Bad

-- A call without numbers.
unfoldable pub plain_call : Bool → Call → Call
plain_call right call = cond right call Bad

-- ─── The line ───

-- Number i of a line.
abbrev pub number_at : List ℕ → ℕ → ℕ
number_at line i = number_in 10 (argument line i)

abbrev pub named_call : List ℕ → Verb → Call
named_call line Unknown = Bad
named_call line NamesBuffers = buffers_with (has_form line 2 0) (number_at line 0) (number_at line 1)
named_call line NamesOpenDay = open_day_with (number_at line 0) (share_count line 1)
named_call line NamesPublish = publish_with (has_form line 2 1) (number_at line 0) (tid_in (argument line 1))
named_call line NamesLogin = login_call_with (has_form line 2 2) (number_at line 0) (number_at line 1)
named_call line NamesSend = send_with (has_form line 2 0) (number_at line 0) (number_at line 1) false
named_call line NamesOpenEnd = open_end_with (series_count line 0)
named_call line NamesConnect = plain_call (has_form line 0 0) Connect
named_call line NamesAsk =
    time_with (has_form line 1 0) (number_at line 0)
    (ask_with (has_form line 2 1) (number_at line 0) (number_at line 1))
named_call line NamesAnswer = answer_with (has_form line 1 1) (number_at line 0)
named_call line NamesReceive = plain_call (has_form line 0 1) Receive
named_call line NamesState = plain_call (has_form line 0 0) State
named_call line NamesCalendar = calendar_with (number_at line 0) (word_count line 1)
named_call line NamesMark = mark_with (has_form line 1 0) (number_at line 0)
named_call line NamesBook = plain_call (has_form line 0 1) StartBook
named_call line NamesTake = take_with (has_form line 1 1) (tid_in (argument line 0))
named_call line NamesLevel =
    level_with (has_form line 2 0) (same_word (argument line 0) (98 ∷ [])) (same_word (argument line 0) (115 ∷ []))
    (number_at line 1)
named_call line NamesMean = plain_call (has_form line 0 0) ShowMean
named_call line NamesReceiveAll = plain_call (has_form line 0 1) ReceiveAll
named_call line NamesPublishAll = plain_call (has_form line 0 1) PublishAll
named_call line NamesSendPacket = send_with (has_form line 2 0) (number_at line 0) (number_at line 1) true
named_call line NamesKeep = plain_call (has_name line) Keep
named_call line NamesReturn = plain_call (has_name line) Return

unfoldable pub call_of : List ℕ → Call
call_of line = named_call line (verb_of (take (end_of line 0) line))

-- ─── What a call keeps to ───

-- An output, the series of an opening and the numbers of a calendar are within their limits.
abbrev pub Limited : Call → Type 0
Limited Bad = Unit {0}
Limited (Buffers log chain) = Unit {0}
Limited (OpenDay date count) = count ≤ most_named
Limited (Publish series tid) = Unit {0}
Limited (Login series room) = room ≤ 65536
Limited (Send series room single) = room ≤ 65536
Limited (OpenEnd count) = count ≤ most_named
Limited Connect = Unit {0}
Limited (Ask series room) = room ≤ 65536
Limited (Answer series) = Unit {0}
Limited Receive = Unit {0}
Limited State = Unit {0}
Limited (SetCalendar sessions holidays) = (sessions ≤ most_times) × (holidays ≤ most_dates)
Limited (AskTime seconds) = Unit {0}
Limited (MarkDate mark) = Unit {0}
Limited StartBook = Unit {0}
Limited (TakeMessage tid) = Unit {0}
Limited (ShowLevel buying place) = Unit {0}
Limited ShowMean = Unit {0}
Limited ReceiveAll = Unit {0}
Limited PublishAll = Unit {0}
Limited Keep = Unit {0}
Limited Return = Unit {0}
