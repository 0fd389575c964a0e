-- What the player is after a line, what it prints, and every byte of its log and its chain buffer.
use Rattle.std.specs.Prelude.{ℕ, ◌+◌, ◌-◌, ◌*◌, ◌/◌, ◌≤◌, ◌≡◌, List, [], ◌∷◌, ◌++◌, Bool, true, false, cond, length, take, drop, replicate, ltb}
use Rattle.flow.specs.declared.sender.Sender.{Sender}
use Rattle.flow.specs.declared.receiver.Receiver.{Receiver}
use Rattle.flow.specs.Ends.{fresh_sender, fresh_receiver}
use Rattle.flow.specs.Serving.{open_day_of, publish_of, login_of, send_of, send_packet_of}
use Rattle.flow.specs.Receiving.{open_end_of, connect_of, request_login_of, confirm_login_of, receive_of}
use Rattle.flow.specs.Several.{receive_several_of, publish_several_of}
use Rattle.flow.specs.declared.checkpoint.Checkpoints.{Checkpoints}
use Rattle.flow.specs.Checkpoints.{fresh_checkpoints, keep_of, restore_of}
use Rattle.calendar.specs.declared.trading.Calendar.{Calendar}
use Rattle.calendar.specs.Calendar.{fresh_calendar, set_of, ask_of, mark_date}
use Rattle.book.specs.declared.calls.Book.{Book}
use Rattle.book.specs.Calls.{fresh_book, start_of, take_of, level_of, book_mean}
use Rattle.listing.specs.Text.{WroteText}
use Rattle.play.specs.declared.player.Player.{Player}
use Rattle.play.specs.declared.player.Played.{Played}
use Rattle.play.specs.declared.calls.Call.{Call}
use Rattle.play.specs.declared.calls.Call.TheVariants.{Bad, Buffers, OpenDay, Publish, Login, Send, OpenEnd}
use Rattle.play.specs.declared.calls.Call.TheVariants.{Connect, Ask, Answer, Receive, State}
use Rattle.play.specs.declared.calls.Call.TheVariants.{SetCalendar, AskTime, MarkDate, ReceiveAll, PublishAll}
use Rattle.play.specs.declared.calls.Call.TheVariants.{StartBook, TakeMessage, ShowLevel, ShowMean, Keep, Return}
use Rattle.play.specs.Words.{argument, said_bytes, series_from, reserves_from, words_from, name_in}
use Rattle.play.specs.Calls.{call_of, Limited}
use Rattle.play.specs.Lines.{word_line, numbered, opened_line, published_line, login_answer_line, sent_line, sent_packet_line}
use Rattle.play.specs.Lines.{connected, requested_line, confirmed_line, received_line, set_line, time_line, date_line}
use Rattle.play.specs.Lines.{saved_line, restored_line, started, taken, outcome_line, level_line, mean_line}
use Rattle.play.specs.State.{state_lines}
use Rattle.play.specs.Several.{received_lines, published_lines, taken_line, received_why, published_why}

-- ─── The player ───

-- No line was given, no buffer is laid out, no place is named, and the ends, the calendar and the book are fresh.
abbrev pub fresh_player : Player
fresh_player =
    record {
      lines = 0;
      ready = false;
      log = 0;
      chain = 0;
      sender = fresh_sender;
      receiver = fresh_receiver;
      checkpoints = fresh_checkpoints;
      calendar = fresh_calendar;
      book = fresh_book;
    }

-- The player with another serving end, with another receiving end, with other named places, with another calendar,
-- with another book.
abbrev pub with_sender : Player → Sender → Player
with_sender p e =
    record {
      lines = p.lines;
      ready = p.ready;
      log = p.log;
      chain = p.chain;
      sender = e;
      receiver = p.receiver;
      checkpoints = p.checkpoints;
      calendar = p.calendar;
      book = p.book;
    }

abbrev pub with_receiver : Player → Receiver → Player
with_receiver p e =
    record {
      lines = p.lines;
      ready = p.ready;
      log = p.log;
      chain = p.chain;
      sender = p.sender;
      receiver = e;
      checkpoints = p.checkpoints;
      calendar = p.calendar;
      book = p.book;
    }

abbrev pub with_checkpoints : Player → Checkpoints → Player
with_checkpoints p c =
    record {
      lines = p.lines;
      ready = p.ready;
      log = p.log;
      chain = p.chain;
      sender = p.sender;
      receiver = p.receiver;
      checkpoints = c;
      calendar = p.calendar;
      book = p.book;
    }

abbrev pub with_calendar : Player → Calendar → Player
with_calendar p c =
    record {
      lines = p.lines;
      ready = p.ready;
      log = p.log;
      chain = p.chain;
      sender = p.sender;
      receiver = p.receiver;
      checkpoints = p.checkpoints;
      calendar = c;
      book = p.book;
    }

abbrev pub with_book : Player → Book → Player
with_book p b =
    record {
      lines = p.lines;
      ready = p.ready;
      log = p.log;
      chain = p.chain;
      sender = p.sender;
      receiver = p.receiver;
      checkpoints = p.checkpoints;
      calendar = p.calendar;
      book = b;
    }

-- The buffers are laid out, with these lengths.
abbrev pub laid_out : Player → ℕ → ℕ → Player
laid_out p log chain =
    record {
      lines = p.lines;
      ready = true;
      log = log;
      chain = chain;
      sender = p.sender;
      receiver = p.receiver;
      checkpoints = p.checkpoints;
      calendar = p.calendar;
      book = p.book;
    }

-- A line more; behind 4,294,967,295 lines they are counted no further.
unfoldable pub counted_player : Player → Player
counted_player p =
    cond (ltb p.lines 4294967295)
    (record {
      lines = p.lines + 1;
      ready = p.ready;
      log = p.log;
      chain = p.chain;
      sender = p.sender;
      receiver = p.receiver;
      checkpoints = p.checkpoints;
      calendar = p.calendar;
      book = p.book;
    })
    p

-- `bad line` and the line's number; `ok`.
unfoldable pub bad_line : ℕ → List ℕ
bad_line n = word_line (numbered (98 ∷ 97 ∷ 100 ∷ 32 ∷ 108 ∷ 105 ∷ 110 ∷ 101 ∷ []) n)

unfoldable pub ok_line : List ℕ
ok_line = word_line (111 ∷ 107 ∷ [])

-- The player is the one meant, and the text begins with the lines meant; what stood behind them is still there.
abbrev pub Shows : Player → List ℕ → Played → List ℕ → List ℕ → Type 0
Shows player lines r before after =
    (r.player ≡ player) × WroteText before 0 lines after r.len × (r.len ≤ length after)

-- ─── The calls, each in the buffers that it is lent ───

abbrev pub ShowsOpenDay : Player → ℕ → List ℕ → List ℕ → List ℕ → Played → List ℕ → List ℕ → Type 0
ShowsOpenDay p date series reserves log r before after =
    let m = open_day_of p.sender date series reserves log in
    Shows (with_sender p m.end) (opened_line m.answer) r before after

-- The log becomes `log'`.
abbrev pub ShowsPublish : Player → ℕ → ℕ → List ℕ → List ℕ → List ℕ → Played → List ℕ → List ℕ → Type 0
ShowsPublish p s tid content log log' r before after =
    let m = publish_of p.sender s tid content log in
    Shows (with_sender p m.end) (published_line m.answer) r before after × (log' ≡ m.bytes)

-- An output of n bytes, all zero, becomes `out`.
abbrev pub ShowsLogin : Player → ℕ → List ℕ → List ℕ → ℕ → List ℕ → Played → List ℕ → List ℕ → Type 0
ShowsLogin p s packet content n out r before after =
    let m = login_of p.sender s packet content (replicate n 0) in
    Shows (with_sender p m.end) (login_answer_line m.bytes m.answer) r before after × (out ≡ m.bytes)

abbrev pub ShowsSend : Player → ℕ → List ℕ → ℕ → List ℕ → Played → List ℕ → List ℕ → Type 0
ShowsSend p s log n out r before after =
    let m = send_of p.sender s log (replicate n 0) in
    Shows (with_sender p m.end) (sent_line m.bytes m.answer) r before after × (out ≡ m.bytes)

abbrev pub ShowsSendPacket : Player → ℕ → List ℕ → ℕ → List ℕ → Played → List ℕ → List ℕ → Type 0
ShowsSendPacket p s log n out r before after =
    let m = send_packet_of p.sender s log (replicate n 0) in
    Shows (with_sender p m.end) (sent_packet_line m.bytes m.answer) r before after × (out ≡ m.bytes)

abbrev pub ShowsOpenEnd : Player → List ℕ → Played → List ℕ → List ℕ → Type 0
ShowsOpenEnd p series r before after =
    let m = open_end_of p.receiver series in
    Shows (with_receiver p m.end) (opened_line m.answer) r before after

abbrev pub ShowsConnect : Player → Played → List ℕ → List ℕ → Type 0
ShowsConnect p r before after =
    Shows (with_receiver p (connect_of p.receiver)) (word_line connected) r before after

-- The end stays.
abbrev pub ShowsAsk : Player → ℕ → List ℕ → ℕ → List ℕ → Played → List ℕ → List ℕ → Type 0
ShowsAsk p s content n out r before after =
    let m = request_login_of p.receiver s content (replicate n 0) in
    Shows p (requested_line m.bytes m.answer) r before after × (out ≡ m.bytes)

abbrev pub ShowsAnswer : Player → ℕ → List ℕ → Played → List ℕ → List ℕ → Type 0
ShowsAnswer p s packet r before after =
    let m = confirm_login_of p.receiver s packet in
    Shows (with_receiver p m.end) (confirmed_line m.answer) r before after

-- The chain buffer becomes `buffer'`; the content of a message is read off the packet or off that.
abbrev pub ShowsReceive : Player → List ℕ → List ℕ → List ℕ → Played → List ℕ → List ℕ → Type 0
ShowsReceive p packet buffer buffer' r before after =
    let m = receive_of p.receiver packet buffer in
    Shows (with_receiver p m.end) (received_line packet m.bytes m.answer) r before after
    × (buffer' ≡ m.bytes)

abbrev pub ShowsState : Player → Played → List ℕ → List ℕ → Type 0
ShowsState p r before after = Shows p (state_lines p.sender p.receiver p.checkpoints) r before after

-- The receiving end stays.
abbrev pub ShowsKeep : Player → List ℕ → Played → List ℕ → List ℕ → Type 0
ShowsKeep p name r before after =
    let m = keep_of p.checkpoints p.receiver name in
    Shows (with_checkpoints p m.end) (saved_line m.answer) r before after

-- The named places stay.
abbrev pub ShowsReturn : Player → List ℕ → Played → List ℕ → List ℕ → Type 0
ShowsReturn p name r before after =
    let m = restore_of p.checkpoints p.receiver name in
    Shows (with_receiver p m.end) (restored_line m.answer) r before after

abbrev pub ShowsCalendar : Player → List ℕ → List ℕ → Played → List ℕ → List ℕ → Type 0
ShowsCalendar p sessions holidays r before after =
    let m = set_of p.calendar sessions holidays in
    Shows (with_calendar p m.calendar) (set_line m.answer) r before after

abbrev pub ShowsTime : Player → ℕ → Played → List ℕ → List ℕ → Type 0
ShowsTime p seconds r before after = Shows p (time_line (ask_of p.calendar seconds)) r before after

abbrev pub ShowsDate : Player → ℕ → Played → List ℕ → List ℕ → Type 0
ShowsDate p mark r before after = Shows p (date_line (mark_date mark)) r before after

abbrev pub ShowsStart : Player → List ℕ → Played → List ℕ → List ℕ → Type 0
ShowsStart p code r before after =
    let m = start_of p.book code in
    Shows (with_book p m.book) (outcome_line started m.answer) r before after

abbrev pub ShowsTake : Player → ℕ → List ℕ → Played → List ℕ → List ℕ → Type 0
ShowsTake p tid content r before after =
    let m = take_of p.book tid content in
    Shows (with_book p m.book) (outcome_line taken m.answer) r before after

abbrev pub ShowsLevel : Player → Bool → ℕ → Played → List ℕ → List ℕ → Type 0
ShowsLevel p buying place r before after = Shows p (level_line (level_of p.book buying place)) r before after

abbrev pub ShowsMean : Player → Played → List ℕ → List ℕ → Type 0
ShowsMean p r before after = Shows p (mean_line (book_mean p.book)) r before after

-- Several packets: end and chain buffer are those of the call for several, and what is printed is the line of each
-- single answer and then what the call took and why it stopped. Several records likewise, in the log.
abbrev pub ShowsReceiveAll : Player → List ℕ → List ℕ → List ℕ → Played → List ℕ → List ℕ → Type 0
ShowsReceiveAll p packets buffer buffer' r before after =
    let m = receive_several_of p.receiver packets buffer in
    Shows (with_receiver p m.end)
    (received_lines p.receiver packets buffer ++ taken_line m.taken (received_why m.answer)) r before after
    × (buffer' ≡ m.bytes)

abbrev pub ShowsPublishAll : Player → List ℕ → List ℕ → List ℕ → Played → List ℕ → List ℕ → Type 0
ShowsPublishAll p records log log' r before after =
    let m = publish_several_of p.sender records log in
    Shows (with_sender p m.end)
    (published_lines p.sender records log ++ taken_line m.taken (published_why m.answer)) r before after
    × (log' ≡ m.bytes)

-- ─── The calls, as a line makes them ───

-- What a line leaves: the player, what is printed, and all bytes of log and chain buffer.
pub record Turn : Type 0 where
  pub player : Player
  pub said : List ℕ
  pub log : List ℕ
  pub chain : List ℕ

abbrev pub turn : Player → List ℕ → List ℕ → List ℕ → Turn
turn p said log chain = record { player = p; said = said; log = log; chain = chain }

abbrev pub bad_turn : Player → List ℕ → List ℕ → Turn
bad_turn p log chain = turn p (bad_line p.lines) log chain

-- The part of a buffer that is laid out has become other bytes.
abbrev pub within : ℕ → List ℕ → List ℕ → List ℕ
within size bytes buffer = bytes ++ drop size buffer

-- The buffers are laid out, all zero, where they have so many bytes.
unfoldable pub layout_turn : Player → ℕ → ℕ → List ℕ → List ℕ → Turn
layout_turn p size part log chain =
    cond (ltb (length log) size) (bad_turn p log chain)
    (cond (ltb (length chain) part) (bad_turn p log chain)
    (turn (laid_out p size part) ok_line (within size (replicate size 0) log) (within part (replicate part 0) chain)))

-- The series of an opening, each with its reserve, from argument 1 on; the log stays.
abbrev pub open_day_turn : Player → List ℕ → ℕ → ℕ → List ℕ → List ℕ → Turn
open_day_turn p line date count log chain =
    let m = open_day_of p.sender date (series_from line 1 count) (reserves_from line 1 count) (take p.log log) in
    turn (with_sender p m.end) (opened_line m.answer) log chain

abbrev pub publish_turn : Player → ℕ → ℕ → List ℕ → List ℕ → List ℕ → Turn
publish_turn p s tid content log chain =
    let m = publish_of p.sender s tid content (take p.log log) in
    turn (with_sender p m.end) (published_line m.answer) (within p.log m.bytes log) chain

abbrev pub login_turn : Player → ℕ → List ℕ → List ℕ → ℕ → List ℕ → List ℕ → Turn
login_turn p s packet content room log chain =
    let m = login_of p.sender s packet content (replicate room 0) in
    turn (with_sender p m.end) (login_answer_line m.bytes m.answer) log chain

abbrev pub send_turn : Player → ℕ → ℕ → List ℕ → List ℕ → Turn
send_turn p s room log chain =
    let m = send_of p.sender s (take p.log log) (replicate room 0) in
    turn (with_sender p m.end) (sent_line m.bytes m.answer) log chain

abbrev pub send_packet_turn : Player → ℕ → ℕ → List ℕ → List ℕ → Turn
send_packet_turn p s room log chain =
    let m = send_packet_of p.sender s (take p.log log) (replicate room 0) in
    turn (with_sender p m.end) (sent_packet_line m.bytes m.answer) log chain

-- Of one packet, or of a whole message.
abbrev pub either_send_turn : Player → ℕ → ℕ → Bool → List ℕ → List ℕ → Turn
either_send_turn p s room single log chain =
    cond single (send_packet_turn p s room log chain) (send_turn p s room log chain)

abbrev pub ask_turn : Player → ℕ → List ℕ → ℕ → List ℕ → List ℕ → Turn
ask_turn p s content room log chain =
    let m = request_login_of p.receiver s content (replicate room 0) in
    turn p (requested_line m.bytes m.answer) log chain

abbrev pub receive_turn : Player → List ℕ → List ℕ → List ℕ → Turn
receive_turn p packet log chain =
    let m = receive_of p.receiver packet (take p.chain chain) in
    turn (with_receiver p m.end) (received_line packet m.bytes m.answer) log
    (within p.chain m.bytes chain)

-- So many sessions, of three numbers each, and behind them so many holidays.
abbrev pub calendar_turn : Player → List ℕ → ℕ → ℕ → List ℕ → List ℕ → Turn
calendar_turn p line sessions holidays log chain =
    let m = set_of p.calendar (words_from line 1 (3 * sessions)) (words_from line (1 + 3 * sessions) holidays) in
    turn (with_calendar p m.calendar) (set_line m.answer) log chain

abbrev pub receive_all_turn : Player → List ℕ → List ℕ → List ℕ → Turn
receive_all_turn p packets log chain =
    let m = receive_several_of p.receiver packets (take p.chain chain) in
    turn (with_receiver p m.end)
    (received_lines p.receiver packets (take p.chain chain) ++ taken_line m.taken (received_why m.answer)) log
    (within p.chain m.bytes chain)

abbrev pub publish_all_turn : Player → List ℕ → List ℕ → List ℕ → Turn
publish_all_turn p records log chain =
    let m = publish_several_of p.sender records (take p.log log) in
    turn (with_sender p m.end)
    (published_lines p.sender records (take p.log log) ++ taken_line m.taken (published_why m.answer))
    (within p.log m.bytes log) chain

-- A call in buffers that are laid out: the words that say bytes or a name are the line's.
abbrev pub ready_turn : Player → List ℕ → List ℕ → List ℕ → Call → Turn
ready_turn p line log chain Bad = bad_turn p log chain
ready_turn p line log chain (Buffers size part) = bad_turn p log chain
ready_turn p line log chain (OpenDay date count) = open_day_turn p line date count log chain
ready_turn p line log chain (Publish s tid) = publish_turn p s tid (said_bytes (argument line 2)) log chain
ready_turn p line log chain (Login s room) =
    login_turn p s (said_bytes (argument line 2)) (said_bytes (argument line 3)) room log chain
ready_turn p line log chain (Send s room single) = either_send_turn p s room single log chain
ready_turn p line log chain (OpenEnd count) =
    let m = open_end_of p.receiver (series_from line 0 count) in
    turn (with_receiver p m.end) (opened_line m.answer) log chain
ready_turn p line log chain Connect =
    turn (with_receiver p (connect_of p.receiver)) (word_line connected) log chain
ready_turn p line log chain (Ask s room) = ask_turn p s (said_bytes (argument line 2)) room log chain
ready_turn p line log chain (Answer s) =
    let m = confirm_login_of p.receiver s (said_bytes (argument line 1)) in
    turn (with_receiver p m.end) (confirmed_line m.answer) log chain
ready_turn p line log chain Receive = receive_turn p (said_bytes (argument line 0)) log chain
ready_turn p line log chain State = turn p (state_lines p.sender p.receiver p.checkpoints) log chain
ready_turn p line log chain (SetCalendar sessions holidays) = calendar_turn p line sessions holidays log chain
ready_turn p line log chain (AskTime seconds) = turn p (time_line (ask_of p.calendar seconds)) log chain
ready_turn p line log chain (MarkDate mark) = turn p (date_line (mark_date mark)) log chain
ready_turn p line log chain StartBook =
    let m = start_of p.book (said_bytes (argument line 0)) in
    turn (with_book p m.book) (outcome_line started m.answer) log chain
ready_turn p line log chain (TakeMessage tid) =
    let m = take_of p.book tid (said_bytes (argument line 1)) in
    turn (with_book p m.book) (outcome_line taken m.answer) log chain
ready_turn p line log chain (ShowLevel buying place) =
    turn p (level_line (level_of p.book buying place)) log chain
ready_turn p line log chain ShowMean = turn p (mean_line (book_mean p.book)) log chain
ready_turn p line log chain ReceiveAll = receive_all_turn p (said_bytes (argument line 0)) log chain
ready_turn p line log chain PublishAll = publish_all_turn p (said_bytes (argument line 0)) log chain
ready_turn p line log chain Keep =
    let m = keep_of p.checkpoints p.receiver (name_in (argument line 0)) in
    turn (with_checkpoints p m.end) (saved_line m.answer) log chain
ready_turn p line log chain Return =
    let m = restore_of p.checkpoints p.receiver (name_in (argument line 0)) in
    turn (with_receiver p m.end) (restored_line m.answer) log chain

-- Before that, `buffers` is the only call.
abbrev pub start_turn : Player → List ℕ → List ℕ → Call → Turn
start_turn p log chain (Buffers size part) = layout_turn p size part log chain
start_turn p log chain Bad = bad_turn p log chain
start_turn p log chain (OpenDay date count) = bad_turn p log chain
start_turn p log chain (Publish s tid) = bad_turn p log chain
start_turn p log chain (Login s room) = bad_turn p log chain
start_turn p log chain (Send s room single) = bad_turn p log chain
start_turn p log chain (OpenEnd count) = bad_turn p log chain
start_turn p log chain Connect = bad_turn p log chain
start_turn p log chain (Ask s room) = bad_turn p log chain
start_turn p log chain (Answer s) = bad_turn p log chain
start_turn p log chain Receive = bad_turn p log chain
start_turn p log chain State = bad_turn p log chain
start_turn p log chain (SetCalendar sessions holidays) = bad_turn p log chain
start_turn p log chain (AskTime seconds) = bad_turn p log chain
start_turn p log chain (MarkDate mark) = bad_turn p log chain
start_turn p log chain StartBook = bad_turn p log chain
start_turn p log chain (TakeMessage tid) = bad_turn p log chain
start_turn p log chain (ShowLevel buying place) = bad_turn p log chain
start_turn p log chain ShowMean = bad_turn p log chain
start_turn p log chain ReceiveAll = bad_turn p log chain
start_turn p log chain PublishAll = bad_turn p log chain
start_turn p log chain Keep = bad_turn p log chain
start_turn p log chain Return = bad_turn p log chain

unfoldable pub call_turn : Player → List ℕ → List ℕ → List ℕ → Call → Turn
call_turn p line log chain call =
    cond p.ready (ready_turn p line log chain call) (start_turn p log chain call)

-- A buffer is too small for what a line of n bytes may need.
unfoldable pub lacks_room : Player → ℕ → ℕ → ℕ → ℕ → ℕ → ℕ → Bool
lacks_room p n log chain bytes out text =
    cond (ltb text 524448) true
    (cond (ltb out 65536) true
    (cond (ltb bytes n) true
    (cond (ltb ((text - 524448) / 7) (n / 2)) true
    (cond (ltb 262144 p.chain) true
    (cond (ltb log p.log) true (ltb chain p.chain))))))

-- The buffers are large enough for a call: the lengths are those of the line, the log, the chain buffer and the others.
abbrev pub Fits : Player → Call → ℕ → ℕ → ℕ → ℕ → ℕ → ℕ → Type 0
Fits p call n log chain bytes out text =
    Limited call × (n ≤ bytes) × (65536 ≤ out) × (64 + n ≤ text) × (64 + 2 * p.chain ≤ text) × (131136 ≤ text)
    × (p.log ≤ log) × (p.chain ≤ chain) × (160 + 7 * (n / 2) + 2 * p.chain ≤ text)

-- The line that the first `len` bytes of a buffer are; one longer than the buffer is no call. The last three are the
-- lengths of the other buffers; where one is too small, nothing is done.
unfoldable pub play_turn : Player → List ℕ → ℕ → List ℕ → List ℕ → ℕ → ℕ → ℕ → Turn
play_turn p line len log chain bytes out text =
    cond (lacks_room p (length line) (length log) (length chain) bytes out text) (turn p [] log chain)
    (cond (ltb (length line) len) (bad_turn (counted_player p) log chain)
    (call_turn (counted_player p) (take len line) log chain (call_of (take len line))))

-- Player and text, and every byte of log and chain buffer.
abbrev pub Plays : Turn → Played → List ℕ → List ℕ → List ℕ → List ℕ → Type 0
Plays t r before after log chain =
    Shows t.player t.said r before after × (log ≡ t.log) × (chain ≡ t.chain)

-- ─── The same of the buffers that a call is lent ───

abbrev pub PlaysOpenDay : Player → List ℕ → ℕ → ℕ → List ℕ → Played → List ℕ → List ℕ → Type 0
PlaysOpenDay p line date count log r before after =
    let t = open_day_turn p line date count log [] in
    Shows t.player t.said r before after

abbrev pub PlaysPublish : Player → ℕ → ℕ → List ℕ → List ℕ → List ℕ → Played → List ℕ → List ℕ → Type 0
PlaysPublish p s tid content log log' r before after =
    let t = publish_turn p s tid content log [] in
    Shows t.player t.said r before after × (log' ≡ t.log)

abbrev pub PlaysLogin : Player → ℕ → List ℕ → List ℕ → ℕ → Played → List ℕ → List ℕ → Type 0
PlaysLogin p s packet content room r before after =
    let t = login_turn p s packet content room [] [] in
    Shows t.player t.said r before after

abbrev pub PlaysSend : Player → ℕ → List ℕ → ℕ → Bool → Played → List ℕ → List ℕ → Type 0
PlaysSend p s log room single r before after =
    let t = either_send_turn p s room single log [] in
    Shows t.player t.said r before after

abbrev pub PlaysAsk : Player → ℕ → List ℕ → ℕ → Played → List ℕ → List ℕ → Type 0
PlaysAsk p s content room r before after =
    let t = ask_turn p s content room [] [] in
    Shows t.player t.said r before after

abbrev pub PlaysReceive : Player → List ℕ → List ℕ → List ℕ → Played → List ℕ → List ℕ → Type 0
PlaysReceive p packet chain chain' r before after =
    let t = receive_turn p packet [] chain in
    Shows t.player t.said r before after × (chain' ≡ t.chain)

abbrev pub PlaysReceiveAll : Player → List ℕ → List ℕ → List ℕ → Played → List ℕ → List ℕ → Type 0
PlaysReceiveAll p packets chain chain' r before after =
    let t = receive_all_turn p packets [] chain in
    Shows t.player t.said r before after × (chain' ≡ t.chain)

abbrev pub PlaysPublishAll : Player → List ℕ → List ℕ → List ℕ → Played → List ℕ → List ℕ → Type 0
PlaysPublishAll p records log log' r before after =
    let t = publish_all_turn p records log [] in
    Shows t.player t.said r before after × (log' ≡ t.log)
