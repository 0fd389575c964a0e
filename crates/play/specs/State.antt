-- Both ends and the named places as lines, for people.
use Rattle.std.specs.Prelude.{ℕ, zero, suc, ◌/◌, ◌%◌, List, [], ◌∷◌, ◌++◌, Bool, cond, length, get_or, ltb, eqb}
use Rattle.ftd.specs.Types.{TradeDate}
use Rattle.flow.specs.declared.sender.DaySeries.{DaySeries}
use Rattle.flow.specs.declared.sender.Place.{Place}
use Rattle.flow.specs.declared.sender.Sender.{Sender}
use Rattle.flow.specs.declared.receiver.KeptSeries.{KeptSeries}
use Rattle.flow.specs.declared.receiver.Kept.{Kept}
use Rattle.flow.specs.declared.receiver.LiveSeries.{LiveSeries}
use Rattle.flow.specs.declared.receiver.Receiver.{Receiver}
use Rattle.flow.specs.declared.checkpoint.Checkpoint.{Checkpoint}
use Rattle.flow.specs.declared.checkpoint.Checkpoints.{Checkpoints}
use Rattle.flow.specs.Ends.{no_series, no_place, new_kept, no_live}
use Rattle.flow.specs.Checkpoints.{most_letters, used_names}
use Rattle.listing.specs.Text.{decimal_of}
use Rattle.play.specs.Lines.{gap, word_line, numbered, none}
use Rattle.std.specs.Prelude.{Some, None}

-- ─── Words ───

abbrev pub serving : List ℕ
serving = 115 ∷ 101 ∷ 114 ∷ 118 ∷ 105 ∷ 110 ∷ 103 ∷ []

abbrev pub receiving : List ℕ
receiving = 114 ∷ 101 ∷ 99 ∷ 101 ∷ 105 ∷ 118 ∷ 105 ∷ 110 ∷ 103 ∷ []

abbrev pub series : List ℕ
series = 115 ∷ 101 ∷ 114 ∷ 105 ∷ 101 ∷ 115 ∷ []

abbrev pub published_word : List ℕ
published_word = 112 ∷ 117 ∷ 98 ∷ 108 ∷ 105 ∷ 115 ∷ 104 ∷ 101 ∷ 100 ∷ []

abbrev pub used_word : List ℕ
used_word = 32 ∷ 117 ∷ 115 ∷ 101 ∷ 100 ∷ 32 ∷ []

abbrev pub reserve_word : List ℕ
reserve_word = 32 ∷ 114 ∷ 101 ∷ 115 ∷ 101 ∷ 114 ∷ 118 ∷ 101 ∷ 32 ∷ []

abbrev pub last_word : List ℕ
last_word = 108 ∷ 97 ∷ 115 ∷ 116 ∷ []

abbrev pub next_word : List ℕ
next_word = 32 ∷ 110 ∷ 101 ∷ 120 ∷ 116 ∷ 32 ∷ []

abbrev pub piece_word : List ℕ
piece_word = 32 ∷ 112 ∷ 105 ∷ 101 ∷ 99 ∷ 101 ∷ 32 ∷ []

abbrev pub out_word : List ℕ
out_word = 111 ∷ 117 ∷ 116 ∷ []

abbrev pub is_in : List ℕ
is_in = 32 ∷ 105 ∷ 110 ∷ []

abbrev pub is_out : List ℕ
is_out = 32 ∷ 111 ∷ 117 ∷ 116 ∷ []

abbrev pub chain_word : List ℕ
chain_word = 32 ∷ 99 ∷ 104 ∷ 97 ∷ 105 ∷ 110 ∷ 32 ∷ []

abbrev pub no_chain : List ℕ
no_chain = 32 ∷ 99 ∷ 104 ∷ 97 ∷ 105 ∷ 110 ∷ 32 ∷ 110 ∷ 111 ∷ 110 ∷ 101 ∷ []

abbrev pub places_word : List ℕ
places_word = 112 ∷ 108 ∷ 97 ∷ 99 ∷ 101 ∷ 115 ∷ []

abbrev pub place_gap : List ℕ
place_gap = 112 ∷ 108 ∷ 97 ∷ 99 ∷ 101 ∷ 32 ∷ []

-- A trade date, or `none`.
abbrev pub date_text : TradeDate → List ℕ
date_text None = none
date_text (Some d) = decimal_of d

-- The lines of the first n places.
unfoldable pub lines_up_to : (ℕ → List ℕ) → ℕ → List ℕ
lines_up_to line zero = []
lines_up_to line (suc n) = lines_up_to line n ++ line n

-- A count above 8 is 8.
unfoldable pub shown_places : ℕ → ℕ
shown_places count = cond (ltb count 8) count 8

-- ─── The serving end ───

-- `serving`, its trade date, the bytes of the log in use.
unfoldable pub serving_line : Sender → List ℕ
serving_line e = word_line (serving ++ gap ++ date_text e.day.date ++ gap ++ decimal_of e.day.used)

-- The number sent next, or `out` where nobody is logged in.
unfoldable pub next_text : Place → List ℕ
next_text place = cond place.login (decimal_of place.next) out_word

-- ` next N piece K`: how many packets of message N were written one by one.
unfoldable pub place_text : Place → List ℕ
place_text place = next_word ++ next_text place ++ piece_word ++ decimal_of place.piece

-- ` used U reserve R`: the bytes that its entries take, and its reserve (02, No. 11).
unfoldable pub share_text : DaySeries → List ℕ
share_text one = used_word ++ decimal_of one.used ++ reserve_word ++ decimal_of one.reserve

-- `series S published P`.
unfoldable pub served_text : DaySeries → List ℕ
served_text one = numbered series one.series ++ gap ++ numbered published_word one.published

-- `series S published P used U reserve R next N piece K`.
unfoldable pub served_line : DaySeries → Place → List ℕ
served_line one place = word_line (served_text one ++ share_text one ++ place_text place)

abbrev pub served_at : List DaySeries → List Place → ℕ → List ℕ
served_at series places i = served_line (get_or series i no_series) (get_or places i no_place)

unfoldable pub served_lines : Sender → List ℕ
served_lines e = lines_up_to (served_at e.day.series e.seat.places) (shown_places e.day.count)

-- ─── The receiving end ───

-- `receiving`, how many series are open.
unfoldable pub receiving_line : Receiver → List ℕ
receiving_line e = word_line (numbered receiving e.kept.count)

-- Logged in or not.
unfoldable pub login_text : Bool → List ℕ
login_text login = cond login is_in is_out

-- The content bytes held of an open chain and how many pieces they are (02, No. 10), or `none`.
unfoldable pub held_text : ℕ → ℕ → List ℕ
held_text held pieces = chain_word ++ decimal_of held ++ gap ++ decimal_of pieces

unfoldable pub chain_text : Bool → ℕ → ℕ → List ℕ
chain_text chain held pieces = cond chain (held_text held pieces) no_chain

-- `series S DATE last L`.
unfoldable pub kept_text : KeptSeries → List ℕ
kept_text one =
    numbered series one.series ++ gap ++ date_text one.date ++ gap ++ numbered last_word one.last

-- `in chain HELD PIECES`.
unfoldable pub live_text : LiveSeries → List ℕ
live_text line = word_line (login_text line.login ++ chain_text line.chain line.held line.pieces)

unfoldable pub kept_line : KeptSeries → LiveSeries → List ℕ
kept_line one line = kept_text one ++ live_text line

abbrev pub kept_at : List KeptSeries → List LiveSeries → ℕ → List ℕ
kept_at kept live i = kept_line (get_or kept i (new_kept 0)) (get_or live i no_live)

unfoldable pub kept_lines : Receiver → List ℕ
kept_lines e = lines_up_to (kept_at e.kept.series e.live.series) (shown_places e.kept.count)

-- ─── The named places (02, No. 13) ───

-- The letters that a number says: its bytes from the lowest on, up to the first that is 0, and at most so many.
unfoldable pub letters_in : ℕ → ℕ → List ℕ
letters_in zero code = []
letters_in (suc most) code = cond (eqb (code % 256) 0) [] (code % 256 ∷ letters_in most (code / 256))

abbrev pub name_text : ℕ → List ℕ
name_text code = letters_in most_letters code

-- `place NAME`.
unfoldable pub named_line : ℕ → List ℕ
named_line code = word_line (place_gap ++ name_text code)

-- `series S DATE last L`, of each series that was open at the keeping.
unfoldable pub saved_series : KeptSeries → List ℕ
saved_series one = word_line (kept_text one)

abbrev pub saved_at : List KeptSeries → ℕ → List ℕ
saved_at series i = saved_series (get_or series i (new_kept 0))

unfoldable pub saved_lines : Kept → List ℕ
saved_lines kept = lines_up_to (saved_at kept.series) (shown_places kept.count)

unfoldable pub checkpoint_lines : Checkpoint → List ℕ
checkpoint_lines one = named_line one.name ++ saved_lines one.kept

-- Stands behind the last of the places; it is never shown.
abbrev pub no_checkpoint : Checkpoint
no_checkpoint = record { name = 0; kept = record { count = 0; series = [] } }

abbrev pub checkpoint_at : List Checkpoint → ℕ → List ℕ
checkpoint_at places i = checkpoint_lines (get_or places i no_checkpoint)

-- Of each name in use, in the order in which they came first.
unfoldable pub all_checkpoints : Checkpoints → List ℕ
all_checkpoints c = lines_up_to (checkpoint_at c.places) (length (used_names c))

-- `places`, how many names are in use.
unfoldable pub places_line : Checkpoints → List ℕ
places_line c = word_line (numbered places_word (length (used_names c)))

unfoldable pub places_lines : Checkpoints → List ℕ
places_lines c = places_line c ++ all_checkpoints c

-- ─── All ───

-- A line for each end, and one for each of its open series, in the opening's order; then the named places.
unfoldable pub state_lines : Sender → Receiver → Checkpoints → List ℕ
state_lines sender receiver checkpoints =
    serving_line sender ++ served_lines sender ++ receiving_line receiver ++ kept_lines receiver ++ places_lines checkpoints
