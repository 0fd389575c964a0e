-- The book of a contract and its calls (request No. 2): Start, Take, Level and Mean.
use Rattle.std.specs.Prelude.{ℕ, ◌-◌, ◌≤◌, ◌≡◌, List, [], ◌∷◌, map, Bool, true, false, cond, ◌&&◌, length, replicate, ℤ, ltb, eqb}
use Rattle.ftd.specs.Fields.{fields_of, most_content}
use Rattle.ftd.specs.Content.{content_check}
use Rattle.ftd.specs.Table.{string_kind}
use Rattle.ftd.specs.Values.{is_value}
use Rattle.ftd.specs.declared.composition.Direction.TheVariants.{Down}
use Rattle.ftd.specs.Types.{Checked}
use Rattle.ftd.specs.declared.refusal.Refusal.{Refusal}
use Rattle.ftd.specs.declared.refusal.Refusal.TheVariants.{Item, Quantity, Levels, Volume}
use Rattle.book.specs.declared.levels.Level.{Level}
use Rattle.book.specs.declared.levels.Side.{Side}
use Rattle.book.specs.declared.event.Event.{Event}
use Rattle.book.specs.declared.event.Event.TheVariants.{Nothing, Quotation, Match}
use Rattle.book.specs.Types.{Quantity as NewQuantity}
use Rattle.book.specs.declared.sums.Sums.{Sums}
use Rattle.book.specs.Types.{Totals}
use Rattle.book.specs.Types.{Mean}
use Rattle.book.specs.declared.calls.Book.{Book}
use Rattle.book.specs.Types.{Outcome}
use Rattle.book.specs.declared.calls.Step.{Step}
use Rattle.book.specs.declared.calls.SideStep.{SideStep}
use Rattle.book.specs.Levels.{no_levels, level_in, is_full, quantity_at, placed}
use Rattle.book.specs.Event.{event_of}
use Rattle.book.specs.Quantity.{new_of, lacks}
use Rattle.book.specs.Sums.{no_sums, summed_with, mean_of}
use Rattle.std.specs.Prelude.{Some, None, Ok, Err}
use Rattle.book.specs.Types.{MaybeLevel}

-- ─── Start ───

-- No level, and nothing matched.
abbrev pub started : List ℕ → Book
started code = record { code = code; buying = no_levels; selling = no_levels; sums = no_sums }

-- Of no contract: ten bytes that are no code.
abbrev pub fresh_book : Book
fresh_book = started (replicate 10 0)

-- A value of InstrumentId: a String of ten bytes.
abbrev pub is_code : List ℕ → Bool
is_code code = eqb (length code) 10 && is_value string_kind 0 code

abbrev pub done : Book → Step
done b = record { book = b; answer = (Ok tt) }

abbrev pub refusing : Book → Refusal → Step
refusing b r = record { book = b; answer = Err r }

unfoldable pub start_of : Book → List ℕ → Step
start_of b code = cond (is_code code) (done (started code)) (refusing b Item)

-- ─── A quotation ───

-- 23: a 65th level above zero.
unfoldable pub one_more : Side → ℕ → ℕ → Bool
one_more side old n = cond (eqb n 0) false (cond (eqb old 0) (is_full side) false)

-- 22: the new quantity is none; 23; else it is put at its price.
abbrev pub quote_with : Side → Bool → ℤ → ℕ → NewQuantity → SideStep
quote_with side buying p old None = record { side = side; answer = Err Quantity }
quote_with side buying p old (Some n) =
    cond (one_more side old n) (record { side = side; answer = Err Levels })
    (record { side = placed buying p n side; answer = (Ok tt) })

unfoldable pub quote_on : Side → Bool → Bool → Level → SideStep
quote_on side absolute buying o =
    quote_with side buying o.price (quantity_at buying o.price side)
    (new_of absolute (quantity_at buying o.price side) o.quantity)

abbrev pub with_buying : Book → SideStep → Step
with_buying b s = record {
  book = record { code = b.code; buying = s.side; selling = b.selling; sums = b.sums };
  answer = s.answer;
}

abbrev pub with_selling : Book → SideStep → Step
with_selling b s = record {
  book = record { code = b.code; buying = b.buying; selling = s.side; sums = b.sums };
  answer = s.answer;
}

unfoldable pub quotation_on : Book → Bool → Bool → Level → Step
quotation_on b absolute buying o =
    cond buying (with_buying b (quote_on b.buying absolute true o)) (with_selling b (quote_on b.selling absolute false o))

-- ─── A match ───

-- Its volume is taken from the level at its price, where one stands.
unfoldable pub lowered : Bool → Level → Side → Side
lowered buying o side =
    cond (eqb (quantity_at buying o.price side) 0) side
    (placed buying o.price (quantity_at buying o.price side - o.quantity) side)

-- 22: on either side a level stands and has less; 24: a volume above 1,000,000.
unfoldable pub match_check : Book → Level → Outcome
match_check b o =
    cond (lacks (quantity_at true o.price b.buying) o.quantity) (Err Quantity)
    (cond (lacks (quantity_at false o.price b.selling) o.quantity) (Err Quantity)
    (cond (ltb 1000000 o.quantity) (Err Volume) (Ok tt)))

-- Both sides are lowered, and the sums go on.
abbrev pub matched_with : Book → Level → Sums → Book
matched_with b o sums = record {
  code = b.code;
  buying = lowered true o b.buying;
  selling = lowered false o b.selling;
  sums = sums;
}

-- 24: a sum beyond its limit.
abbrev pub match_with : Book → Level → Totals → Step
match_with b o None = refusing b Volume
match_with b o (Some sums) = done (matched_with b o sums)

unfoldable pub match_summed : Book → Level → Step
match_summed b o = match_with b o (summed_with b.sums o)

abbrev pub checked_match : Outcome → Book → Step → Step
checked_match (Ok tt) b s = s
checked_match (Err r) b s = refusing b r

unfoldable pub match_on : Book → Level → Step
match_on b o = checked_match (match_check b o) b (match_summed b o)

-- What a match that passed the check finds, for the code.
abbrev pub Takes : Book → Level → Outcome → Type 0
Takes b o (Ok tt) =
    (lacks (quantity_at true o.price b.buying) o.quantity ≡ false)
    × (lacks (quantity_at false o.price b.selling) o.quantity ≡ false)
    × (o.quantity ≤ 1000000)
Takes b o (Err r) = Unit

-- ─── Take ───

-- What an event does to the book.
unfoldable pub applied : Book → Event → Step
applied b Nothing = done b
applied b (Quotation absolute buying o) = quotation_on b absolute buying o
applied b (Match o) = match_on b o

-- After a step: the next one, or the refusal.
abbrev pub go_on : Outcome → Step → Step → Step
go_on (Ok tt) s next = next
go_on (Err r) s next = s

-- Events in order, each on the book as those before it left it, up to the first that is refused.
abbrev pub walked : Book → List Event → Step
walked b [] = done b
walked b (e ∷ es) = go_on (applied b e).answer (applied b e) (walked (applied b e).book es)

-- The events of a message.
unfoldable pub events_of : List ℕ → ℕ → List ℕ → List Event
events_of code tid content = map (event_of code tid) (fields_of content)

-- A refused message leaves the whole book, fields already walked included.
abbrev pub or_kept : Book → Outcome → Step → Step
or_kept b (Ok tt) s = s
or_kept b (Err r) s = refusing b r

-- 7 to 10 first.
abbrev pub checked_then : Checked → Book → Step → Step
checked_then (Ok tt) b s = s
checked_then (Err r) b s = refusing b r

unfoldable pub take_of : Book → ℕ → List ℕ → Step
take_of b tid content =
    checked_then (content_check tid Down content most_content) b
    (or_kept b (walked b (events_of b.code tid content)).answer (walked b (events_of b.code tid content)))

-- ─── Level and Mean ───

unfoldable pub level_of : Book → Bool → ℕ → MaybeLevel
level_of b buying i = level_in (cond buying b.buying b.selling) i

unfoldable pub book_mean : Book → Mean
book_mean b = mean_of b.sums.turnover b.sums.volume
