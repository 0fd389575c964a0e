-- What the book shows after any list of calls (request No. 2), said over the list of all that was taken since Start.
use Rattle.std.specs.Prelude.{ℕ, ◌<◌, ◌≤◌, ◌≡◌, List, [], ◌∷◌, ◌++◌, Bool, true, false, cond, not, ◌&&◌, ℤ, pos, ◌+ℤ◌, ◌-ℤ◌, ◌*ℤ◌}
use Rattle.std.specs.Int.Signed.{lt_z}
use Rattle.book.specs.declared.event.Event.{Event}
use Rattle.book.specs.declared.event.Event.TheVariants.{Nothing, Quotation, Match}
use Rattle.book.specs.declared.calls.Book.{Book}
use Rattle.book.specs.Types.{Outcome}
use Rattle.book.specs.Levels.{same_price}
use Rattle.book.specs.Quantity.{twos}
use Rattle.book.specs.Sums.{mean_of}
use Rattle.book.specs.Calls.{fresh_book, start_of, take_of, events_of, level_of, book_mean}
use Rattle.std.specs.Prelude.{None, Ok, Err}
use Rattle.book.specs.Types.{some_level}

-- ─── The quantity at a price, as the request says it ───

abbrev pub same_side : Bool → Bool → Bool
same_side true b = b
same_side false b = not b

-- A side's quantity at a price after one event more: an absolute one; an increment added; a match's volume taken where
-- a level stood; anything else leaves it.
unfoldable pub changed : Bool → ℤ → ℤ → Event → ℤ
changed buying p q Nothing = q
changed buying p q (Quotation absolute side o) =
    cond (same_side buying side && same_price o.price p) (cond absolute (pos o.quantity) (q +ℤ twos o.quantity)) q
changed buying p q (Match o) = cond (same_price o.price p && lt_z (pos 0) q) (q -ℤ pos o.quantity) q

-- Event after event.
abbrev pub over : (ℤ → Event → ℤ) → ℤ → List Event → ℤ
over f q [] = q
over f q (e ∷ es) = over f (f q e) es

-- The last absolute one, or 0, plus the increments since, less the match volumes since where a level stood.
abbrev pub quantity_of : List Event → Bool → ℤ → ℤ
quantity_of es buying p = over (changed buying p) (pos 0) es

-- The sums over all matches: price times volume, and volume.
unfoldable pub more_turnover : ℤ → Event → ℤ
more_turnover t Nothing = t
more_turnover t (Quotation absolute side o) = t
more_turnover t (Match o) = t +ℤ o.price *ℤ pos o.quantity

unfoldable pub more_volume : ℤ → Event → ℤ
more_volume t Nothing = t
more_volume t (Quotation absolute side o) = t
more_volume t (Match o) = t +ℤ pos o.quantity

abbrev pub turnover_of : List Event → ℤ
turnover_of es = over more_turnover (pos 0) es

abbrev pub volume_of : List Event → ℤ
volume_of es = over more_volume (pos 0) es

-- ─── Lists of calls ───

pub data Call : Type 0 where
  start : List ℕ → Call
  take : ℕ → List ℕ → Call

-- The book, and all events taken since the last Start, those of refused messages aside.
pub record World : Type 0 where
  pub book : Book
  pub taken : List Event

abbrev pub world : Book → List Event → World
world b es = record { book = b; taken = es }

-- What an answer leaves of the list: the new one, or the old one.
abbrev pub list_after : Outcome → List Event → List Event → List Event
list_after (Ok tt) new old = new
list_after (Err r) new old = old

unfoldable pub made : World → Call → World
made w (start code) =
    world (start_of w.book code).book (list_after (start_of w.book code).answer [] w.taken)
made w (take tid content) =
    world (take_of w.book tid content).book
    (list_after (take_of w.book tid content).answer (w.taken ++ events_of w.book.code tid content) w.taken)

abbrev pub after : World → List Call → World
after w [] = w
after w (c ∷ cs) = after (made w c) cs

-- ─── The theorem ───

pub record Shows (b : Book) (es : List Event) : Type 0 where
  -- What is listed on a side is the quantity at its price, and above zero.
  pub listed : (buying : Bool) (i : ℕ) (p : ℤ) (n : ℕ) → level_of b buying i ≡ some_level p n
      → (quantity_of es buying p ≡ pos n) × (0 < n)
  -- Each that is above zero is listed.
  pub all : (buying : Bool) (p : ℤ) (n : ℕ) → quantity_of es buying p ≡ pos n → 0 < n
      → (i : ℕ) × (level_of b buying i ≡ some_level p n)
  -- None is below zero.
  pub quantities : (buying : Bool) (p : ℤ) → (n : ℕ) × (quantity_of es buying p ≡ pos n)
  -- Best first, without a gap: before a level of the buying side stands one with a higher price,
  pub from_highest : (i j : ℕ) (p : ℤ) (n : ℕ) → i < j → level_of b true j ≡ some_level p n
      → (r : ℤ) × (m : ℕ) × (level_of b true i ≡ some_level r m) × (lt_z p r ≡ true)
  -- and of the selling side one with a lower price.
  pub from_lowest : (i j : ℕ) (p : ℤ) (n : ℕ) → i < j → level_of b false j ≡ some_level p n
      → (r : ℤ) × (m : ℕ) × (level_of b false i ≡ some_level r m) × (lt_z r p ≡ true)
  -- At most 64.
  pub few : (buying : Bool) (i : ℕ) → 64 ≤ i → level_of b buying i ≡ None
  -- The mean is that of the two sums.
  pub mean : book_mean b ≡ mean_of (turnover_of es) (volume_of es)

-- After every list of calls, refused ones included.
pub record BookAgreement : Type 0 where
  pub shows : (calls : List Call)
      → Shows (after (world fresh_book []) calls).book (after (world fresh_book []) calls).taken
