-- The order of two serving ends with their logs, for a series (02, No. 14): the same, one a start of the other, or the
-- first number with another TID or content. Of an end only its day counts, of the log its used part up to the series'
-- last entry: nothing is changed, seats and outputs play no part.
--
-- One walk of each log gives the messages of the series (`logged`), and then the two lists are gone along side by side
-- (`order_from`): so much work is enough.
use Rattle.std.specs.Prelude.{ℕ, suc, ◌<◌, ◌≡◌, ◌⊎◌, ◌↔◌, List, [], ◌∷◌, ◌++◌, Bool, true, false, cond, not, ◌&&◌, ◌||◌, length, take, eqb}
use Rattle.std.proofs.Math.Option.{Option, none, some}
use Rattle.std.proofs.Math.ListN.{get_elem?}
use Rattle.ftd.specs.Bench.{same}
use Rattle.ftd.specs.declared.refusal.Refusal.{Refusal}
use Rattle.ftd.specs.declared.refusal.Refusal.TheVariants.{UnknownSeries, OtherDay, DamagedLog}
use Rattle.ftd.specs.Types.{TradeDate}
use Rattle.flow.specs.declared.sender.Day.{Day}
use Rattle.flow.specs.declared.sender.Seat.{Seat}
use Rattle.flow.specs.declared.sender.Sender.{Sender}
use Rattle.flow.specs.declared.order.Order.{Order}
use Rattle.flow.specs.declared.order.Order.TheVariants.{Same, FirstStarts, SecondStarts, Differ, Refused}
use Rattle.flow.specs.Ends.{◌when◌else◌, is_served, published_of}
use Rattle.flow.specs.Log.{entry_series, entry_tid, entry_content, log_short, entries_of, strange_series, nonzero}
use Rattle.flow.specs.Log.{misnumbered, misshapen, is_wanted, entry_of}
use Rattle.flow.specs.Answers.{Message}
use Rattle.flow.specs.World.{Event, start, run}
use Rattle.flow.specs.Agreement.{of}
use Rattle.std.specs.Prelude.{Some, None}

-- ─── The messages of a series, read off a log ───

abbrev pub message_of : List ℕ → Message
message_of x = record { tid = entry_tid x; content = entry_content x }

-- One in front of what is read off the rest, if it is of the series.
abbrev pub ahead : Bool → Message → Option (List Message) → Option (List Message)
ahead here m none = none
ahead here m (some l) = some (cond here (m ∷ l) l)

-- Up to number n of series s, with the tests of Send's walk (`walk`, Log): none where it would find damage on the way.
abbrev pub gather : Sender → ℕ → ℕ → List ℕ → List (List ℕ) → Option (List Message)
gather e s n earlier [] = none
gather e s n earlier (x ∷ xs) =
    none when strange_series e x else
    none when nonzero x else
    none when misnumbered earlier x else
    none when misshapen x else
    some (message_of x ∷ []) when is_wanted s n x else
    ahead (eqb (entry_series x) s) (message_of x) (gather e s n (entry_series x ∷ earlier) xs)

-- Where nothing is published in the series, there is no last entry, and no damage is found.
unfoldable pub logged : Sender → List ℕ → ℕ → Option (List Message)
logged e log s =
    some [] when eqb (published_of e s) 0 else
    none when log_short e log else
    gather e s (published_of e s) [] (entries_of e log)

-- ─── Two lists side by side ───

abbrev pub same_message : Message → Message → Bool
same_message x y = eqb x.tid y.tid && same x.content y.content

-- From number k on.
abbrev pub order_from : ℕ → List Message → List Message → Order
order_from k [] [] = Same
order_from k [] (y ∷ m) = FirstStarts
order_from k (x ∷ l) [] = SecondStarts
order_from k (x ∷ l) (y ∷ m) = order_from (suc k) l m when same_message x y else Differ k

-- 20: damage in either.
abbrev pub order_read : Option (List Message) → Option (List Message) → Order
order_read none o = Refused DamagedLog
order_read (some l) none = Refused DamagedLog
order_read (some l) (some m) = order_from 1 l m

-- ─── The order: series; two ends, each with its log ───

-- 15: the trade dates differ.
abbrev pub other_date : TradeDate → TradeDate → Bool
other_date None None = false
other_date None (Some e) = true
other_date (Some d) None = true
other_date (Some d) (Some e) = not (eqb d e)

unfoldable pub order_of : ℕ → Sender → List ℕ → Sender → List ℕ → Order
order_of s a log b other =
    Refused UnknownSeries when not (is_served a s) || not (is_served b s) else
    Refused OtherDay when other_date a.day.date b.day.date else
    order_read (logged a log s) (logged b other s)

-- ─── What it means ───

-- First and second exchanged.
abbrev pub swapped : Order → Order
swapped Same = Same
swapped FirstStarts = SecondStarts
swapped SecondStarts = FirstStarts
swapped (Differ k) = Differ k
swapped (Refused r) = Refused r

-- l is a start of m; a proper one.
abbrev pub Start : List Message → List Message → Type 0
Start l m = (more : List Message) × (m ≡ l ++ more)

abbrev pub ProperStart : List Message → List Message → Type 0
ProperStart l m = (x : Message) × (more : List Message) × (m ≡ l ++ (x ∷ more))

-- The first i are the same, both have one behind them, number i + 1, and these are not the same.
pub record DifferAt (l m : List Message) (k : ℕ) : Type 0 where
  pub before : ℕ
  pub number : k ≡ suc before
  pub alike : take before l ≡ take before m
  pub first : Message
  pub second : Message
  pub in-first : get_elem? l before ≡ some first
  pub in-second : get_elem? m before ≡ some second
  pub differ : first ≡ second → ⊥

-- What an entry that Send finds says.
abbrev pub message_in : Option (List ℕ) → Option Message
message_in none = none
message_in (some x) = some (message_of x)

-- Send of the series' last entry would find damage.
abbrev pub FindsDamage : Sender → List ℕ → ℕ → Type 0
FindsDamage e log s = (0 < published_of e s) × (entry_of e log s (published_of e s) ≡ none)

-- The ends are comparable in a series, and these are their lists.
pub record Compares (s : ℕ) (a : Sender) (log : List ℕ) (b : Sender) (other : List ℕ) (l m : List Message) : Type 0
  where
    pub first-open : is_served a s ≡ true
    pub second-open : is_served b s ≡ true
    pub day : a.day.date ≡ b.day.date
    pub first : logged a log s ≡ some l
    pub second : logged b other s ≡ some m

pub record OrderLaws : Type 0 where
  -- 20 exactly where Send of the series' last entry would find damage.
  pub damaged : (e : Sender) (log : List ℕ) (s : ℕ)
      → (logged e log s ≡ none) ↔ FindsDamage e log s
  -- Otherwise the list is what Send finds: as many as are published, number i + 1 at place i.
  pub count : (e : Sender) (log : List ℕ) (s : ℕ) (l : List Message) → logged e log s ≡ some l
      → length l ≡ published_of e s
  pub entries : (e : Sender) (log : List ℕ) (s : ℕ) (l : List Message) → logged e log s ≡ some l
      → (i : ℕ) → i < length l → message_in (entry_of e log s (suc i)) ≡ get_elem? l i
  -- An answer that is no refusal is the order of the two lists.
  pub compares : (s : ℕ) (a : Sender) (log : List ℕ) (b : Sender) (other : List ℕ) (l m : List Message)
      → Compares s a log b other l m → order_of s a log b other ≡ order_from 1 l m
  pub compared : (s : ℕ) (a : Sender) (log : List ℕ) (b : Sender) (other : List ℕ)
      → ((r : Refusal) × (order_of s a log b other ≡ Refused r))
      ⊎ ((l : List Message) × (m : List Message) × Compares s a log b other l m)
  -- Which refusal is given: 13, 15 and 20, each exactly if; no other one ever is.
  pub unknown : (s : ℕ) (a : Sender) (log : List ℕ) (b : Sender) (other : List ℕ)
      → (order_of s a log b other ≡ Refused UnknownSeries) ↔ ((is_served a s ≡ false) ⊎ (is_served b s ≡ false))
  pub other-day : (s : ℕ) (a : Sender) (log : List ℕ) (b : Sender) (other : List ℕ)
      → (order_of s a log b other ≡ Refused OtherDay)
      ↔ ((is_served a s ≡ true) × (is_served b s ≡ true) × (a.day.date ≡ b.day.date → ⊥))
  pub damaged-log : (s : ℕ) (a : Sender) (log : List ℕ) (b : Sender) (other : List ℕ)
      → (order_of s a log b other ≡ Refused DamagedLog)
      ↔ ((is_served a s ≡ true) × (is_served b s ≡ true) × (a.day.date ≡ b.day.date)
      × (FindsDamage a log s ⊎ FindsDamage b other s))
  pub no_other : (s : ℕ) (a : Sender) (log : List ℕ) (b : Sender) (other : List ℕ) (r : Refusal)
      → order_of s a log b other ≡ Refused r → (r ≡ UnknownSeries) ⊎ ((r ≡ OtherDay) ⊎ (r ≡ DamagedLog))
  -- What each answer says of the lists.
  pub same_lists : (l m : List Message) → (order_from 1 l m ≡ Same) ↔ (l ≡ m)
  pub first-starts : (l m : List Message) → (order_from 1 l m ≡ FirstStarts) ↔ ProperStart l m
  pub second-starts : (l m : List Message) → (order_from 1 l m ≡ SecondStarts) ↔ ProperStart m l
  pub differ-at : (l m : List Message) (k : ℕ) → (order_from 1 l m ≡ Differ k) ↔ DifferAt l m k
  -- Of itself; exchanged.
  pub itself : (s : ℕ) (e : Sender) (log : List ℕ)
      → (order_of s e log e log ≡ Same) ⊎ ((r : Refusal) × (order_of s e log e log ≡ Refused r))
  pub exchanged : (s : ℕ) (a : Sender) (log : List ℕ) (b : Sender) (other : List ℕ)
      → order_of s b other a log ≡ swapped (order_of s a log b other)
  -- Of three ends: the same as the same is the same, a start of a start is a start.
  pub same-on : (s : ℕ) (a b c : Sender) (log other third : List ℕ) → order_of s a log b other ≡ Same
      → order_of s b other c third ≡ Same → order_of s a log c third ≡ Same
  pub start-on : (s : ℕ) (a b c : Sender) (log other third : List ℕ) → order_of s a log b other ≡ FirstStarts
      → order_of s b other c third ≡ FirstStarts → order_of s a log c third ≡ FirstStarts
  -- Seats play no part.
  pub seats : (s : ℕ) (day : Day) (x y : Seat) (log : List ℕ) (b : Sender) (other : List ℕ)
      → order_of s (record { day = day; seat = x }) log b other ≡ order_of s (record { day = day; seat = y }) log b other
  -- Two starts of one list never differ (so two boxes behind one exchange don't, on one day).
  pub starts : (l m p : List Message) → Start l p → Start m p → (k : ℕ) → order_from 1 l m ≡ Differ k → ⊥
  -- Of two ends that calls have made, each with its own log: the order is that of what was published, and never 20.
  pub made : (log buffer other buffer' : List ℕ) (es fs : List Event) (s d : ℕ) →
      let v = (run (start log buffer) es).serving in
      let u = (run (start other buffer') fs).serving in
      v.day ≡ Some d → u.day ≡ Some d → is_served v.end s ≡ true → is_served u.end s ≡ true
      → order_of s v.end v.log u.end u.log ≡ order_from 1 (of s d v.published) (of s d u.published)
  pub undamaged : (log buffer other buffer' : List ℕ) (es fs : List Event) (s : ℕ) →
      let v = (run (start log buffer) es).serving in
      let u = (run (start other buffer') fs).serving in
      order_of s v.end v.log u.end u.log ≡ Refused DamagedLog → ⊥
