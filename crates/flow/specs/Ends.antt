-- The two ends: fresh, looked up and changed in one place (01, "The serving end", "The receiving end"); and the form in
-- which the calls are defined. A state is the record of its struct; of an array of 8 the first `count` are in use.
--
-- Every state counts, also one that no call has made: each definition says something of any end. A count above 8 is 8;
-- where a series stands twice, its first place counts; what is looked up of a series that is not open is an unused
-- place or the default, and shows in no answer. In the states that calls make, the count is at most 8, the open series
-- differ and none is 0, a series that is not logged in has no chain, no more than 1,000,000 are published and no last
-- is above that.
use Rattle.std.specs.Prelude.{ℕ, suc, ◌+◌, ◌-◌, ◌*◌, List, [], ◌∷◌, ◌++◌, map, Bool, true, false, cond, not, ◌&&◌, ◌||◌, length, get_or, take, drop, set, replicate, ltb, leb, eqb}
use Rattle.ftd.specs.Fields.{most_content, packet_content}
use Rattle.ftd.specs.Types.{TradeDate}
use Rattle.flow.specs.declared.limits.Limits.{Limits}
use Rattle.flow.specs.declared.sender.DaySeries.{DaySeries}
use Rattle.flow.specs.declared.sender.Place.{Place}
use Rattle.flow.specs.declared.sender.Sender.{Sender}
use Rattle.flow.specs.declared.receiver.KeptSeries.{KeptSeries}
use Rattle.flow.specs.declared.receiver.LiveSeries.{LiveSeries}
use Rattle.flow.specs.declared.receiver.Receiver.{Receiver}
use Rattle.std.specs.Prelude.{Some, None}

-- ─── The form of a call's definition ───

-- `x when test else y`: a call is a row of these in the refusal table's order, and the first test that holds decides.
infixr 15 ◌when◌else◌
abbrev pub ◌when◌else◌ : {A : Type 0} → A → Bool → A → A
x when test else y = cond test x y

-- What a call leaves: its answer and the end; and, of a call that is lent a buffer to write, every byte of that.
pub record Left (End Answer : Type 0) : Type 0 where
  pub end : End
  pub answer : Answer

pub record Wrote (End Answer : Type 0) : Type 0 where
  pub end : End
  pub answer : Answer
  pub bytes : List ℕ

abbrev pub left : {E A : Type 0} → E → A → Left E A
left e a = record { end = e; answer = a }

abbrev pub wrote : {E A : Type 0} → E → A → List ℕ → Wrote E A
wrote e a l = record { end = e; answer = a; bytes = l }

-- Bytes written to an output's start: what was behind them stays (clause a).
abbrev pub over : List ℕ → List ℕ → List ℕ
over bytes out = bytes ++ drop (length bytes) out

-- ─── Limits ───

abbrev pub most_series : ℕ
most_series = 8

-- The content given to Ask: with the start field of 12 bytes behind it, one packet holds it.
abbrev pub request_content : ℕ
request_content = 4068

-- Messages a series and day.
abbrev pub most_messages : ℕ
most_messages = 1000000

-- Pieces of a chain are counted so far and no further (02, No. 10): one more than a packet's place can be, so that from
-- there on no place agrees.
abbrev pub most_pieces : ℕ
most_pieces = 65536

-- The limits of each end, for the constants of its type.
abbrev pub sender_limits : Limits
sender_limits = record { series = most_series; messages = most_messages; content = most_content; login = packet_content }

abbrev pub receiver_limits : Limits
receiver_limits = record { series = most_series; messages = most_messages; content = most_content; login = request_content }

-- ─── Series by number ───

-- It stands in the list; and at which place, the list's length where it does not.
abbrev pub member : ℕ → List ℕ → Bool
member s [] = false
member s (x ∷ l) = eqb x s || member s l

abbrev pub index_of : ℕ → List ℕ → ℕ
index_of s [] = 0
index_of s (x ∷ l) = cond (eqb x s) 0 (suc (index_of s l))

abbrev pub differing : List ℕ → Bool
differing [] = true
differing (x ∷ l) = not (member x l) && differing l

-- 11, in both openings: not 1 to 8 differing series from 1 up.
unfoldable pub wrong_series : List ℕ → Bool
wrong_series ss = eqb (length ss) 0 || ltb most_series (length ss) || member 0 ss || not (differing ss)

-- An array's places: the first ones given, the others empty.
abbrev pub filled : {A : Type 0} → A → List A → List A
filled none l = l ++ replicate (most_series - length l) none

-- ─── Trade dates (01: marks) ───

-- Both are there, and the first is below the second; or at most as high.
abbrev pub before : TradeDate → TradeDate → Bool
before None e = false
before (Some d) None = false
before (Some d) (Some e) = ltb d e

abbrev pub up_to : ℕ → TradeDate → Bool
up_to d None = false
up_to d (Some e) = leb d e

-- There is one, and it is not the other.
abbrev pub differs : TradeDate → TradeDate → Bool
differs None e = false
differs (Some d) None = true
differs (Some d) (Some e) = not (eqb d e)

abbrev pub is_day : ℕ → TradeDate → Bool
is_day d None = false
is_day d (Some e) = eqb e d

-- ─── The serving end ───

abbrev pub new_series : ℕ → ℕ → DaySeries
new_series s reserve = record { series = s; published = 0; reserve = reserve; used = 0 }

abbrev pub no_series : DaySeries
no_series = new_series 0 0

-- The series of an opening, each with its reserve; 0 where none is given.
abbrev pub opened_series : List ℕ → List ℕ → List DaySeries
opened_series [] rs = []
opened_series (s ∷ ss) [] = new_series s 0 ∷ opened_series ss []
opened_series (s ∷ ss) (r ∷ rs) = new_series s r ∷ opened_series ss rs

abbrev pub no_place : Place
no_place = record { login = false; next = 0; piece = 0 }

abbrev pub sender : TradeDate → ℕ → List DaySeries → ℕ → List Place → Sender
sender date count series used places =
    record {
      day = record { date = date; count = count; series = series; used = used };
      seat = record
          { places = places };
    }

-- A fresh end holds no series, no day and no login.
unfoldable pub fresh_sender : Sender
fresh_sender = sender None 0 (replicate most_series no_series) 0 (replicate most_series no_place)

-- The open series, in the opening's order.
unfoldable pub day_series : Sender → List ℕ
day_series e = map (λ (x : DaySeries). x.series) (take e.day.count e.day.series)

unfoldable pub is_served : Sender → ℕ → Bool
is_served e s = member s (day_series e)

unfoldable pub published_of : Sender → ℕ → ℕ
published_of e s = (get_or e.day.series (index_of s (day_series e)) no_series).published

-- Its reserve, and the bytes that its entries take (02, No. 11).
unfoldable pub reserve_of : Sender → ℕ → ℕ
reserve_of e s = (get_or e.day.series (index_of s (day_series e)) no_series).reserve

unfoldable pub used_of : Sender → ℕ → ℕ
used_of e s = (get_or e.day.series (index_of s (day_series e)) no_series).used

unfoldable pub place_of : Sender → ℕ → Place
place_of e s = get_or e.seat.places (index_of s (day_series e)) no_place

-- The series with one more published, in an entry of so many bytes.
abbrev pub grown_series : Sender → ℕ → ℕ → DaySeries
grown_series e s size =
    record {
      series = s;
      published = published_of e s + 1;
      reserve = reserve_of e s;
      used = used_of e s + size;
    }

-- One more is published in a series, in an entry of so many bytes.
unfoldable pub with_entry : Sender → ℕ → ℕ → Sender
with_entry e s size =
    sender e.day.date e.day.count
    (set e.day.series (index_of s (day_series e)) (grown_series e s size))
    (e.day.used + size) e.seat.places

-- ─── Shares of the log (02, No. 11) ───

abbrev pub sum_of : List ℕ → ℕ
sum_of [] = 0
sum_of (n ∷ l) = n + sum_of l

abbrev pub larger : ℕ → ℕ → ℕ
larger a b = cond (ltb a b) b a

-- A series takes the larger of the bytes used and its reserve; all open ones together take so many.
abbrev pub share_of : DaySeries → ℕ
share_of x = larger x.used x.reserve

unfoldable pub shares_of : Sender → ℕ
shares_of e = sum_of (map share_of (take e.day.count e.day.series))

-- Logged in to a series, with a number next, of which so many packets were written one by one.
unfoldable pub with_place : Sender → ℕ → ℕ → ℕ → Sender
with_place e s next piece =
    sender e.day.date e.day.count e.day.series e.day.used
    (set e.seat.places (index_of s (day_series e)) (record { login = true; next = next; piece = piece }))

-- ─── The receiving end ───

abbrev pub new_kept : ℕ → KeptSeries
new_kept s = record { series = s; date = None; last = 0 }

abbrev pub no_live : LiveSeries
no_live = record { login = false; chain = false; tid = 0; held = 0; pieces = 0 }

abbrev pub receiver : ℕ → List KeptSeries → List LiveSeries → Receiver
receiver count kept live = record { kept = record { count = count; series = kept }; live = record { series = live } }

unfoldable pub fresh_receiver : Receiver
fresh_receiver = receiver 0 (replicate most_series (new_kept 0)) (replicate most_series no_live)

unfoldable pub kept_series : Receiver → List ℕ
kept_series e = map (λ (x : KeptSeries). x.series) (take e.kept.count e.kept.series)

unfoldable pub is_open : Receiver → ℕ → Bool
is_open e s = member s (kept_series e)

unfoldable pub kept_of : Receiver → ℕ → KeptSeries
kept_of e s = get_or e.kept.series (index_of s (kept_series e)) (new_kept 0)

unfoldable pub live_of : Receiver → ℕ → LiveSeries
live_of e s = get_or e.live.series (index_of s (kept_series e)) no_live

-- Trade date and last number of a series; none and 0 where it is not open.
abbrev pub day_of : Receiver → ℕ → TradeDate
day_of e s = cond (is_open e s) (kept_of e s).date None

abbrev pub last_of : Receiver → ℕ → ℕ
last_of e s = cond (is_open e s) (kept_of e s).last 0

-- Logged in, with no chain or with a chain of a TID and so many bytes and pieces held.
abbrev pub logged_in : LiveSeries
logged_in = record { login = true; chain = false; tid = 0; held = 0; pieces = 0 }

abbrev pub holding : ℕ → ℕ → ℕ → LiveSeries
holding tid held pieces = record { login = true; chain = true; tid = tid; held = held; pieces = pieces }

-- A series with what is now kept of it and what it now has on this connection.
unfoldable pub with_series : Receiver → ℕ → TradeDate → ℕ → LiveSeries → Receiver
with_series e s date last live =
    receiver e.kept.count
    (set e.kept.series (index_of s (kept_series e)) (record { series = s; date = date; last = last }))
    (set e.live.series (index_of s (kept_series e)) live)

-- Its part of the reassembly buffer starts here; all parts together take so many bytes.
unfoldable pub part_start : Receiver → ℕ → ℕ
part_start e s = most_content * index_of s (kept_series e)

unfoldable pub all_parts : Receiver → ℕ
all_parts e = most_content * length (kept_series e)
