-- A share of the log for each series (02, No. 11): what the rule of row 18 comes to, and what a reserve promises. The
-- quotations are the request's words.
use Rattle.std.specs.Prelude.{ℕ, ◌+◌, ◌≤◌, ◌<◌, ◌≡◌, ◌↔◌, List, [], ◌∷◌, map, Bool, true, false, cond, not, ◌||◌, length, take, T, eqb}
use Rattle.std.proofs.Math.Option.{some}
use Rattle.std.proofs.Math.ListN.{get_elem?}
use Rattle.ftd.specs.Fields.{most_content}
use Rattle.ftd.specs.Items.{wrong_width, wrong_item}
use Rattle.ftd.specs.Composition.{composed}
use Rattle.ftd.specs.Bench.{BenchRow, bench_row, all_same}
use Rattle.ftd.specs.declared.composition.Direction.TheVariants.{Down}
use Rattle.ftd.specs.declared.refusal.Refusal.TheVariants.{Opening, TooSmall}
use Rattle.flow.specs.declared.sender.DaySeries.{DaySeries}
use Rattle.flow.specs.declared.sender.Sender.{Sender}
use Rattle.flow.specs.Types.{Opened}
use Rattle.flow.specs.Types.{Published}
use Rattle.flow.specs.Ends.{wrong_series, fresh_sender, is_served, reserve_of, used_of, with_entry, sum_of, shares_of}
use Rattle.flow.specs.Log.{log_short}
use Rattle.flow.specs.Answers.{opened_said, published_said}
use Rattle.flow.specs.Serving.{wrong_run, open_day_of, publish_of, login_of, send_of, send_packet_of}
use Rattle.flow.specs.Bench.{numbers, note, space, tid}
use Rattle.std.specs.Prelude.{Some, Ok, Err}

-- ─── The calls of a serving end, each with the log that it is lent ───

pub data ServingCall : Type 0 where
  opening : ℕ → List ℕ → List ℕ → List ℕ → ServingCall  -- trade date, series, reserves, log
  publish : ℕ → ℕ → List ℕ → List ℕ → ServingCall  -- series, TID, content, log
  login : ℕ → List ℕ → List ℕ → List ℕ → ServingCall  -- series, packet, content, output
  send : ℕ → List ℕ → List ℕ → ServingCall  -- series, log, output
  send_packet : ℕ → List ℕ → List ℕ → ServingCall

abbrev pub served : Sender → ServingCall → Sender
served e (opening date ss rs log) = (open_day_of e date ss rs log).end
served e (publish s t content log) = (publish_of e s t content log).end
served e (login s p content out) = (login_of e s p content out).end
served e (send s log out) = (send_of e s log out).end
served e (send_packet s log out) = (send_packet_of e s log out).end

abbrev pub served_all : Sender → List ServingCall → Sender
served_all e [] = e
served_all e (c ∷ cs) = served_all (served e c) cs

-- "the log's length unchanged": of every opening and publication. What the log holds is free.
abbrev pub OneLength : ℕ → ServingCall → Type 0
OneLength n (opening date ss rs log) = length log ≡ n
OneLength n (publish s t content log) = length log ≡ n
OneLength n (login s p content out) = Unit {0}
OneLength n (send s log out) = Unit {0}
OneLength n (send_packet s log out) = Unit {0}

abbrev pub AllOneLength : ℕ → List ServingCall → Type 0
AllOneLength n [] = Unit {0}
AllOneLength n (c ∷ cs) = OneLength n c × AllOneLength n cs

-- ─── Row 18 ───

-- The bytes used by each open series.
abbrev pub used_bytes : Sender → List ℕ
used_bytes e = map (λ (x : DaySeries). x.used) (take e.day.count e.day.series)

abbrev pub reserves : Sender → List ℕ
reserves e = map (λ (x : DaySeries). x.reserve) (take e.day.count e.day.series)

abbrev pub AllZero : List ℕ → Type 0
AllZero [] = Unit {0}
AllZero (n ∷ l) = (n ≡ 0) × AllZero l

-- A row before 18 refuses: 7 to 10, 13 and 20.
abbrev pub refused_before : Sender → ℕ → ℕ → List ℕ → List ℕ → Bool
refused_before e s t content log =
    wrong_run content most_content || wrong_width content || wrong_item content || not (composed t Down content) || not
    (is_served e s) || log_short e log

-- ─── The opening ───

-- An opening is forbidden: by the series' rule, by a trade date that is not later, by not one reserve for each series, or
-- by reserves above the log's length together.
pub data Forbidden (e : Sender) (date : ℕ) (ss rs log : List ℕ) : Type 0 where
  by-series : wrong_series ss ≡ true → Forbidden e date ss rs log
  by-date : (d : ℕ) → e.day.date ≡ Some d → date ≤ d → Forbidden e date ss rs log
  by_count : (length rs ≡ length ss → ⊥) → Forbidden e date ss rs log
  by-sum : length log < sum_of rs → Forbidden e date ss rs log

abbrev pub is_opening : ServingCall → Bool
is_opening (opening date ss rs log) = true
is_opening (publish s t content log) = false
is_opening (login s p content out) = false
is_opening (send s log out) = false
is_opening (send_packet s log out) = false

-- ─── The bytes of a series, counted along the calls by what they answer ───

abbrev pub from_opening : Opened → ℕ → ℕ
from_opening (Ok tt) n = 0
from_opening (Err r) n = n

abbrev pub with_published : Published → ℕ → ℕ → ℕ
with_published (Ok k) size n = n + size
with_published (Err r) size n = n

-- Of series s, with n bytes before: an opening that is taken starts anew, and each message that is published in it takes
-- 16 bytes and its content.
abbrev pub counted : Sender → ℕ → ServingCall → ℕ → ℕ
counted e s (opening date ss rs log) n = from_opening (open_day_of e date ss rs log).answer n
counted e s (publish t tid content log) n =
    cond (eqb t s) (with_published (publish_of e t tid content log).answer (16 + length content) n) n
counted e s (login t p content out) n = n
counted e s (send t log out) n = n
counted e s (send_packet t log out) n = n

abbrev pub counted_all : Sender → ℕ → List ServingCall → ℕ → ℕ
counted_all e s [] n = n
counted_all e s (c ∷ cs) n = counted_all (served e c) s cs (counted e s c n)

-- ─── An example: a log of 100 bytes, series 1 without a reserve, series 2 with 50 ───

abbrev pub two_series : Sender
two_series = (open_day_of fresh_sender 7 (1 ∷ 2 ∷ []) (0 ∷ 50 ∷ []) (space 100)).end

-- An entry of 25 bytes: its head, and a field of 3 bytes.
abbrev pub entry25 : ℕ → ServingCall
entry25 s = publish s tid (note 1 3) (space 100)

abbrev pub told : Sender → ℕ → List ℕ
told e s = numbers (published_said (publish_of e s tid (note 1 3) (space 100)).answer)

abbrev pub example_rows : List BenchRow
example_rows =
    -- reserves up to the log's length are taken, above it refused; so is a reserve too few
    bench_row 1
    (numbers (opened_said (open_day_of fresh_sender 7 (1 ∷ 2 ∷ []) (50 ∷ 50 ∷ []) (space 100)).answer)) (1 ∷ [])
    ∷ bench_row 2
    (numbers (opened_said (open_day_of fresh_sender 7 (1 ∷ 2 ∷ []) (51 ∷ 50 ∷ []) (space 100)).answer)) (0 ∷ 11 ∷ [])
    ∷ bench_row 3
    (numbers (opened_said (open_day_of fresh_sender 7 (1 ∷ 2 ∷ []) (50 ∷ []) (space 100)).answer)) (0 ∷ 11 ∷ [])
    -- series 1 gets the 50 bytes that are not reserved, and no more, though 50 are free
    ∷ bench_row 4 (told two_series 1) (2 ∷ 1 ∷ [])
    ∷ bench_row 5 (told (served two_series (entry25 1)) 1) (2 ∷ 2 ∷ [])
    ∷ bench_row 6 (told (served_all two_series (entry25 1 ∷ entry25 1 ∷ [])) 1) (0 ∷ 18 ∷ [])
    -- series 2 gets its reserve whole, whatever series 1 published, and no more
    ∷ bench_row 7 (told (served_all two_series (entry25 1 ∷ entry25 1 ∷ entry25 1 ∷ [])) 2) (2 ∷ 1 ∷ [])
    ∷ bench_row 8 (told (served_all two_series (entry25 1 ∷ entry25 1 ∷ entry25 2 ∷ [])) 2) (2 ∷ 2 ∷ [])
    ∷ bench_row 9 (told (served_all two_series (entry25 1 ∷ entry25 1 ∷ entry25 2 ∷ entry25 2 ∷ [])) 2) (0 ∷ 18 ∷ [])
    ∷ []

-- ─── The statement ───

pub record Shares : Type 0 where
  -- An opening is refused 11 exactly if it is forbidden, and then nothing is changed; otherwise it is taken.
  pub refused-11 : (e : Sender) (date : ℕ) (ss rs log : List ℕ)
      → ((open_day_of e date ss rs log).answer ≡ Err Opening) ↔ Forbidden e date ss rs log
  pub unchanged : (e : Sender) (date : ℕ) (ss rs log : List ℕ)
      → (open_day_of e date ss rs log).answer ≡ Err Opening → (open_day_of e date ss rs log).end ≡ e
  pub taken : (e : Sender) (date : ℕ) (ss rs log : List ℕ) → (Forbidden e date ss rs log → ⊥)
      → (open_day_of e date ss rs log).answer ≡ (Ok tt)
  -- Behind an opening that was taken each series has the reserve that was given for it, and no other call changes it.
  pub given : (e : Sender) (date : ℕ) (ss rs log : List ℕ) → (open_day_of e date ss rs log).answer ≡ (Ok tt)
      → (i s r : ℕ) → get_elem? ss i ≡ some s → get_elem? rs i ≡ some r
      → reserve_of (open_day_of e date ss rs log).end s ≡ r
  pub kept : (e : Sender) (c : ServingCall) (s : ℕ) → is_opening c ≡ false → reserve_of (served e c) s ≡ reserve_of e s
  -- The bytes used of a series are those of what was published in it since the last opening that was taken.
  pub used-since : (cs : List ServingCall) (s : ℕ)
      → used_of (served_all fresh_sender cs) s ≡ counted_all fresh_sender s cs 0
  -- After every list of calls, with logs of any lengths: the bytes used are those of the series together, and the sum of
  -- the larger of bytes used and reserve is never less.
  pub used : (cs : List ServingCall) →
      let e = served_all fresh_sender cs in
      (e.day.used ≡ sum_of (used_bytes e)) × (e.day.used ≤ shares_of e)
  -- "An entry is refused 18 exactly if the sum over all series of the larger of bytes used and reserve would then pass the
  -- log's length."
  pub exactly : (cs : List ServingCall) (s t : ℕ) (content log : List ℕ) →
      let e = served_all fresh_sender cs in
      refused_before e s t content log ≡ false
      → ((publish_of e s t content log).answer ≡ Err TooSmall)
      ↔ (length log < shares_of (with_entry e s (16 + length content)))
  -- Without reserves that is the bytes used, and the entry: the rule as it was.
  pub unreserved : (cs : List ServingCall) (s size : ℕ) →
      let e = served_all fresh_sender cs in
      is_served e s ≡ true → AllZero (reserves e) → shares_of (with_entry e s size) ≡ e.day.used + size
  -- "So, the log's length unchanged, an entry that keeps its series within its reserve is never refused 18, however much
  -- the others publish": from an opening of any end on, along any calls.
  pub promise : (e : Sender) (date : ℕ) (ss rs log : List ℕ) → (open_day_of e date ss rs log).answer ≡ (Ok tt)
      → (cs : List ServingCall) → AllOneLength (length log) cs →
      let f = served_all (open_day_of e date ss rs log).end cs in
      (s t : ℕ) (content l : List ℕ) → length l ≡ length log
      → used_of f s + (16 + length content) ≤ reserve_of f s
      → (publish_of f s t content l).answer ≡ Err TooSmall → ⊥
  -- It is not empty: the example's numbers are these.
  pub example : T (all_same example_rows)
