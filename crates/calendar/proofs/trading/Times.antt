-- Which times are inside a session, and of which trade date: by the numbers that were set. Assumes nothing.
use Prim.Native.Nat.{ℕ, zero, suc, ◌+◌, ◌-◌, ◌*◌, ◌/◌, ◌%◌, ◌<◌, ◌≤◌}
use native.Mathlib.Omega.{arith}
use mathlib.Core.Path.{◌≡◌, refl, sym, ap, ◌∙◌}
use mathlib.Core.List.{List, [], ◌∷◌, ◌++◌}
use mathlib.Core.Bool.{Bool, true, false, cond, not, ◌&&◌, ◌||◌, false≢true}
use borrow.Author.Tests.{lt-ltb, le-leb, eq-eqb, ne_eqb, leb-true, ltb-true, ltb-false, eqb-true, not-false}
use lib.ListN.{length, get_or, replicate, get_or-eq_default}
use lib.Dec.{leb, ltb, eqb}
use Rattle.ftd.specs.declared.refusal.Refusal.TheVariants.{Sessions, Holiday}
use Rattle.calendar.specs.declared.trading.Calendar.{Calendar}
use Rattle.calendar.specs.declared.trading.SetStep.{SetStep}
use Rattle.calendar.specs.Days.{date_number}
use Rattle.calendar.specs.Calendar.{some, holds, first_of, last_of, is_late, counts, in_session, weekday, stands_at}
use Rattle.calendar.specs.Calendar.{is_holiday, is_trading, next_trading, china_day, china_second, trade_day, ask_of}
use Rattle.calendar.specs.Calendar.{wrong_sessions, wrong_holidays, padded, step, set_of, mark_date}
use Rattle.calendar.specs.Calendar.Times.{day_at, second_at, Trades, Follows, Has, lateness, Answers, InsideLaws}
use Rattle.calendar.proofs.Some.{or-neither, some_at, some-found, none-at}
use Rattle.calendar.proofs.days.Laws.{day-laws}
use Rattle.calendar.proofs.holidays.Near.{next-trading}
use Rattle.calendar.proofs.sessions.Common.{both}
use Rattle.calendar.proofs.sessions.One.{one-alone}
use Rattle.std.specs.Prelude.{Some, None, Ok, Err}

-- ─── Tests and what they say ───

and_both : (a b : Bool) → a ≡ true → b ≡ true → (a && b) ≡ true
and_both a b e f = rw (e, f)

module _ (l : List ℕ) (day : ℕ) where
  trades-says : is_trading l day ≡ true → Trades l 32 day
  unfolding is_trading is_holiday
  trades-says e =
      let x = both (ltb (weekday day) 5) (not (some 32 (stands_at l (date_number day)))) e in
      record {
        weekday = ltb-true (weekday day) 5 x.0;
        free = λ i h q. free i h q (some 32 (stands_at l (date_number day))) refl x.1;
      }
    where
      free : (i : ℕ) → i < 32 → get_or l i 0 ≡ date_number day → (b : Bool) → some 32 (stands_at l (date_number day)) ≡ b
          → not b ≡ true → ⊥
      free i h q true w f = false≢true f
      free i h q false w f =
          false≢true (sym (none-at (stands_at l (date_number day)) 32 i w h) ∙ eq-eqb (get_or l i 0) (date_number day) q)

  says-trades : Trades l 32 day → is_trading l day ≡ true
  unfolding is_trading is_holiday
  says-trades t =
      and_both (ltb (weekday day) 5) (not (some 32 (stands_at l (date_number day)))) (lt-ltb (weekday day) 5 t.weekday)
      (go (some 32 (stands_at l (date_number day))) refl)
    where
      go : (b : Bool) → some 32 (stands_at l (date_number day)) ≡ b → not b ≡ true
      go true w =
          let x = some-found (stands_at l (date_number day)) 32 w in
          absurd (t.free x.0 x.1 (eqb-true (get_or l x.0 0) (date_number day) x.2))
      go false w = refl

module _ (l : List ℕ) (second i : ℕ) where
  has-says : holds l second i ≡ true → Has l second i
  unfolding holds
  has-says e =
      let x = both (leb (first_of l i) second) (ltb second (last_of l i)) e in
      record { from = leb-true (first_of l i) second x.0; before = ltb-true second (last_of l i) x.1 }

  pub says-has : Has l second i → holds l second i ≡ true
  unfolding holds
  says-has h =
      and_both (leb (first_of l i) second) (ltb second (last_of l i)) (le-leb (first_of l i) second h.from)
      (lt-ltb second (last_of l i) h.before)

-- ─── Any calendar ───

module _ (l : List ℕ) (second : ℕ) where
  session-says : (only : Bool) → in_session only l second ≡ true
      → (i : ℕ) × (i < 8) × (holds l second i ≡ true) × ((not only || is_late l i) ≡ true)
  unfolding in_session
  session-says only e =
      let x = some-found (counts only l second) 8 e in
      let y = both (holds l second x.0) (not only || is_late l x.0) x.2 in
      (x.0, x.1, y.0, y.1)

  says-session : (only : Bool) (i : ℕ) → i < 8 → holds l second i ≡ true → (not only || is_late l i) ≡ true
      → in_session only l second ≡ true
  unfolding in_session
  says-session only i h e f =
      some_at (counts only l second) 8 i h (and_both (holds l second i) (not only || is_late l i) e f)

is-late : (l : List ℕ) (i : ℕ) → 0 < lateness l i → is_late l i ≡ true
is-late l i h = rw (ne_eqb (lateness l i) 0 (λ q. omega (arith, h, q)))

not_late : (l : List ℕ) (i : ℕ) → lateness l i ≡ 0 → is_late l i ≡ false
not_late l i h = rw (eq-eqb (lateness l i) 0 h)

module _ (c : Calendar) (t : ℕ) where
  ask-inside : (d : ℕ) → ask_of c t ≡ Some d
      → (is_trading c.holidays (china_day t) ≡ true) × (in_session false c.sessions (china_second t) ≡ true)
      × (d ≡ date_number (trade_day c t))
  unfolding ask_of
  ask-inside d e = go (is_trading c.holidays (china_day t)) (in_session false c.sessions (china_second t)) e
    where
      go : (a b : Bool) → cond (a && b) (Some (date_number (trade_day c t))) None ≡ Some d
          → (a ≡ true) × (b ≡ true) × (d ≡ date_number (trade_day c t))
      go true true q =
          let z : d ≡ date_number (trade_day c t) = cc in
          (refl, refl, z)
      go true false q = absurd (let z : ◌≡◌ {A = ℕ} 0 1 = cc in omega arith)
      go false b q = absurd (let z : ◌≡◌ {A = ℕ} 0 1 = cc in omega arith)

  ask-found : is_trading c.holidays (china_day t) ≡ true → in_session false c.sessions (china_second t) ≡ true
      → ask_of c t ≡ Some (date_number (trade_day c t))
  unfolding ask_of
  ask-found e f = rw (e, f)

  late-day : in_session true c.sessions (china_second t) ≡ true → trade_day c t ≡ next_trading c.holidays (china_day t)
  unfolding trade_day
  late-day e = rw e

  own-day : in_session true c.sessions (china_second t) ≡ false → trade_day c t ≡ china_day t
  unfolding trade_day
  own-day e = rw e

follows : (l : List ℕ) (day : ℕ) → Follows l 32 day (next_trading l day)
follows l day =
    let n = next-trading l day in
    record {
      behind = n.behind;
      trades = trades-says l (next_trading l day) n.trades;
      first = λ e f g t. false≢true (sym (n.first e f g) ∙ says-trades l e t);
    }

any-inside : (c : Calendar) → Answers c c.sessions 8 c.holidays 32
unfolding china_day china_second
any-inside c = record {
  inside = λ t d e.
      let x = ask-inside c t d e in
      let y = session-says c.sessions (second_at t) false x.1 in
      (trades-says c.holidays (day_at t) x.0, (y.0, y.1, has-says c.sessions (second_at t) y.0 y.2));
  found = λ t i w h k. (
    date_number (trade_day c t),
    ask-found c t (says-trades c.holidays (day_at t) w)
        (says-session c.sessions (second_at t) false i h (says-has c.sessions (second_at t) i k) refl),
  );
  late = λ t d i e h k w. (
    next_trading c.holidays (day_at t),
    follows c.holidays (day_at t),
    (ask-inside c t d e).2
        ∙ ap date_number (late-day c t (says-session c.sessions (second_at t) true i h
        (says-has c.sessions (second_at t) i k) (is-late c.sessions i w))),
  );
  own = λ t d e f.
      (ask-inside c t d e).2
      ∙ ap date_number (own-day c t (none t f (in_session true c.sessions (second_at t)) refl));
}
  where
    none : (t : ℕ) → ((i : ℕ) → i < 8 → Has c.sessions (second_at t) i → lateness c.sessions i ≡ 0) → (b : Bool)
        → in_session true c.sessions (second_at t) ≡ b → b ≡ false
    none t f false e = refl
    none t f true e =
        let y = session-says c.sessions (second_at t) true e in
        let z = f y.0 y.1 (has-says c.sessions (second_at t) y.0 y.2) in
        absurd (false≢true (sym (not_late c.sessions y.0 z) ∙ y.3))

-- ─── Set ───

-- Places behind a list are 0, as those behind its end are.
zeros-get : (k j : ℕ) → get_or {A = ℕ} (replicate k 0) j 0 ≡ 0
zeros-get zero j = refl
zeros-get (suc k) zero = refl
zeros-get (suc k) (suc j) = zeros-get k j

padded-get : (l : List ℕ) (k j : ℕ) → get_or (l ++ replicate k 0) j 0 ≡ get_or l j 0
padded-get [] k j = zeros-get k j
padded-get (x ∷ l) k zero = refl
padded-get (x ∷ l) k (suc j) = padded-get l k j

-- A place that is not 0 is in the list.
in_list : (l : List ℕ) (j : ℕ) → 0 < get_or l j 0 → j < length l
in_list l j h = go (ltb j (length l)) refl
  where
    go : (b : Bool) → ltb j (length l) ≡ b → j < length l
    go true e = ltb-true j (length l) e
    go false e = absurd (omega (arith, h, get_or-eq_default l 0 {n = j} (ltb-false j (length l) e)))

-- No day has date 0.
some-date : (day : ℕ) → 0 < date_number day
unfolding date_number
some-date day = omega (arith, (day-laws.civil day).year)

module _ (ss hs : List ℕ) (whole : length ss % 3 ≡ 0) (few : length ss / 3 ≤ 8) (most : length hs ≤ 32) where
  has-given : (second i : ℕ) → Has (padded 24 ss) second i → Has ss second i
  has-given second i h = record {
    from = rw (padded-get ss (24 - length ss) (3 * i)) at h.from;
    before = rw (padded-get ss (24 - length ss) (3 * i + 1)) at h.before;
  }

  given-has : (second i : ℕ) → Has ss second i → Has (padded 24 ss) second i
  given-has second i h = record {
    from = rw (padded-get ss (24 - length ss) (3 * i)) h.from;
    before = rw (padded-get ss (24 - length ss) (3 * i + 1)) h.before;
  }

  -- A session with a second is one of those given.
  is-given : (second i : ℕ) → Has ss second i → i < length ss / 3
  is-given second i h =
      let k = in_list ss (3 * i + 1) (omega (arith, h.before)) in
      omega arith

  trades-given : (day : ℕ) → Trades (padded 32 hs) 32 day → Trades hs (length hs) day
  trades-given day t = record {
    weekday = t.weekday;
    free = λ i h q. t.free i (omega arith) (padded-get hs (32 - length hs) i ∙ q);
  }

  given-trades : (day : ℕ) → Trades hs (length hs) day → Trades (padded 32 hs) 32 day
  given-trades day t = record {
    weekday = t.weekday;
    free = λ i h q.
        let e : get_or hs i 0 ≡ date_number day = sym (padded-get hs (32 - length hs) i) ∙ q in
        t.free i (in_list hs i (omega (arith, some-date day, e))) e;
  }

  follows-given : (day next : ℕ) → Follows (padded 32 hs) 32 day next → Follows hs (length hs) day next
  follows-given day next f = record {
    behind = f.behind;
    trades = trades-given next f.trades;
    first = λ e a b t. f.first e a b (given-trades e t);
  }

  late-same : (i : ℕ) → lateness (padded 24 ss) i ≡ lateness ss i
  late-same i = padded-get ss (24 - length ss) (3 * i + 2)

  given-answers : (c : Calendar) → Answers c (padded 24 ss) 8 (padded 32 hs) 32
      → Answers c ss (length ss / 3) hs (length hs)
  given-answers c a = record {
    inside = λ t d e.
        let x = a.inside t d e in
        let k = has-given (second_at t) x.1.0 x.1.2 in
        (trades-given (day_at t) x.0, (x.1.0, is-given (second_at t) x.1.0 k, k));
    found = λ t i w h k. a.found t i (given-trades (day_at t) w) (omega arith) (given-has (second_at t) i k);
    late = λ t d i e h k w.
        let x = a.late t d i e (omega arith) (given-has (second_at t) i k) (rw (late-same i) w) in
        (x.0, follows-given (day_at t) x.0 x.1, x.2);
    own = λ t d e f.
        a.own t d e (λ i h k.
        let g = has-given (second_at t) i k in
        late-same i ∙ f i (is-given (second_at t) i g) g);
  }

abbrev newly : List ℕ → List ℕ → SetStep
newly ss hs = step (record { sessions = padded 24 ss; holidays = padded 32 hs }) (Ok tt)

-- What Set has taken.
set-taken : (c : Calendar) (ss hs : List ℕ) → (set_of c ss hs).answer ≡ (Ok tt)
    → (wrong_sessions ss ≡ false) × (wrong_holidays hs ≡ false)
    × ((set_of c ss hs).calendar ≡ record { sessions = padded 24 ss; holidays = padded 32 hs })
unfolding set_of
set-taken c ss hs e = go (wrong_sessions ss) (wrong_holidays hs) e
  where
    go : (a b : Bool)
        → (cond a (step c (Err Sessions)) (cond b (step c (Err Holiday)) (newly ss hs))).answer ≡ (Ok tt)
        → (a ≡ false) × (b ≡ false)
        × ((cond a (step c (Err Sessions)) (cond b (step c (Err Holiday)) (newly ss hs))).calendar
        ≡ record { sessions = padded 24 ss; holidays = padded 32 hs })
    go true b q = absurd (let z : ◌≡◌ {A = ℕ} 0 1 = cc in omega arith)
    go false true q = absurd (let z : ◌≡◌ {A = ℕ} 0 1 = cc in omega arith)
    go false false q = (refl, refl, refl)

right-sessions : (l : List ℕ) → wrong_sessions l ≡ false → (length l % 3 ≡ 0) × (length l / 3 ≤ 8)
unfolding wrong_sessions
right-sessions l e =
    let whole = or-neither (not (eqb (length l % 3) 0)) _ e in
    let few = or-neither (ltb 8 (length l / 3)) _ whole.1 in
    (eqb-true (length l % 3) 0 (not-false _ whole.0), ltb-false 8 (length l / 3) few.0)

right-holidays : (l : List ℕ) → wrong_holidays l ≡ false → length l ≤ 32
unfolding wrong_holidays
right-holidays l e = ltb-false 32 (length l) (or-neither (ltb 32 (length l)) _ e).0

set_given : (c : Calendar) (ss hs : List ℕ) → (set_of c ss hs).answer ≡ (Ok tt)
    → Answers (set_of c ss hs).calendar ss (length ss / 3) hs (length hs)
set_given c ss hs e =
    let x = set-taken c ss hs e in
    let y = right-sessions ss x.0 in
    rw x.2
    (given-answers ss hs y.0 y.1 (right-holidays hs x.1)
    (record { sessions = padded 24 ss; holidays = padded 32 hs })
    (any-inside (record { sessions = padded 24 ss; holidays = padded 32 hs })))

mark-day : (t : ℕ) → mark_date t ≡ date_number (day_at t)
unfolding mark_date china_day
mark-day t = refl

pub inside-laws : InsideLaws
inside-laws = record {
  any = any-inside;
  given = set_given;
  mark = λ t. mark-day t;
  alone = λ c ss hs e second i j h k p q.
      one-alone ss second (set-taken c ss hs e).0 i j h k (says-has ss second i p) (says-has ss second j q);
}
