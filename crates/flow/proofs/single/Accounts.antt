-- A share of the log for each series (02, No. 11), of any end: when an opening is refused, the reserves that it gives, and
-- reserve and bytes used of a series behind one call. Assumes nothing.
use Prim.Native.Nat.{ℕ, zero, suc, ◌+◌, ◌-◌}
use native.Mathlib.Omega.{arith}
use mathlib.Core.Path.{◌≡◌, refl, sym, ap, ◌∙◌}
use mathlib.Core.Logic.{◌↔◌, ◌⊎◌, inl, inr}
use mathlib.Core.List.{List, [], ◌∷◌, ◌++◌}
use mathlib.Core.Bool.{Bool, true, false, cond, not, ◌||◌}
use mathlib.Core.Option.{some}
use borrow.Author.Tests.{ltb-true, lt-ltb, leb-true, le-leb, eq-eqb, ne_eqb, eqb-true, eqb-false, not-true, not-false}
use lib.ListN.{length, get_or, set, get_elem?, replicate}
use lib.Seq.{get_or-set_same, get_or-set_other}
use lib.Dec.{ltb, eqb}
use Rattle.ftd.specs.declared.refusal.Refusal.TheVariants.{Opening}
use Rattle.ftd.specs.Types.{TradeDate}
use Rattle.flow.specs.declared.sender.DaySeries.{DaySeries}
use Rattle.flow.specs.declared.sender.Sender.{Sender}
use Rattle.flow.specs.Types.{Opened}
use Rattle.flow.specs.Ends.{◌when◌else◌, Left, left, most_series, member, index_of, differing, wrong_series, filled, up_to, no_series}
use Rattle.flow.specs.Ends.{opened_series, sum_of, fresh_sender, day_series, is_served, reserve_of, used_of, grown_series}
use Rattle.flow.specs.Ends.{with_entry, with_place}
use Rattle.flow.specs.Serving.{wrong_reserves, wrong_day_opening, open_day_of}
use Rattle.flow.specs.Shares.{Forbidden, by-series, by-date, by_count, by-sum}
use Rattle.flow.proofs.common.Bools.{or-neither, and_both, not-both}
use Rattle.flow.proofs.ends.SenderLookups.{series-entry, served-index, served-apart}
use Rattle.flow.proofs.ends.SenderOpened.{opened_sender, opened-series}
use Rattle.flow.proofs.calls.Serving.{OpenDone, open-refused, open-taken, open-cases}
use Rattle.std.specs.Prelude.{Some, None, Ok, Err}

-- ─── When an opening is refused ───

either : (a b : Bool) → (a || b) ≡ true → (a ≡ true) ⊎ (b ≡ true)
either true b q = inl refl
either false b q = inr q

or_left : (a b : Bool) → a ≡ true → (a || b) ≡ true
or_left a b q = rw q refl

or_right : (a b : Bool) → b ≡ true → (a || b) ≡ true
or_right true b q = refl
or_right false b q = q

module _ (e : Sender) (date : ℕ) (ss rs log : List ℕ) where
  date-then : (d : TradeDate) → e.day.date ≡ d → up_to date d ≡ true → Forbidden e date ss rs log
  date-then None p q = absurd (let z : ◌≡◌ {A = ℕ} 0 1 = cc in omega arith)
  date-then (Some d) p q = by-date d p (leb-true date d q)

  reserves-then : (not (eqb (length rs) (length ss)) ≡ true) ⊎ (ltb (length log) (sum_of rs) ≡ true)
      → Forbidden e date ss rs log
  reserves-then (inl q) = by_count (eqb-false (length rs) (length ss) (not-true _ q))
  reserves-then (inr q) = by-sum (ltb-true (length log) (sum_of rs) q)

  series-then : (wrong_series ss ≡ true) ⊎ (up_to date e.day.date ≡ true) → Forbidden e date ss rs log
  series-then (inl q) = by-series q
  series-then (inr q) = date-then e.day.date refl q

  wrong-then : wrong_day_opening e date ss rs log ≡ true → Forbidden e date ss rs log
  wrong-then q = go (either (wrong_series ss || up_to date e.day.date) (wrong_reserves ss rs log) q)
    where
      go : ((wrong_series ss || up_to date e.day.date) ≡ true) ⊎ (wrong_reserves ss rs log ≡ true)
          → Forbidden e date ss rs log
      go (inl p) = series-then (either (wrong_series ss) (up_to date e.day.date) p)
      go (inr p) = reserves-then (either (not (eqb (length rs) (length ss))) (ltb (length log) (sum_of rs)) p)

  wrong-if : Forbidden e date ss rs log → wrong_day_opening e date ss rs log ≡ true
  wrong-if (by-series q) =
      or_left (wrong_series ss || up_to date e.day.date) (wrong_reserves ss rs log)
      (or_left (wrong_series ss) (up_to date e.day.date) q)
  wrong-if (by-date d q l) =
      or_left (wrong_series ss || up_to date e.day.date) (wrong_reserves ss rs log)
      (or_right (wrong_series ss) (up_to date e.day.date) (rw q (le-leb date d l)))
  wrong-if (by_count n) =
      or_right (wrong_series ss || up_to date e.day.date) (wrong_reserves ss rs log)
      (or_left (not (eqb (length rs) (length ss))) (ltb (length log) (sum_of rs))
      (ap not (ne_eqb (length rs) (length ss) n)))
  wrong-if (by-sum l) =
      or_right (wrong_series ss || up_to date e.day.date) (wrong_reserves ss rs log)
      (or_right (not (eqb (length rs) (length ss))) (ltb (length log) (sum_of rs)) (lt-ltb (length log) (sum_of rs) l))

  abbrev answers : Bool → Left Sender Opened
  answers b = left e (Err Opening) when b else left (opened_sender date ss rs) (Ok tt)

  open_is : open_day_of e date ss rs log ≡ answers (wrong_day_opening e date ss rs log)
  unfolding open_day_of
  open_is = refl

  refused-test : (b : Bool) → (answers b).answer ≡ Err Opening → b ≡ true
  refused-test true q = refl
  refused-test false q = absurd (let z : ◌≡◌ {A = ℕ} 0 1 = cc in omega arith)

  test-taken : (b : Bool) → (b ≡ true → ⊥) → (answers b).answer ≡ (Ok tt)
  test-taken true n = absurd (n refl)
  test-taken false n = refl

  answer-is : (open_day_of e date ss rs log).answer ≡ (answers (wrong_day_opening e date ss rs log)).answer
  answer-is = ap (λ (r : Left Sender Opened). r.answer) open_is

  pub refused-11 : ((open_day_of e date ss rs log).answer ≡ Err Opening) ↔ Forbidden e date ss rs log
  refused-11 = (
    λ q. wrong-then (refused-test (wrong_day_opening e date ss rs log) (sym answer-is ∙ q)),
    λ f. answer-is ∙ ap (λ (b : Bool). (answers b).answer) (wrong-if f),
  )

  pub unchanged : (open_day_of e date ss rs log).answer ≡ Err Opening → (open_day_of e date ss rs log).end ≡ e
  unchanged q =
      ap (λ (r : Left Sender Opened). r.end) open_is
      ∙ ap (λ (b : Bool). (answers b).end) (refused-test (wrong_day_opening e date ss rs log) (sym answer-is ∙ q))

  pub taken : (Forbidden e date ss rs log → ⊥) → (open_day_of e date ss rs log).answer ≡ (Ok tt)
  taken n = answer-is ∙ test-taken (wrong_day_opening e date ss rs log) λ q. n (wrong-then q)

-- ─── The reserves given ───

member-at : (l : List ℕ) (i s : ℕ) → get_elem? l i ≡ some s → member s l ≡ true
member-at [] i s q = absurd (let z : ◌≡◌ {A = ℕ} 0 1 = cc in omega arith)
member-at (x ∷ l) zero s q = or_left (eqb x s) (member s l) (eq-eqb x s cc)
member-at (x ∷ l) (suc i) s q = or_right (eqb x s) (member s l) (member-at l i s q)

reserve-at : (ss rs : List ℕ) (n i s r : ℕ) → differing ss ≡ true → get_elem? ss i ≡ some s → get_elem? rs i ≡ some r
    → (get_or (opened_series ss rs ++ replicate n no_series) (index_of s ss) no_series).reserve ≡ r
reserve-at [] rs n i s r d p q = absurd (let z : ◌≡◌ {A = ℕ} 0 1 = cc in omega arith)
reserve-at (x ∷ ss) [] n i s r d p q = absurd (let z : ◌≡◌ {A = ℕ} 0 1 = cc in omega arith)
reserve-at (x ∷ ss) (y ∷ rs) n zero s r d p q =
    let a = eq-eqb x s cc in let b : y ≡ r = cc in rw a b
reserve-at (x ∷ ss) (y ∷ rs) n (suc i) s r d p q =
    let a = and_both (not (member x ss)) (differing ss) d in
    let other : eqb x s ≡ false =
    ne_eqb x s λ z. not-both (member x ss) (rw z (member-at ss i s p)) (not-true _ a.0) in
    rw other (reserve-at ss rs n i s r a.1 p q)

pub given : (e : Sender) (date : ℕ) (ss rs log : List ℕ) → (open_day_of e date ss rs log).answer ≡ (Ok tt)
    → (i s r : ℕ) → get_elem? ss i ≡ some s → get_elem? rs i ≡ some r
    → reserve_of (open_day_of e date ss rs log).end s ≡ r
unfolding wrong_series reserve_of
given e date ss rs log q i s r a b = go (open_day_of e date ss rs log) (open-cases e date ss rs log) q
  where
    apart : wrong_series ss ≡ false → differing ss ≡ true
    apart h =
        not-false _
        (or-neither (eqb (length ss) 0 || ltb most_series (length ss) || member 0 ss) (not (differing ss)) h).1

    there : wrong_series ss ≡ false → reserve_of (opened_sender date ss rs) s ≡ r
    there h =
        ap (λ (l : List ℕ). (get_or (filled no_series (opened_series ss rs)) (index_of s l) no_series).reserve)
        (opened-series date ss rs)
        ∙ reserve-at ss rs (most_series - length (opened_series ss rs)) i s r (apart h) a b

    go : (x : Left Sender Opened) → OpenDone e date ss rs log x → x.answer ≡ (Ok tt) → reserve_of x.end s ≡ r
    go x (open-refused y) z = absurd (let z : ◌≡◌ {A = ℕ} 0 1 = cc in omega arith)
    go x (open-taken h1 h2 h3 h4) z = there h1

-- ─── Reserve and bytes used behind a call ───

pub either_way : (b : Bool) (n : ℕ) → cond b n n ≡ n
either_way true n = refl
either_way false n = refl

pub reserve-place : (e : Sender) (t next piece s : ℕ) → reserve_of (with_place e t next piece) s ≡ reserve_of e s
unfolding reserve_of with_place day_series
reserve-place e t next piece s = refl

pub used-place : (e : Sender) (t next piece s : ℕ) → used_of (with_place e t next piece) s ≡ used_of e s
unfolding used_of with_place day_series
used-place e t next piece s = refl

module _ (e : Sender) (t : ℕ) (o : is_served e t ≡ true) (size : ℕ) where
  abbrev after : List DaySeries
  after = set e.day.series (index_of t (day_series e)) (grown_series e t size)

  at_same : get_or after (index_of t (day_series e)) no_series ≡ grown_series e t size
  at_same =
      get_or-set_same e.day.series (index_of t (day_series e)) (grown_series e t size) no_series (served-index e t o)

  at_other : (s : ℕ) → (s ≡ t → ⊥)
      → get_or after (index_of s (day_series e)) no_series ≡ get_or e.day.series (index_of s (day_series e)) no_series
  at_other s n =
      get_or-set_other e.day.series (index_of t (day_series e)) (index_of s (day_series e)) (grown_series e t size)
      no_series (served-apart e t o s n)

  reserve-looked : (s : ℕ)
      → reserve_of (with_entry e t size) s ≡ (get_or after (index_of s (day_series e)) no_series).reserve
  unfolding reserve_of with_entry
  reserve-looked s =
      ap (λ (l : List ℕ). (get_or after (index_of s l) no_series).reserve) (series-entry e t o size)

  used-looked : (s : ℕ) → used_of (with_entry e t size) s ≡ (get_or after (index_of s (day_series e)) no_series).used
  unfolding used_of with_entry
  used-looked s = ap (λ (l : List ℕ). (get_or after (index_of s l) no_series).used) (series-entry e t o size)

  pub reserve-entry : (s : ℕ) → reserve_of (with_entry e t size) s ≡ reserve_of e s
  unfolding reserve_of
  reserve-entry s = go (eqb s t) refl
    where
      other : (s ≡ t → ⊥) → reserve_of (with_entry e t size) s ≡ reserve_of e s
      other n = reserve-looked s ∙ ap (λ (x : DaySeries). x.reserve) (at_other s n)

      go : (b : Bool) → eqb s t ≡ b → reserve_of (with_entry e t size) s ≡ reserve_of e s
      go true q =
          rw (eqb-true s t q) (reserve-looked t ∙ ap (λ (x : DaySeries). x.reserve) at_same)
      go false q = other (eqb-false s t q)

  pub used-entry : (s : ℕ) → used_of (with_entry e t size) s ≡ cond (eqb t s) (used_of e s + size) (used_of e s)
  unfolding used_of
  used-entry s = go (eqb t s) refl
    where
      other : (s ≡ t → ⊥) → used_of (with_entry e t size) s ≡ used_of e s
      other n = used-looked s ∙ ap (λ (x : DaySeries). x.used) (at_other s n)

      go : (b : Bool) → eqb t s ≡ b
          → used_of (with_entry e t size) s ≡ cond b (used_of e s + size) (used_of e s)
      go true q =
          rw (← eqb-true t s q) (used-looked t ∙ ap (λ (x : DaySeries). x.used) at_same)
      go false q = other λ z. eqb-false t s q (sym z)

none-used : (ss rs : List ℕ) (n i : ℕ) → (get_or (opened_series ss rs ++ replicate n no_series) i no_series).used ≡ 0
none-used [] rs zero i = refl
none-used [] rs (suc n) zero = refl
none-used [] rs (suc n) (suc i) = none-used [] rs n i
none-used (s ∷ ss) [] n zero = refl
none-used (s ∷ ss) [] n (suc i) = none-used ss [] n i
none-used (s ∷ ss) (r ∷ rs) n zero = refl
none-used (s ∷ ss) (r ∷ rs) n (suc i) = none-used ss rs n i

pub opened-used : (date : ℕ) (ss rs : List ℕ) (s : ℕ) → used_of (opened_sender date ss rs) s ≡ 0
unfolding used_of
opened-used date ss rs s =
    none-used ss rs (most_series - length (opened_series ss rs)) (index_of s (day_series (opened_sender date ss rs)))

pub fresh-used : (s : ℕ) → used_of fresh_sender s ≡ 0
unfolding used_of fresh_sender
fresh-used s = none-used [] [] most_series (index_of s (day_series fresh_sender))
