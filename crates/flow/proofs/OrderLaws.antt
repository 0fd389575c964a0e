-- The order of two serving ends: its laws, of any ends and logs; and of ends that calls have made. Assumes nothing.
use Prim.Native.Nat.{ℕ}
use mathlib.Core.Path.{◌≡◌, refl, sym, ap, ◌∙◌}
use mathlib.Core.Logic.{◌⊎◌, inl, inr}
use mathlib.Core.List.{List, [], ◌∷◌, ◌++◌, append_assoc}
use mathlib.Core.Bool.{Bool, true, false, not, ◌||◌}
use mathlib.Core.Option.{Option, none, some}
use lib.ListN.{take}
use Rattle.ftd.specs.declared.refusal.Refusal.{Refusal}
use Rattle.ftd.specs.declared.refusal.Refusal.TheVariants.{UnknownSeries, OtherDay, DamagedLog}
use Rattle.flow.specs.declared.sender.Day.{Day}
use Rattle.flow.specs.declared.sender.Seat.{Seat}
use Rattle.flow.specs.declared.sender.Sender.{Sender}
use Rattle.flow.specs.declared.order.Order.{Order}
use Rattle.flow.specs.declared.order.Order.TheVariants.{Same, FirstStarts, Refused}
use Rattle.flow.specs.Ends.{◌when◌else◌, day_series, is_served, published_of}
use Rattle.ftd.specs.Runs.{run_of}
use Rattle.flow.specs.Log.{entry, entry_series, log_short, entries_of}
use Rattle.flow.specs.Answers.{Message}
use Rattle.flow.specs.World.{SenderSide, start, run}
use Rattle.flow.specs.Agreement.{of}
use Rattle.flow.specs.Order.{gather, logged, order_from, order_read, other_date, order_of, swapped, ProperStart}
use Rattle.flow.specs.Order.{Compares, OrderLaws}
use Rattle.flow.proofs.source.Served.{ServedSide}
use Rattle.flow.proofs.source.Entries.{served-day}
use Rattle.flow.proofs.source.Sources.{run-source}
use Rattle.flow.proofs.order.Lists.{same_lists, first-starts, second-starts, differ-at, from-swapped}
use Rattle.flow.proofs.order.Lists.{no, never-differ, never-refused}
use Rattle.flow.proofs.order.Logged.{logged-damaged, logged-reads}
use Rattle.flow.proofs.order.Given.{date-sym, unknown, other-day, damaged-log, no_other, compared, compares}
use Rattle.flow.proofs.order.Made.{logged-published}
use Rattle.std.specs.Prelude.{Some}

-- ─── Of any ends and logs ───

module _ (s : ℕ) (a : Sender) (log : List ℕ) (b : Sender) (other : List ℕ) where
  exchanged : order_of s b other a log ≡ swapped (order_of s a log b other)
  unfolding order_of
  exchanged =
      rw (date-sym a.day.date b.day.date)
      (go (is_served a s) (is_served b s) (other_date a.day.date b.day.date) (logged a log s) (logged b other s))
    where
      go : (x y z : Bool) (o p : Option (List Message)) →
          (Refused UnknownSeries when not y || not x else Refused OtherDay when z else order_read p o)
          ≡ swapped (Refused UnknownSeries when not x || not y else Refused OtherDay when z else order_read o p)
      go true true true o p = refl
      go true true false none none = refl
      go true true false none (some m) = refl
      go true true false (some l) none = refl
      go true true false (some l) (some m) = from-swapped 1 l m
      go true false z o p = refl
      go false true z o p = refl
      go false false z o p = refl

-- Of an end its day counts.
gather-days : (a b : Sender) → ((t : ℕ) → is_served a t ≡ is_served b t) → (s n : ℕ) (earlier : List ℕ)
    (xs : List (List ℕ)) → gather a s n earlier xs ≡ gather b s n earlier xs
gather-days a b h s n earlier [] = refl
gather-days a b h s n earlier (x ∷ xs) =
    let f = h (entry_series x) in
    let g = gather-days a b h s n (entry_series x ∷ earlier) xs in
    rw (f, g)

module _ (day : Day) (x y : Seat) where
  abbrev one : Sender
  one = record { day = day; seat = x }

  abbrev two : Sender
  two = record { day = day; seat = y }

  same-served : (t : ℕ) → is_served one t ≡ is_served two t
  unfolding is_served day_series
  same-served t = refl

  same_count : (s : ℕ) → published_of one s ≡ published_of two s
  unfolding published_of day_series
  same_count s = refl

  same_logged : (log : List ℕ) (s : ℕ) → logged one log s ≡ logged two log s
  unfolding logged log_short entries_of
  same_logged log s =
      let g = gather-days one two same-served s (published_of two s) [] (run_of entry (take day.used log)).entries in
      rw (same_count s, g)

  seats : (s : ℕ) (log : List ℕ) (b : Sender) (other : List ℕ)
      → order_of s one log b other ≡ order_of s two log b other
  unfolding order_of
  seats s log b other = rw (same-served s, same_logged log s)

itself : (s : ℕ) (e : Sender) (log : List ℕ)
    → (order_of s e log e log ≡ Same) ⊎ ((r : Refusal) × (order_of s e log e log ≡ Refused r))
itself s e log = elim (compared s e log e log) [
  | inl r ↦ inr r
  | inr c ↦ inl (same c)
]
  where
    same : (l : List Message) × (m : List Message) × Compares s e log e log l m → order_of s e log e log ≡ Same
    same c =
        let z : c.0 ≡ c.1 = some_is c.0 c.1 (sym c.2.first ∙ c.2.second) in
        compares s e log e log c.0 c.1 c.2 ∙ (same_lists c.0 c.1).1 z
      where
        some_is : (x y : List Message) → some x ≡ some y → x ≡ y
        some_is x y q = cc

-- ─── Of three ends ───

start_of : (l m n : List Message) → ProperStart l m → ProperStart m n → ProperStart l n
start_of l m n p q =
    let z : n ≡ l ++ (p.0 ∷ (p.1 ++ (q.0 ∷ q.1))) =
    q.2 ∙ ap (λ (v : List Message). v ++ (q.0 ∷ q.1)) p.2 ∙ append_assoc l (p.0 ∷ p.1) (q.0 ∷ q.1) in
    (p.0, p.1 ++ (q.0 ∷ q.1), z)

module _ (s : ℕ) (a b c : Sender) (log other third : List ℕ) where
  -- An answer on the lists goes on where the lists do.
  answers : (o : Order) → ((r : Refusal) → o ≡ Refused r → ⊥)
      → ((l m n : List Message) → order_from 1 l m ≡ o → order_from 1 m n ≡ o → order_from 1 l n ≡ o)
      → order_of s a log b other ≡ o → order_of s b other c third ≡ o → order_of s a log c third ≡ o
  answers o never on p q = elim (compared s a log b other) [
    | inl r ↦ absurd (never r.0 (sym p ∙ r.1))
    | inr f ↦ elim (compared s b other c third) [
      | inl r ↦ absurd (never r.0 (sym q ∙ r.1))
      | inr g ↦ go f.0 f.1 g.0 g.1 f.2 g.2
    ]
  ]
    where
      some_is : (x y : List Message) → some x ≡ some y → x ≡ y
      some_is x y q = cc

      go : (l m k n : List Message) → Compares s a log b other l m → Compares s b other c third k n
          → order_of s a log c third ≡ o
      go l m k n f g =
          let z : k ≡ m = some_is k m (sym g.first ∙ f.second) in
          let h : Compares s a log c third l n =
          record {
            first-open = f.first-open;
            second-open = g.second-open;
            day = f.day ∙ g.day;
            first = f.first;
            second = g.second;
          } in
          compares s a log c third l n h
          ∙ on l m n (sym (compares s a log b other l m f) ∙ p)
          (ap (λ (v : List Message). order_from 1 v n) (sym z) ∙ sym (compares s b other c third k n g) ∙ q)

  same-on : order_of s a log b other ≡ Same → order_of s b other c third ≡ Same → order_of s a log c third ≡ Same
  same-on =
      answers Same (λ r q. no cc)
      (λ l m n p q. (same_lists l n).1 ((same_lists l m).0 p ∙ (same_lists m n).0 q))

  start-on : order_of s a log b other ≡ FirstStarts → order_of s b other c third ≡ FirstStarts
      → order_of s a log c third ≡ FirstStarts
  start-on =
      answers FirstStarts (λ r q. no cc)
      (λ l m n p q. (first-starts l n).1 (start_of l m n ((first-starts l m).0 p) ((first-starts m n).0 q)))

-- ─── Of ends that calls have made ───

module _ (v u : SenderSide) (h : ServedSide v) (k : ServedSide u) (s : ℕ) where
  pub sides : (d : ℕ) → v.day ≡ Some d → u.day ≡ Some d → is_served v.end s ≡ true → is_served u.end s ≡ true
      → Compares s v.end v.log u.end u.log (of s d v.published) (of s d u.published)
  sides d a b x y =
      record {
        first-open = x;
        second-open = y;
        day = h.same-day ∙ a ∙ sym b ∙ sym k.same-day;
        first = logged-published v h s d a x;
        second = logged-published u k s d b y;
      }

  pub no-damage : order_of s v.end v.log u.end u.log ≡ Refused DamagedLog → ⊥
  no-damage q =
      let p = (damaged-log s v.end v.log u.end u.log).0 q in
      let i = served-day v.end v.log v.day v.published h s p.0 in
      let j : u.day ≡ Some i.0 = sym k.same-day ∙ sym p.2 ∙ h.same-day ∙ i.1 in
      let c = sides i.0 i.1 j p.0 p.1 in
      let l = of s i.0 v.published in
      let m = of s i.0 u.published in
      never-refused 1 l m DamagedLog (sym (compares s v.end v.log u.end u.log l m c) ∙ q)

pub order-laws : OrderLaws
order-laws =
    record {
      damaged = logged-damaged;
      count = λ e log s l q. (logged-reads e log s l q).0;
      entries = λ e log s l q. (logged-reads e log s l q).1;
      compares = compares;
      compared = compared;
      unknown = unknown;
      other-day = other-day;
      damaged-log = damaged-log;
      no_other = no_other;
      same_lists = same_lists;
      first-starts = first-starts;
      second-starts = second-starts;
      differ-at = differ-at;
      itself = itself;
      exchanged = exchanged;
      same-on = same-on;
      start-on = start-on;
      seats = λ s day x y. seats day x y s;
      starts = never-differ 1;
      made = λ log buffer other buffer' es fs s d a b x y.
          let v = (run (start log buffer) es).serving in
          let u = (run (start other buffer') fs).serving in
          compares s v.end v.log u.end u.log (of s d v.published) (of s d u.published)
          (sides v u (run-source log buffer es).served (run-source other buffer' fs).served s d a b x y);
      undamaged = λ log buffer other buffer' es fs s.
          no-damage (run (start log buffer) es).serving (run (start other buffer') fs).serving
          (run-source log buffer es).served (run-source other buffer' fs).served s;
    }
