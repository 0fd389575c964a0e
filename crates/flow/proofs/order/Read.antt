-- What the tests on a log and the walk of the entries of a series say together is what `logged` reads off it; and the
-- order by these. Over plain variables. Assumes nothing.
use Prim.Native.Nat.{ℕ, zero, suc}
use mathlib.Core.Path.{◌≡◌, refl, sym, ap, ◌∙◌}
use mathlib.Core.List.{List, [], ◌∷◌}
use mathlib.Core.Bool.{Bool, true, false}
use mathlib.Core.Option.{Option, none, some}
use native.Mathlib.Omega.{arith}
use borrow.Author.Tests.{eq-eqb, ne_eqb, eqb-false}
use lib.ListN.{length, get_or, take}
use lib.Dec.{eqb}
use Rattle.ftd.specs.Runs.{run_of}
use Rattle.ftd.specs.declared.refusal.Refusal.TheVariants.{UnknownSeries, OtherDay, DamagedLog}
use Rattle.flow.specs.declared.sender.Sender.{Sender}
use Rattle.flow.specs.Types.{SeriesPlace}
use Rattle.flow.specs.declared.order.Order.{Order}
use Rattle.flow.specs.declared.order.Order.TheVariants.{Refused}
use Rattle.flow.specs.Ends.{◌when◌else◌, is_served, no_series, published_of}
use Rattle.flow.specs.Log.{entry, entry_series, entry_number, strange_series, nonzero, misnumbered, misshapen}
use Rattle.flow.specs.Log.{is_wanted, entries_of, log_short, entry_of}
use Rattle.flow.specs.Answers.{Message}
use Rattle.flow.specs.Helpers.{Finds, EntryIn}
use Rattle.flow.specs.Order.{message_of, ahead, gather, logged, order_from, order_read, other_date, order_of}
use Rattle.flow.specs.OrderHelpers.{of_series, messages_in, is_found, last_found, UsedPart}
use Rattle.flow.proofs.common.Bools.{and_both, clash}
use Rattle.flow.proofs.common.Extends.{none-some}
use Rattle.flow.proofs.order.Logged.{some_is, suc-not, ahead-some, logged-damaged, logged-reads}
use Rattle.flow.proofs.order.Walked.{none_left}
use Rattle.flow.proofs.sender.Lookups.{published-at}
use Rattle.std.specs.Prelude.{Some, None}
use Rattle.std.specs.Option.{is_some}
use Rattle.flow.specs.Types.{MaybePlace}
use Rattle.flow.specs.declared.log.EntryPlace.{EntryPlace}

-- ─── The last entry ───

module _ (e : Sender) (log : List ℕ) (s n : ℕ) where
  pub last_none : n ≡ 0 → true ≡ last_found e log s n
  unfolding last_found
  last_none z = rw (eq-eqb n 0 z)

  module _ (z : n ≡ 0 → ⊥) (r : MaybePlace) (f : EntryIn (entry_of e log s n) log r) where
    pub last-damaged : r ≡ None → false ≡ last_found e log s n
    unfolding last_found
    last-damaged q = let g : entry_of e log s n ≡ none = rw q at f in rw (ne_eqb n 0 z, g)

    pub last-there : (found : EntryPlace) → r ≡ Some found → true ≡ last_found e log s n
    unfolding last_found
    last-there found q =
        let g : EntryIn (entry_of e log s n) log ((Some found)) = rw q at f in
        rw (ne_eqb n 0 z, g.0)

    pub last-either : is_some r ≡ last_found e log s n
    last-either = go r refl
      where
        go : (o : MaybePlace) → r ≡ o → is_some o ≡ last_found e log s n
        go None q = last-damaged q
        go (Some found) q = last-there found q

-- ─── The messages read off are the first of the series ───

gather-first : (e : Sender) (s n : ℕ) (earlier : List ℕ) (xs : List (List ℕ)) (l : List Message)
    → gather e s n earlier xs ≡ some l → l ≡ take (length l) (of_series s xs)
gather-first e s n earlier [] l q = absurd (none-some l q)
gather-first e s n earlier (x ∷ xs) l q =
    go (strange_series e x) (nonzero x) (misnumbered earlier x) (misshapen x) (is_wanted s n x) refl
    (gather-first e s n (entry_series x ∷ earlier) xs) q
  where
    Rest : Type 0
    Rest =
        (r : List Message) → gather e s n (entry_series x ∷ earlier) xs ≡ some r → r ≡ take (length r) (of_series s xs)

    ahead_of : (b : Bool) → eqb (entry_series x) s ≡ b → Rest
        → ahead b (message_of x) (gather e s n (entry_series x ∷ earlier) xs) ≡ some l
        → l ≡ take (length l) (message_of x ∷ of_series s xs when b else of_series s xs)
    ahead_of true h more r =
        let f = ahead-some true (message_of x) (gather e s n (entry_series x ∷ earlier) xs) l r in
        rw f.2 (ap (λ (v : List Message). message_of x ∷ v) (more f.0 f.1))
    ahead_of false h more r =
        let f = ahead-some false (message_of x) (gather e s n (entry_series x ∷ earlier) xs) l r in
        rw f.2 (more f.0 f.1)

    go : (a b c d f : Bool) → is_wanted s n x ≡ f → Rest
        → (none when a else none when b else none when c else none when d else some (message_of x ∷ []) when f else
        ahead (eqb (entry_series x) s) (message_of x) (gather e s n (entry_series x ∷ earlier) xs)) ≡ some l
        → l ≡ take (length l) (of_series s (x ∷ xs))
    go true b c d f qf more r = absurd (none-some l r)
    go false true c d f qf more r = absurd (none-some l r)
    go false false true d f qf more r = absurd (none-some l r)
    go false false false true f qf more r = absurd (none-some l r)
    go false false false false true qf more r =
        let w = and_both (eqb (entry_series x) s) (eqb (entry_number x) n) qf in
        rw (← (some_is (message_of x ∷ []) l r), w.0)
    go false false false false false qf more r = ahead_of (eqb (entry_series x) s) refl more r

module _ (e : Sender) (log : List ℕ) (s n : ℕ) (p : n ≡ published_of e s) where
  logged-first : (l : List Message) → logged e log s ≡ some l → l ≡ take n (messages_in s (take e.day.used log))
  unfolding logged messages_in entries_of
  logged-first l q =
      go (published_of e s) refl (log_short e log) q
    where
      count : length l ≡ n
      count = (logged-reads e log s l q).0 ∙ sym p

      go : (k : ℕ) → published_of e s ≡ k → (b : Bool)
          → (some [] when eqb k 0 else none when b else gather e s k [] (entries_of e log)) ≡ some l
          → l ≡ take n (of_series s (run_of entry (take e.day.used log)).entries)
      go zero z b r = sym (some_is [] l r) ∙ sym (none_left n _ (p ∙ z))
      go (suc k) z true r = absurd (none-some l (rw (suc-not k) at r))
      go (suc k) z false r =
          gather-first e s (suc k) [] (entries_of e log) l (rw (suc-not k) at r)
          ∙ ap (λ (j : ℕ). take j (of_series s (entries_of e log))) count

  not_found : logged e log s ≡ none → last_found e log s n ≡ false
  unfolding last_found
  not_found q =
      let d = (logged-damaged e log s).0 q in
      let g : entry_of e log s n ≡ none = ap (entry_of e log s) p ∙ d.1 in
      rw (ne_eqb n 0 (λ z. omega (arith, p, d.0)), g)

  damage : (b : Bool) → eqb n 0 ≡ b → (o : Option (List ℕ)) → entry_of e log s n ≡ o
      → (true when b else is_found o) ≡ false → logged e log s ≡ none
  damage true z o q f = clash _ refl f
  damage false z (some x) q f = clash _ refl f
  damage false z none q f =
      (logged-damaged e log s).1 (
        let h = eqb-false n 0 z in omega (arith, p),
        ap (entry_of e log s) (sym p) ∙ q,
      )

  -- By what `finds_last` answers.
  pub read_found : (b : Bool) → b ≡ last_found e log s n → b ≡ true
      → logged e log s ≡ some (take n (messages_in s (take e.day.used log)))
  read_found b f z = go (logged e log s) refl
    where
      go : (o : Option (List Message)) → logged e log s ≡ o → o ≡ some (take n (messages_in s (take e.day.used log)))
      go none q = clash _ (sym f ∙ z) (not_found q)
      go (some l) q = ap some (logged-first l q)

  pub read-damaged : (b : Bool) → b ≡ last_found e log s n → b ≡ false → logged e log s ≡ none
  unfolding last_found
  read-damaged b f z = damage (eqb n 0) refl (entry_of e log s n) refl (sym f ∙ z)

-- ─── The order, test by test ───

module _ (s : ℕ) (a : Sender) (log : List ℕ) (b : Sender) (other : List ℕ) (f : SeriesPlace) (x : Finds a s f) where
  pub first-unknown : f ≡ None → Refused UnknownSeries ≡ order_of s a log b other
  unfolding order_of
  first-unknown q = let h : is_served a s ≡ false = rw q at x in rw h

  module _ (i : ℕ) (q : f ≡ Some i) (g : SeriesPlace) (y : Finds b s g) where
    first_found : Finds a s (Some i)
    first_found = rw q at x

    pub second-unknown : g ≡ None → Refused UnknownSeries ≡ order_of s a log b other
    unfolding order_of
    second-unknown r = let h : is_served b s ≡ false = rw r at y in rw (first_found.0, h)

    module _ (j : ℕ) (r : g ≡ Some j) (d : Bool) (w : d ≡ other_date a.day.date b.day.date) where
      second-found : Finds b s (Some j)
      second-found = rw r at y

      pub other-days : d ≡ true → Refused OtherDay ≡ order_of s a log b other
      unfolding order_of
      other-days z = rw (first_found.0, second-found.0, ← w, z)

      module _ (v : d ≡ false) (m : Bool)
          (k : m ≡ last_found a log s (get_or a.day.series i no_series).published) where
        read : order_read (logged a log s) (logged b other s) ≡ order_of s a log b other
        unfolding order_of
        read = rw (first_found.0, second-found.0, ← w, v)

        pub first-damaged : m ≡ false → Refused DamagedLog ≡ order_of s a log b other
        first-damaged z =
            let o = read-damaged a log s _ (published-at a s i first_found.1) m k z in
            ap (λ (v : Option (List Message)). order_read v (logged b other s)) (sym o) ∙ read

        module _ (z : m ≡ true) (n : Bool)
            (l : n ≡ last_found b other s (get_or b.day.series j no_series).published) where
          first_read : logged a log s
              ≡ some (take (get_or a.day.series i no_series).published (messages_in s (take a.day.used log)))
          first_read = read_found a log s _ (published-at a s i first_found.1) m k z

          pub second-damaged : n ≡ false → Refused DamagedLog ≡ order_of s a log b other
          second-damaged u =
              let p = read-damaged b other s _ (published-at b s j second-found.1) n l u in
              rw (first_read, p) at read

          pub both_read : n ≡ true → (used : ℕ) → UsedPart log a.day.used used
              → (more : ℕ) → UsedPart other b.day.used more → (o : Order)
              → o ≡ order_from 1
              (take (get_or a.day.series i no_series).published (messages_in s (take used log)))
              (take (get_or b.day.series j no_series).published (messages_in s (take more other)))
              → o ≡ order_of s a log b other
          both_read u used c more e o h =
              let p = read_found b other s _ (published-at b s j second-found.1) n l u in
              (rw (c.1, e.1) at h) ∙ (rw (first_read, p) at read)
