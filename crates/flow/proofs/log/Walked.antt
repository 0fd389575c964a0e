-- The walk by the last number of each place, which is the walk by the series of the entries before; one turn of it,
-- over plain variables; and the used part of the log. Assumes nothing.
use Prim.Native.Nat.{ℕ, zero, suc, ◌+◌, ◌-◌, ◌<◌, ◌≤◌}
use mathlib.Core.Path.{◌≡◌, refl, sym, ap, ◌∙◌}
use mathlib.Core.List.{List, [], ◌∷◌}
use mathlib.Core.Bool.{Bool, true, false, cond, not}
use mathlib.Core.Option.{Option, none, some}
use native.Mathlib.Omega.{arith}
use borrow.Author.Tests.{lt-ltb, le-ltb, eqb-true, eqb-false, not-false}
use lib.ListN.{length, get_or, take, drop, set, replicate, length-set, length-take}
use lib.Seq.{take-take, get_or-set_same, get_or-set_other}
use lib.Dec.{eqb}
use Rattle.ftd.specs.Bytes.{part}
use Rattle.ftd.specs.Runs.{front, Run, run_of}
use Rattle.ftd.specs.Fields.{shaped, most_content}
use Rattle.ftd.proofs.Lists.{drop-part}
use Rattle.ftd.proofs.runs.Laws.{run-over, run-next, entry-inside, entry-head, entry_length}
use Rattle.flow.specs.declared.sender.Sender.{Sender}
use Rattle.flow.specs.declared.log.EntryStep.{EntryStep}
use Rattle.flow.specs.declared.log.EntryStep.TheVariants.{Wrong, Wanted, Passed}
use Rattle.flow.specs.Ends.{◌when◌else◌, index_of, day_series, is_served}
use Rattle.flow.specs.Log.{entry, entry_series, entry_number, times, nonzero, misnumbered, misshapen, is_wanted}
use Rattle.flow.specs.Log.{walk, log_short, entries_of, entry_of}
use Rattle.flow.specs.Helpers.{checked, PlaceInside, EntryIn}
use Rattle.flow.proofs.log.Heads.{part-size}
use Rattle.flow.proofs.ends.SenderLookups.{served-index, served-apart}
use Rattle.std.specs.Prelude.{Some, None}
use Rattle.flow.specs.Types.{MaybePlace, some_place}

-- ─── The walk by the last number of each place ───

abbrev pub turned : EntryStep → List ℕ → (List ℕ → Option (List ℕ)) → List ℕ → Option (List ℕ)
turned Wrong x more last = none
turned Wanted x more last = some x
turned (Passed i number) x more last = more (set last i number)

abbrev pub walk_by : Sender → ℕ → ℕ → List ℕ → List (List ℕ) → Option (List ℕ)
walk_by e s k last [] = none
walk_by e s k last (x ∷ xs) = turned (checked e last s k x) x (λ l. walk_by e s k l xs) last

-- The last number of a series' first place is how often the series was there before.
pub record Tracks (e : Sender) (earlier last : List ℕ) : Type 0 where
  pub eight : length last ≡ 8
  pub counts : (t : ℕ) → is_served e t ≡ true → get_or last (index_of t (day_series e)) 0 ≡ times t earlier

zeros : (n i : ℕ) → get_or {A = ℕ} (replicate n 0) i 0 ≡ 0
zeros zero i = refl
zeros (suc n) zero = refl
zeros (suc n) (suc i) = zeros n i

-- None before.
pub tracks-none : (e : Sender) → Tracks e [] (replicate 8 0)
tracks-none e = record { eight = refl; counts = λ t h. zeros 8 (index_of t (day_series e)) }

module _ (e : Sender) (eight : length e.day.series ≡ 8) where
  place-below : (t : ℕ) → is_served e t ≡ true → index_of t (day_series e) < 8
  place-below t h = omega (arith, served-index e t h)

  -- One more of a series.
  tracks-next : (earlier last : List ℕ) (t number : ℕ) → is_served e t ≡ true → Tracks e earlier last
      → number ≡ suc (times t earlier) → Tracks e (t ∷ earlier) (set last (index_of t (day_series e)) number)
  tracks-next earlier last t number h c n =
      record {
        eight = length-set last (index_of t (day_series e)) number ∙ c.eight;
        counts = λ u g. go u g (eqb t u) refl;
      }
    where
      go : (u : ℕ) → is_served e u ≡ true → (b : Bool) → eqb t u ≡ b
          → get_or (set last (index_of t (day_series e)) number) (index_of u (day_series e)) 0
          ≡ cond b (suc (times u earlier)) (times u earlier)
      go u g true q =
          rw (← eqb-true t u q)
          (get_or-set_same last (index_of t (day_series e)) number 0 (omega (arith, place-below t h, c.eight)) ∙ n)
      go u g false q =
          get_or-set_other last (index_of t (day_series e)) (index_of u (day_series e)) number 0
          (served-apart e t h u λ p. eqb-false t u q (sym p))
          ∙ c.counts u g

  module _ (s k : ℕ) where
    -- The tests of an entry in an open series, on either side.
    rows : (earlier last x : List ℕ) (xs : List (List ℕ)) (i number : ℕ) (b c d w : Bool) →
        (c ≡ false → walk e s k (entry_series x ∷ earlier) xs ≡ walk_by e s k (set last i number) xs) →
        (none when b else none when c else none when d else some x when w else walk e s k (entry_series x ∷ earlier) xs)
        ≡ turned (Wrong when b else Wrong when c else Wrong when d else Wanted when w else Passed i number) x
        (λ l. walk_by e s k l xs) last
    rows earlier last x xs i number true c d w h = refl
    rows earlier last x xs i number false true d w h = refl
    rows earlier last x xs i number false false true w h = refl
    rows earlier last x xs i number false false false true h = refl
    rows earlier last x xs i number false false false false h = h refl

    -- An entry more, from the walk behind it.
    turn : (earlier last x : List ℕ) (xs : List (List ℕ)) → Tracks e earlier last
        → (a : Bool) → is_served e (entry_series x) ≡ a
        → ((a l : List ℕ) → Tracks e a l → walk e s k a xs ≡ walk_by e s k l xs)
        → walk e s k earlier (x ∷ xs) ≡ walk_by e s k last (x ∷ xs)
    unfolding checked
    turn earlier last x xs h false q more = rw q
    turn earlier last x xs h true q more =
        rw (q, h.counts (entry_series x) q)
        (rows earlier last x xs (index_of (entry_series x) (day_series e)) (entry_number x) (nonzero x)
        (misnumbered earlier x) (misshapen x) (is_wanted s k x) λ g.
        more (entry_series x ∷ earlier) (set last (index_of (entry_series x) (day_series e)) (entry_number x))
        (tracks-next earlier last (entry_series x) (entry_number x) q h
        (eqb-true (entry_number x) (suc (times (entry_series x) earlier)) (not-false _ g))))

    pub walk-by : (earlier last : List ℕ) (xs : List (List ℕ)) → Tracks e earlier last
        → walk e s k earlier xs ≡ walk_by e s k last xs
    walk-by earlier last [] h = refl
    walk-by earlier last (x ∷ xs) h =
        turn earlier last x xs h (is_served e (entry_series x)) refl (λ a l g. walk-by a l xs g)

-- ─── One turn ───

pub some-entry : 0 < entry.head
unfolding entry
some-entry = omega arith

-- The one wanted has content that 7 lets pass.
wanted-shaped : (e : Sender) (last : List ℕ) (s k : ℕ) (x : List ℕ) → checked e last s k x ≡ Wanted
    → shaped (drop 16 x) most_content ≡ true
unfolding checked
wanted-shaped e last s k x q =
    go (not (is_served e (entry_series x))) (nonzero x)
    (not (eqb (entry_number x) (suc (get_or last (index_of (entry_series x) (day_series e)) 0))))
    (shaped (drop 16 x) most_content) q
  where
    rest : EntryStep
    rest = Wanted when is_wanted s k x else Passed (index_of (entry_series x) (day_series e)) (entry_number x)

    go : (a b c d : Bool) → (Wrong when a else Wrong when b else Wrong when c else Wrong when not d else rest) ≡ Wanted
        → d ≡ true
    go true b c d q = let z : ◌≡◌ {A = ℕ} 0 1 = cc in absurd (omega arith)
    go false true c d q = let z : ◌≡◌ {A = ℕ} 0 1 = cc in absurd (omega arith)
    go false false true d q = let z : ◌≡◌ {A = ℕ} 0 1 = cc in absurd (omega arith)
    go false false false true q = refl
    go false false false false q = let z : ◌≡◌ {A = ℕ} 0 1 = cc in absurd (omega arith)

module _ (e : Sender) (s k : ℕ) (l : List ℕ) (at n : ℕ) (m : n ≡ front entry (drop at l)) (last : List ℕ)
    (o : Option (List ℕ)) (inv : walk_by e s k last (run_of entry (drop at l)).entries ≡ o) where
  pub walk-over : n ≡ 0 → o ≡ none
  walk-over z = sym inv ∙ ap (λ (r : Run). walk_by e s k last r.entries) (run-over entry some-entry l at n m z)

  module _ (z : n ≡ 0 → ⊥) where
    pub entry-long : 16 ≤ n
    unfolding entry
    entry-long = entry-head entry some-entry l at n m z

    -- It is lent as a part of the bytes.
    pub entry-part : 16 ≤ length (take (at + n - at) (drop at l))
    entry-part = rw (part-size at n, entry_length entry some-entry l at n m) entry-long

    module _ (r : EntryStep) (c : r ≡ checked e last s k (take (at + n - at) (drop at l))) where
      here : r ≡ checked e last s k (take n (drop at l))
      here = rw (part-size at n) at c

      opened : o ≡ turned r (take n (drop at l)) (λ v. walk_by e s k v (run_of entry (drop (at + n) l)).entries) last
      opened =
          sym inv ∙ ap (λ (r : Run). walk_by e s k last r.entries) (run-next entry some-entry l at n m z)
          ∙ ap (λ (t : EntryStep).
          turned t (take n (drop at l)) (λ v. walk_by e s k v (run_of entry (drop (at + n) l)).entries) last) (sym here)

      pub walk-wrong : r ≡ Wrong → o ≡ none
      walk-wrong q = rw q at opened

      pub walk-wanted : at ≤ length l → r ≡ Wanted → EntryIn o l (some_place at n)
      walk-wanted h q = (
        rw q at opened,
        entry-long,
        omega (arith, entry-inside entry some-entry l at n m),
        wanted-shaped e last s k (take n (drop at l)) (sym here ∙ q),
      )

      pub walk_turn : (i number : ℕ) → r ≡ Passed i number
          → walk_by e s k (set last i number) (run_of entry (drop (at + n) l)).entries ≡ o
      walk_turn i number q = sym (rw q at opened)

-- The place of an entry that is passed.
pub passed-inside : (r : EntryStep) (i number : ℕ) → PlaceInside r → r ≡ Passed i number → i < 8
passed-inside r i number h q = rw q at h

-- ─── The used part ───

module _ (e : Sender) (log : List ℕ) (s k : ℕ) where
  pub find-short : length log < e.day.used → entry_of e log s k ≡ none
  unfolding entry_of log_short
  find-short h = rw (lt-ltb (length log) e.day.used h)

  module _ (h : e.day.used ≤ length log) where
    -- What lies in the used part lies there in the log.
    used-part : (start size : ℕ) → start + size ≤ length (take e.day.used log)
        → part (take e.day.used log) start size ≡ part log start size
    used-part start size g =
        let few : start + size ≤ e.day.used = omega (arith, length-take e.day.used log) in
        rw (drop-part start e.day.used log) (take-take size (e.day.used - start) (drop start log) (omega arith))

    in-used : (r : MaybePlace)
        → EntryIn (walk e s k [] (run_of entry (take e.day.used log)).entries) (take e.day.used log) r
        → EntryIn (entry_of e log s k) log r
    unfolding entry_of log_short entries_of
    in-used None f = rw (le-ltb (length log) e.day.used h) f
    in-used (Some found) f =
        let p = used-part found.start found.size f.2 in
        rw (le-ltb (length log) e.day.used h) (
          f.0 ∙ ap some p,
          f.1,
          omega (arith, f.2, length-take e.day.used log),
          ap (λ (x : List ℕ). shaped (drop 16 x) most_content) (sym p) ∙ f.3,
        )

    pub find-used : (r : MaybePlace)
        → EntryIn (walk e s k [] (run_of entry (take (e.day.used - 0) log)).entries) (take (e.day.used - 0) log) r
        → EntryIn (entry_of e log s k) log r
    find-used r f =
        let z : e.day.used - 0 ≡ e.day.used = omega arith in
        in-used r (rw z at f)
