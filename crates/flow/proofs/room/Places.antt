-- The shares of the day's places, that at one place with so many bytes more. Assumes nothing.
use Prim.Native.Nat.{ℕ, zero, suc, ◌+◌, ◌-◌, ◌<◌, ◌≤◌}
use native.Mathlib.Omega.{arith}
use mathlib.Core.Path.{◌≡◌, refl, sym, ap, ◌∙◌}
use mathlib.Core.List.{List, [], ◌∷◌, map}
use mathlib.Core.Bool.{Bool, true, false, cond}
use borrow.Author.Tests.{ltb-true, ltb-false, eqb-true, eqb-false}
use lib.ListN.{length, length-map, get_or, take, drop, set, length-take}
use lib.Seq.{get_or-take}
use lib.Dec.{ltb, eqb}
use Rattle.flow.specs.declared.sender.Day.{Day}
use Rattle.flow.specs.declared.sender.DaySeries.{DaySeries}
use Rattle.flow.specs.declared.sender.Sender.{Sender}
use Rattle.flow.specs.Ends.{index_of, no_series, sum_of, larger, share_of, shares_of, day_series, is_served, reserve_of}
use Rattle.flow.specs.Ends.{used_of, grown_series, with_entry}
use Rattle.flow.specs.ShareHelpers.{share_with, shares_with, shares_in}
use Rattle.flow.proofs.ends.Lookups.{index-inside}
use Rattle.flow.proofs.room.Sums.{one-of-sum, sum_over, sum-turn, sum-end}

-- ─── One series ───

pub larger-first : (a b : ℕ) → a ≤ larger a b
larger-first a b = go (ltb a b) refl
  where
    go : (t : Bool) → ltb a b ≡ t → a ≤ cond t b a
    go true q =
        let p = ltb-true a b q in
        omega arith
    go false q = omega arith

-- ─── A place of the list ───

length-shares : (l : List DaySeries) (at more : ℕ) → length (shares_with l at more) ≡ length l
length-shares [] at more = refl
length-shares (x ∷ l) zero more = ap suc (length-map l (share_with 0))
length-shares (x ∷ l) (suc at) more = ap suc (length-shares l at more)

none_more : (l : List DaySeries) (i : ℕ) → i < length l → get_or (map (share_with 0) l) i 0 ≡ share_with 0 (get_or l i no_series)
none_more [] i h = absurd (omega arith)
none_more (x ∷ l) zero h = refl
none_more (x ∷ l) (suc i) h = none_more l i (omega arith)

share-here : (l : List DaySeries) (at more : ℕ) → at < length l
    → get_or (shares_with l at more) at 0 ≡ share_with more (get_or l at no_series)
share-here [] at more h = absurd (omega arith)
share-here (x ∷ l) zero more h = refl
share-here (x ∷ l) (suc at) more h = share-here l at more (omega arith)

share-else : (l : List DaySeries) (at more i : ℕ) → i < length l → (i ≡ at → ⊥)
    → get_or (shares_with l at more) i 0 ≡ share_with 0 (get_or l i no_series)
share-else [] at more i h n = absurd (omega arith)
share-else (x ∷ l) zero more zero h n = absurd (n refl)
share-else (x ∷ l) zero more (suc i) h n = none_more l i (omega arith)
share-else (x ∷ l) (suc at) more zero h n = refl
share-else (x ∷ l) (suc at) more (suc i) h n = share-else l at more i (omega arith) λ q. n (ap suc q)

share-at : (l : List DaySeries) (at more i : ℕ) → i < length l
    → get_or (shares_with l at more) i 0 ≡ share_with (cond (eqb i at) more 0) (get_or l i no_series)
share-at l at more i h = go (eqb i at) refl
  where
    go : (b : Bool) → eqb i at ≡ b
        → get_or (shares_with l at more) i 0 ≡ share_with (cond b more 0) (get_or l i no_series)
    go true q = rw (eqb-true i at q) (share-here l at more (rw (eqb-true i at q) at h))
    go false q = share-else l at more i h (eqb-false i at q)

-- ─── The loop over the places ───

module _ (day : Day) (at more : ℕ) where
  abbrev pub shares : List ℕ
  shares = shares_with (take day.count day.series) at more

  module _ (eight : length day.series ≡ 8) where
    -- So many are open: the count, at most 8.
    open-few : (i : ℕ) → i < day.count → i < 8 → i < length (take day.count day.series)
    open-few i h k = simp (length-take, eight) (omega arith)

    open-all : (i : ℕ) → day.count ≤ i → length (take day.count day.series) ≤ i
    open-all i h = simp length-take (omega arith)

    open-end : (i : ℕ) → 8 ≤ i → length (take day.count day.series) ≤ i
    open-end i h = simp (length-take, eight) (omega arith)

    shares-long : length shares ≡ length (take day.count day.series)
    shares-long = length-shares (take day.count day.series) at more

    -- The place i, with `extra` bytes more.
    module _ (i extra : ℕ) (few : i < day.count) (inside : i < 8) (x : extra ≡ cond (eqb i at) more 0) where
      share-is : get_or shares i 0 ≡ share_with extra (get_or day.series i no_series)
      share-is =
          share-at (take day.count day.series) at more i (open-few i few inside)
          ∙ rw (x, get_or-take day.count day.series i no_series few)

      there : i < length shares
      there = rw shares-long (open-few i few inside)

      module _ (left room : ℕ) (w : ltb left (sum_of (drop i shares)) ≡ ltb room (shares_in day at more)) (over : Bool)
          (o : over ≡ ltb left (share_with extra (get_or day.series i no_series))) where
        pub share-over : over ≡ true → true ≡ ltb room (shares_in day at more)
        share-over t =
            let a : left < share_with extra (get_or day.series i no_series) = ltb-true _ _ (sym o ∙ t) in
            sum_over shares i left (ltb room (shares_in day at more)) w there (rw share-is a)

        pub share-fits : over ≡ false → share_with extra (get_or day.series i no_series) ≤ left
        share-fits t = ltb-false _ _ (sym o ∙ t)

        -- What the series then uses is not above what is left.
        pub used-fits : over ≡ false → (get_or day.series i no_series).used + extra ≤ left
        used-fits t =
            let s = get_or day.series i no_series in
            let a = larger-first (s.used + extra) s.reserve in
            let b = share-fits t in
            omega arith

        pub share-turn : over ≡ false → (taken : ℕ) → taken ≡ share_with extra (get_or day.series i no_series)
            → ltb (left - taken) (sum_of (drop (i + 1) shares)) ≡ ltb room (shares_in day at more)
        share-turn t taken q =
            rw (q, ← share-is)
            (sum-turn shares i left (ltb room (shares_in day at more)) w there (rw share-is (share-fits t)))

    module _ (i left room : ℕ) (w : ltb left (sum_of (drop i shares)) ≡ ltb room (shares_in day at more)) where
      pub shares-all : day.count ≤ i → false ≡ ltb room (shares_in day at more)
      shares-all h =
          sum-end shares i left (ltb room (shares_in day at more)) w (rw shares-long (open-all i h))

      pub shares-end : 8 ≤ i → false ≡ ltb room (shares_in day at more)
      shares-end h =
          sum-end shares i left (ltb room (shares_in day at more)) w (rw shares-long (open-end i h))

-- ─── The end with an entry more ───

plain : (x : DaySeries) → share_of x ≡ share_with 0 x
plain x =
    let e : x.used + 0 ≡ x.used = omega arith in
    rw e

plain-all : (l : List DaySeries) → map share_of l ≡ map (share_with 0) l
plain-all [] = refl
plain-all (x ∷ l) = rw (plain x, plain-all l)

shares-set : (n : ℕ) (l : List DaySeries) (at more : ℕ) (x : DaySeries)
    → share_of x ≡ share_with more (get_or l at no_series)
    → map share_of (take n (set l at x)) ≡ shares_with (take n l) at more
shares-set zero l at more x q = refl
shares-set (suc n) [] at more x q = refl
shares-set (suc n) (y ∷ l) zero more x q = rw (q, plain-all (take n l))
shares-set (suc n) (y ∷ l) (suc at) more x q = rw (plain y, shares-set n l at more x q)

module _ (e : Sender) (s i : ℕ) (at : i ≡ index_of s (day_series e)) (size : ℕ) where
  grown : share_of (grown_series e s size) ≡ share_with size (get_or e.day.series i no_series)
  unfolding used_of reserve_of
  grown = rw at

  -- The shares of all series are those of the places.
  pub shares-entry : shares_of (with_entry e s size) ≡ shares_in e.day i size
  unfolding shares_of with_entry
  shares-entry = rw (← at) (ap sum_of (shares-set e.day.count e.day.series i size (grown_series e s size) grown))

  -- Where they are within the room, so is what the series then uses.
  pub used-within : is_served e s ≡ true → (room : ℕ) → shares_in e.day i size ≤ room
      → (get_or e.day.series i no_series).used + size ≤ room
  unfolding is_served day_series
  used-within h room w =
      let x = get_or e.day.series i no_series in
      let inside = index-inside s (day_series e) h in
      let few : i < length (take e.day.count e.day.series) =
      rw (at, ← length-map (take e.day.count e.day.series) (λ (y : DaySeries). y.series)) inside in
      let near : i < e.day.count = omega (arith, simp length-take at few) in
      let same = get_or-take e.day.count e.day.series i no_series near in
      let a = one-of-sum (shares_with (take e.day.count e.day.series) i size) i in
      let b : get_or (shares_with (take e.day.count e.day.series) i size) i 0 ≡ share_with size x =
      share-here (take e.day.count e.day.series) i size few ∙ rw same in
      let c = larger-first (x.used + size) x.reserve in
      omega arith
