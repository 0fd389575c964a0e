-- What holds of a book against the events taken is kept by each event that is not refused. Assumes nothing.
use Prim.Native.Nat.{ℕ, zero, suc, ◌-◌, ◌<◌, ◌≤◌}
use mathlib.Core.Path.{◌≡◌, refl, sym, ap, ◌∙◌}
use mathlib.Core.List.{List, [], ◌∷◌, ◌++◌}
use mathlib.Core.Bool.{Bool, true, false, cond, false≢true}
use native.Mathlib.Omega.{arith}
use native.Mathlib.Nat.{add-zero}
use borrow.Author.Tests.{lt-ltb, le-ltb, ltb-true, ltb-false, ne_eqb, eqb-true, eqb-false}
use lib.ListN.{length, get_or}
use lib.IntN.{ℤ, pos, negsuc, ◌+ℤ◌, ◌-ℤ◌, ◌*ℤ◌}
use lib.Dec.{ltb, leb, eqb}
use Rattle.ftd.specs.declared.refusal.Refusal.{Refusal}
use Rattle.ftd.specs.declared.refusal.Refusal.TheVariants.{Quantity, Levels, Volume}
use Rattle.book.specs.declared.levels.Level.{Level}
use Rattle.book.specs.declared.levels.Side.{Side}
use Rattle.book.specs.Types.{Quantity as NewQuantity}
use Rattle.book.specs.declared.event.Event.{Event}
use Rattle.book.specs.declared.event.Event.TheVariants.{Nothing, Quotation, Match}
use Rattle.book.specs.declared.sums.Sums.{Sums}
use Rattle.book.specs.Types.{Total}
use Rattle.book.specs.Types.{Totals}
use Rattle.book.specs.declared.calls.Book.{Book}
use Rattle.book.specs.Types.{Outcome}
use Rattle.book.specs.Levels.{empty, used, same_price, quantity_at, put_at, placed, is_full}
use Rattle.book.specs.Quantity.{twos, in_range, new_of, lacks}
use Rattle.book.specs.Sums.{beyond, added_to, both_of, summed_with}
use Rattle.book.specs.Calls.{one_more, quote_with, quote_on, quotation_on, lowered, match_check, match_with, match_summed}
use Rattle.book.specs.Calls.{checked_match, match_on, applied}
use Rattle.book.specs.Agreement.{same_side, changed, over, quantity_of, more_turnover, more_volume, turnover_of, volume_of}
use Rattle.book.proofs.agreement.Prices.{same-equal}
use Rattle.book.proofs.agreement.Ranked.{Ranked, look, place-look, last_free, put-level}
use Rattle.std.specs.Prelude.{Some, None, Ok, Err}

pub not_done : (r : Refusal) → ◌≡◌ {A = Outcome} (Err r) (Ok tt) → ⊥
not_done r e = let z : ◌≡◌ {A = ℕ} 0 1 = cc in omega arith

-- ─── What holds ───

pub record SideHolds (s : Bool) (side : Side) (es : List Event) : Type 0 where
  pub places : length side.levels ≡ 64
  pub ranked : Ranked s side.levels
  pub quantities : (p : ℤ) → quantity_of es s p ≡ pos (look p side.levels)

pub record Holds (b : Book) (es : List Event) : Type 0 where
  pub buying : SideHolds true b.buying es
  pub selling : SideHolds false b.selling es
  pub turnover : b.sums.turnover ≡ turnover_of es
  pub volume : b.sums.volume ≡ volume_of es
  pub turnover_within : beyond b.sums.turnover ≡ false
  pub volume_within : beyond b.sums.volume ≡ false

pub over-end : (f : ℤ → Event → ℤ) (q : ℤ) (es : List Event) (e : Event) → over f q (es ++ (e ∷ [])) ≡ f (over f q es) e
over-end f q [] e = refl
over-end f q (x ∷ es) e = over-end f (f q x) es e

-- ─── A side ───

-- Where a place is not used, the last one is free.
last-free : (s : Bool) (l : List Level) (n : ℕ) → Ranked s l → n < length l → used (get_or l n empty) ≡ false
    → last_free l ≡ true
last-free s [] n r h e = absurd (omega arith)
last-free s (y ∷ []) zero r h e = rw e
last-free s (y ∷ []) (suc n) r h e = absurd (omega arith)
last-free s (y ∷ z ∷ zs) zero r h e = last-free s (z ∷ zs) zero r.1 (omega arith) (next (used z) refl)
  where
    next : (t : Bool) → used z ≡ t → t ≡ false
    next true u = absurd (false≢true (sym e ∙ (r.0.0 u).0))
    next false u = refl
last-free s (y ∷ z ∷ zs) (suc n) r h e = last-free s (z ∷ zs) n r.1 (omega arith) e

module _ (s : Bool) (side : Side) (es : List Event) (h : SideHolds s side es) (e : Event) where
  pub side-stays : ((r : ℤ) → changed s r (pos (look r side.levels)) e ≡ pos (look r side.levels))
      → SideHolds s side (es ++ (e ∷ []))
  side-stays c = record {
    places = h.places;
    ranked = h.ranked;
    quantities = λ p. over-end (changed s p) (pos 0) es e ∙ (rw (h.quantities p) (c p));
  }

  side-put : (p : ℤ) (n : ℕ) → (ltb 0 n ≡ true → look p side.levels ≡ 0 → last_free side.levels ≡ true)
      → ((r : ℤ) → changed s r (pos (look r side.levels)) e ≡ pos (cond (same_price p r) n (look r side.levels)))
      → SideHolds s (placed s p n side) (es ++ (e ∷ []))
  unfolding placed put_at
  side-put p n room c =
      let q = put-level s (record { price = p; quantity = n }) side.levels h.ranked room in
      record {
        places = q.size ∙ h.places;
        ranked = q.ranked;
        quantities = λ r. over-end (changed s r) (pos 0) es e ∙ (rw (h.quantities r) (c r)) ∙ ap pos (sym (q.looks r));
      }

pub side-look : (s : Bool) (side : Side) (es : List Event) → SideHolds s side es → (p : ℤ)
    → quantity_at s p side ≡ look p side.levels
unfolding quantity_at
side-look s side es h p = place-look s p side.levels h.ranked

-- ─── A quotation ───

in-range : (z : ℤ) (n : ℕ) → in_range z ≡ Some n → z ≡ pos n
in-range (pos m) n e = go (leb m 4294967295) e
  where
    go : (t : Bool) → cond t (Some m) None ≡ Some n → pos m ≡ pos n
    go true q = cc
    go false q = cc
in-range (negsuc m) n e = cc

new_is : (absolute : Bool) (old v n : ℕ) → new_of absolute old v ≡ Some n → cond absolute (pos v) (pos old +ℤ twos v) ≡ pos n
unfolding new_of
new_is true old v n e = cc
new_is false old v n e = in-range (pos old +ℤ twos v) n e

pub same-side : (s : Bool) → same_side s s ≡ true
same-side true = refl
same-side false = refl

module _ (s : Bool) (side : Side) (es : List Event) (h : SideHolds s side es) (absolute : Bool) (o : Level) where
  module _ (n : ℕ) (w : new_of absolute (quantity_at s o.price side) o.quantity ≡ Some n) where
    new-quantity : (r : ℤ) → changed s r (pos (look r side.levels)) (Quotation absolute s o)
        ≡ pos (cond (same_price o.price r) n (look r side.levels))
    unfolding changed
    new-quantity r = go (same_price o.price r) refl
      where
        go : (t : Bool) → same_price o.price r ≡ t → changed s r (pos (look r side.levels)) (Quotation absolute s o)
            ≡ pos (cond (same_price o.price r) n (look r side.levels))
        go true f =
            let d : look r side.levels ≡ quantity_at s o.price side =
            ap (λ (k : ℤ). look k side.levels) (sym (same-equal o.price r f))
            ∙ sym (side-look s side es h o.price) in
            rw (same-side s, f, d) (new_is absolute (quantity_at s o.price side) o.quantity n w)
        go false f = rw (same-side s, f)

    room : one_more side (quantity_at s o.price side) n ≡ false → ltb 0 n ≡ true → look o.price side.levels ≡ 0
        → last_free side.levels ≡ true
    unfolding one_more is_full
    room m u z =
        let p : n ≡ 0 → ⊥ = λ q. omega (arith, ltb-true 0 n u) in
        last-free s side.levels 63 h.ranked (rw h.places (omega arith))
        (rw (side-look s side es h o.price, z, ne_eqb n 0 p) at m)

  pub side-quoted : (quote_on side absolute s o).answer ≡ (Ok tt)
      → SideHolds s (quote_on side absolute s o).side (es ++ (Quotation absolute s o ∷ []))
  unfolding quote_on
  side-quoted d = go (new_of absolute (quantity_at s o.price side) o.quantity) refl d
    where
      put : (n : ℕ) → new_of absolute (quantity_at s o.price side) o.quantity ≡ Some n → (t : Bool)
          → one_more side (quantity_at s o.price side) n ≡ t
          → (quote_with side s o.price (quantity_at s o.price side) (Some n)).answer ≡ (Ok tt)
          → SideHolds s (quote_with side s o.price (quantity_at s o.price side) (Some n)).side
          (es ++ (Quotation absolute s o ∷ []))
      put n w true m a = absurd (not_done Levels (rw m at a))
      put n w false m a =
          rw m (side-put s side es h (Quotation absolute s o) o.price n (room n w m) (new-quantity n w))

      go : (w : NewQuantity) → new_of absolute (quantity_at s o.price side) o.quantity ≡ w
          → (quote_with side s o.price (quantity_at s o.price side) w).answer ≡ (Ok tt)
          → SideHolds s
          (quote_with side s o.price (quantity_at s o.price side)
          (new_of absolute (quantity_at s o.price side) o.quantity)).side
          (es ++ (Quotation absolute s o ∷ []))
      go None w a = absurd (not_done Quantity a)
      go (Some n) w a = rw w (put n w (one_more side (quantity_at s o.price side) n) refl a)

pub side-other : (s t : Bool) → same_side s t ≡ false → (side : Side) (es : List Event) → SideHolds s side es
    → (absolute : Bool) (o : Level)
    → SideHolds s side (es ++ (Quotation absolute t o ∷ []))
unfolding changed
side-other s t d side es h absolute o = side-stays s side es h (Quotation absolute t o) (λ r. rw d)

-- ─── A match ───

pos-sub : (a v : ℕ) → v ≤ a → pos a -ℤ pos v ≡ pos (a - v)
pos-sub a zero h =
    let e : a - 0 ≡ a = omega arith in
    rw (add-zero a, e)
pos-sub a (suc v) h = rw (le-ltb a (suc v) h)

module _ (s : Bool) (side : Side) (es : List Event) (h : SideHolds s side es) (o : Level)
    (l : lacks (quantity_at s o.price side) o.quantity ≡ false) where
  at-price : (r : ℤ) → same_price o.price r ≡ true → look r side.levels ≡ quantity_at s o.price side
  at-price r f =
      ap (λ (k : ℤ). look k side.levels) (sym (same-equal o.price r f)) ∙ sym (side-look s side es h o.price)

  none-there : quantity_at s o.price side ≡ 0 → (r : ℤ)
      → changed s r (pos (look r side.levels)) (Match o) ≡ pos (look r side.levels)
  unfolding changed
  none-there z r = go (same_price o.price r) refl
    where
      go : (t : Bool) → same_price o.price r ≡ t
          → changed s r (pos (look r side.levels)) (Match o) ≡ pos (look r side.levels)
      go true f = rw (f, at-price r f, z)
      go false f = rw f

  taken-there : (quantity_at s o.price side ≡ 0 → ⊥) → (r : ℤ)
      → changed s r (pos (look r side.levels)) (Match o)
      ≡ pos (cond (same_price o.price r) (quantity_at s o.price side - o.quantity) (look r side.levels))
  unfolding changed lacks
  taken-there z r = go (same_price o.price r) refl
    where
      enough : o.quantity ≤ quantity_at s o.price side
      enough = ltb-false (quantity_at s o.price side) o.quantity (rw (ne_eqb (quantity_at s o.price side) 0 z) at l)

      go : (t : Bool) → same_price o.price r ≡ t → changed s r (pos (look r side.levels)) (Match o)
          ≡ pos (cond (same_price o.price r) (quantity_at s o.price side - o.quantity) (look r side.levels))
      go true f =
          rw (f, at-price r f, lt-ltb 0 (quantity_at s o.price side) (omega arith))
          (pos-sub (quantity_at s o.price side) o.quantity enough)
      go false f = rw f

  pub side-matched : SideHolds s (lowered s o side) (es ++ (Match o ∷ []))
  unfolding lowered
  side-matched = go (eqb (quantity_at s o.price side) 0) refl
    where
      go : (t : Bool) → eqb (quantity_at s o.price side) 0 ≡ t → SideHolds s (lowered s o side) (es ++ (Match o ∷ []))
      go true f =
          rw f (side-stays s side es h (Match o) (none-there (eqb-true (quantity_at s o.price side) 0 f)))
      go false f =
          let z : quantity_at s o.price side ≡ 0 → ⊥ = eqb-false (quantity_at s o.price side) 0 f in
          rw f
          (side-put s side es h (Match o) o.price (quantity_at s o.price side - o.quantity)
          (λ u e. absurd (z (side-look s side es h o.price ∙ e))) (taken-there z))

added_is : (sum x n : ℤ) → added_to sum x ≡ Some n → (n ≡ sum +ℤ x) × (beyond n ≡ false)
unfolding added_to
added_is sum x n e = go (beyond sum) (beyond (sum +ℤ x)) refl e
  where
    go : (a b : Bool) → beyond (sum +ℤ x) ≡ b → cond a None (cond b None (Some (sum +ℤ x))) ≡ Some n
        → (n ≡ sum +ℤ x) × (beyond n ≡ false)
    go true b w q = absurd (let z : ◌≡◌ {A = ℕ} 0 1 = cc in omega arith)
    go false true w q = absurd (let z : ◌≡◌ {A = ℕ} 0 1 = cc in omega arith)
    go false false w q =
        let f : n ≡ sum +ℤ x = cc in
        (f, ap beyond f ∙ w)

both-are : (a b : Total) (n : Sums) → both_of a b ≡ Some n → (a ≡ Some n.turnover) × (b ≡ Some n.volume)
both-are None b n e = absurd (let z : ◌≡◌ {A = ℕ} 0 1 = cc in omega arith)
both-are (Some x) None n e = absurd (let z : ◌≡◌ {A = ℕ} 0 1 = cc in omega arith)
both-are (Some x) (Some y) n e =
    let q : record { turnover = x; volume = y } ≡ n = cc in
    (ap (λ (m : Sums). Some m.turnover) q, ap (λ (m : Sums). Some m.volume) q)

-- ─── An event ───

check-facts : (b : Book) (o : Level) → match_check b o ≡ (Ok tt)
    → (lacks (quantity_at true o.price b.buying) o.quantity ≡ false)
    × (lacks (quantity_at false o.price b.selling) o.quantity ≡ false)
unfolding match_check
check-facts b o e =
    go (lacks (quantity_at true o.price b.buying) o.quantity)
    (lacks (quantity_at false o.price b.selling) o.quantity) e
  where
    go : (x y : Bool)
        → ◌≡◌ {A = Outcome} (cond x (Err Quantity) (cond y (Err Quantity) (cond (ltb 1000000 o.quantity) (Err Volume) (Ok tt))))
        (Ok tt)
        → (x ≡ false) × (y ≡ false)
    go true y q = absurd (not_done Quantity q)
    go false true q = absurd (not_done Quantity q)
    go false false q = (refl, refl)

module _ (b : Book) (es : List Event) (h : Holds b es) (o : Level) where
  summed-holds : match_check b o ≡ (Ok tt) → (t : Totals) → summed_with b.sums o ≡ t → (match_with b o t).answer ≡ (Ok tt)
      → Holds (match_with b o t).book (es ++ (Match o ∷ []))
  unfolding summed_with more_turnover more_volume
  summed-holds c None e a = absurd (not_done Volume a)
  summed-holds c (Some n) e a =
      let f = check-facts b o c in
      let m = both-are (added_to b.sums.turnover (o.price *ℤ pos o.quantity))
      (added_to b.sums.volume (pos o.quantity)) n e in
      let x = added_is b.sums.turnover (o.price *ℤ pos o.quantity) n.turnover m.0 in
      let y = added_is b.sums.volume (pos o.quantity) n.volume m.1 in
      record {
        buying = side-matched true b.buying es h.buying o f.0;
        selling = side-matched false b.selling es h.selling o f.1;
        turnover = x.0 ∙ (rw (h.turnover, over-end more_turnover (pos 0) es (Match o)));
        volume = y.0 ∙ (rw (h.volume, over-end more_volume (pos 0) es (Match o)));
        turnover_within = x.1;
        volume_within = y.1;
      }

  match-holds : (match_on b o).answer ≡ (Ok tt) → Holds (match_on b o).book (es ++ (Match o ∷ []))
  unfolding match_on match_summed
  match-holds a = go (match_check b o) refl a
    where
      go : (w : Outcome) → match_check b o ≡ w → (checked_match w b (match_summed b o)).answer ≡ (Ok tt)
          → Holds (checked_match (match_check b o) b (match_summed b o)).book (es ++ (Match o ∷ []))
      go (Ok tt) e q = rw e (summed-holds e (summed_with b.sums o) refl q)
      go (Err r) e q = absurd (not_done r q)

pub applied-holds : (b : Book) (es : List Event) (e : Event) → Holds b es → (applied b e).answer ≡ (Ok tt)
    → Holds (applied b e).book (es ++ (e ∷ []))
unfolding applied quotation_on changed more_turnover more_volume
applied-holds b es Nothing h a = record {
  buying = side-stays true b.buying es h.buying Nothing (λ r. refl);
  selling = side-stays false b.selling es h.selling Nothing (λ r. refl);
  turnover = h.turnover ∙ sym (over-end more_turnover (pos 0) es Nothing);
  volume = h.volume ∙ sym (over-end more_volume (pos 0) es Nothing);
  turnover_within = h.turnover_within;
  volume_within = h.volume_within;
}
applied-holds b es (Quotation absolute true o) h a = record {
  buying = side-quoted true b.buying es h.buying absolute o a;
  selling = side-other false true refl b.selling es h.selling absolute o;
  turnover = h.turnover ∙ sym (over-end more_turnover (pos 0) es (Quotation absolute true o));
  volume = h.volume ∙ sym (over-end more_volume (pos 0) es (Quotation absolute true o));
  turnover_within = h.turnover_within;
  volume_within = h.volume_within;
}
applied-holds b es (Quotation absolute false o) h a = record {
  buying = side-other true false refl b.buying es h.buying absolute o;
  selling = side-quoted false b.selling es h.selling absolute o a;
  turnover = h.turnover ∙ sym (over-end more_turnover (pos 0) es (Quotation absolute false o));
  volume = h.volume ∙ sym (over-end more_volume (pos 0) es (Quotation absolute false o));
  turnover_within = h.turnover_within;
  volume_within = h.volume_within;
}
applied-holds b es (Match o) h a = match-holds b es h o a
