-- The answer to an event is its verdict, where the book holds what was taken. Assumes nothing.
use Prim.Native.Nat.{ℕ, ◌≤◌}
use mathlib.Core.Path.{◌≡◌, refl, sym, ap, ◌∙◌}
use mathlib.Core.List.{List, [], ◌∷◌, ◌++◌}
use mathlib.Core.Bool.{Bool, true, false, cond, not, ◌&&◌, ◌||◌}
use native.Mathlib.Omega.{arith}
use borrow.Author.Tests.{lt-ltb, le-ltb, leb-true, leb-false, le-leb, eqb-true, eqb-false}
use lib.ListN.{length}
use lib.IntN.{ℤ, pos, negsuc, ◌+ℤ◌, ◌*ℤ◌}
use lib.Signed.{lt_z}
use lib.Dec.{ltb, leb, eqb}
use Rattle.ftd.specs.declared.refusal.Refusal.TheVariants.{Quantity, Levels, Volume}
use Rattle.book.specs.declared.levels.Level.{Level}
use Rattle.book.specs.declared.levels.Side.{Side}
use Rattle.book.specs.declared.event.Event.{Event}
use Rattle.book.specs.declared.event.Event.TheVariants.{Nothing, Quotation, Match}
use Rattle.book.specs.declared.calls.Book.{Book}
use Rattle.book.specs.declared.calls.Step.{Step}
use Rattle.book.specs.declared.calls.SideStep.{SideStep}
use Rattle.book.specs.Levels.{is_full, quantity_at, placed}
use Rattle.book.specs.Quantity.{twos, in_range, new_of, lacks}
use Rattle.book.specs.Sums.{beyond, added_to, both_of, summed_with}
use Rattle.book.specs.Calls.{one_more, quote_with, quote_on, quotation_on, match_check, match_with, match_summed}
use Rattle.book.specs.Calls.{checked_match, match_on, applied}
use Rattle.book.specs.Agreement.{changed, quantity_of, more_turnover, more_volume, turnover_of, volume_of}
use Rattle.book.specs.Verdict.{quotation_verdict, is_short, too_far, prices_of, verdict_of, Wide}
use Rattle.book.proofs.agreement.Prices.{same_self}
use Rattle.book.proofs.agreement.Events.{SideHolds, Holds, over-end, side-look, same-side}
use Rattle.book.proofs.verdict.Full.{full_is}
use Rattle.std.specs.Prelude.{Some, None, Ok, Err}

-- ─── A quotation ───

module _ (side : Side) (s : Bool) (p : ℤ) (old count : ℕ) (full : is_full side ≡ leb 64 count) where
  one_more-is : (n : ℕ) → one_more side old n ≡ (ltb 0 n && (not (ltb 0 old) && leb 64 count))
  unfolding one_more
  one_more-is n = go (eqb n 0) refl (eqb old 0) refl
    where
      none : (b : Bool) → (b && false) ≡ false
      none true = refl
      none false = refl

      go : (a : Bool) → eqb n 0 ≡ a → (b : Bool) → eqb old 0 ≡ b
          → one_more side old n ≡ (ltb 0 n && (not (ltb 0 old) && leb 64 count))
      go true e b f = rw (e, eqb-true n 0 e)
      go false e true f =
          let k = eqb-false n 0 e in
          rw (e, f, lt-ltb 0 n (omega arith), eqb-true old 0 f) full
      go false e false f =
          let k = eqb-false old 0 f in
          rw (e, f, lt-ltb 0 old (omega arith)) (sym (none (ltb 0 n)))

  quantity-answer : (n : ℕ) → (quote_with side s p old (Some n)).answer
      ≡ cond (ltb 0 n && (not (ltb 0 old) && leb 64 count)) (Err Levels) (Ok tt)
  quantity-answer n = rw (one_more-is n) (go (ltb 0 n && (not (ltb 0 old) && leb 64 count)))
    where
      go : (t : Bool)
          → (cond {A = SideStep} t (record { side = side; answer = Err Levels })
          (record { side = placed s p n side; answer = (Ok tt) })).answer
          ≡ cond t (Err Levels) (Ok tt)
      go true = refl
      go false = refl

  range-answer : (z : ℤ) → (quote_with side s p old (in_range z)).answer ≡ quotation_verdict (pos old) z count
  range-answer (pos n) = go (leb n 4294967295) refl
    where
      go : (t : Bool) → leb n 4294967295 ≡ t
          → (quote_with side s p old (cond (leb n 4294967295) (Some n) None)).answer ≡ quotation_verdict (pos old) (pos n) count
      go true e =
          rw (e, le-ltb n 0 (omega arith), le-ltb 4294967295 n (leb-true n 4294967295 e)) (quantity-answer n)
      go false e =
          rw (e, le-ltb n 0 (omega arith), lt-ltb 4294967295 n (leb-false n 4294967295 e))
  range-answer (negsuc n) = refl

  new-answer : (absolute : Bool) (v : ℕ) → v ≤ 4294967295
      → (quote_with side s p old (new_of absolute old v)).answer
      ≡ quotation_verdict (pos old) (cond absolute (pos v) (pos old +ℤ twos v)) count
  unfolding new_of
  new-answer true v h = rw (le-leb v 4294967295 h) at (range-answer (pos v))
  new-answer false v h = range-answer (pos old +ℤ twos v)

module _ (s : Bool) (side : Side) (es : List Event) (h : SideHolds s side es) where
  quantity-is : (p : ℤ) → quantity_of es s p ≡ pos (quantity_at s p side)
  quantity-is p = h.quantities p ∙ ap pos (sym (side-look s side es h p))

  quoted-is : (absolute : Bool) (o : Level)
      → quantity_of (es ++ (Quotation absolute s o ∷ [])) s o.price
      ≡ cond absolute (pos o.quantity) (pos (quantity_at s o.price side) +ℤ twos o.quantity)
  unfolding changed
  quoted-is absolute o =
      over-end (changed s o.price) (pos 0) es (Quotation absolute s o)
      ∙ (rw (quantity-is o.price, same-side s, same_self o.price))

  pub quote-verdict : (absolute : Bool) (o : Level) → o.quantity ≤ 4294967295
      → (quote_on side absolute s o).answer ≡ verdict_of es (Quotation absolute s o)
  unfolding quote_on verdict_of
  quote-verdict absolute o w =
      rw (quoted-is absolute o, quantity-is o.price)
      (new-answer side s o.price (quantity_at s o.price side) (length (prices_of es s)) (full_is s side es h) absolute
      o.quantity w)

-- ─── A match ───

short-is : (old v : ℕ) → lacks old v ≡ is_short (pos old) v
unfolding lacks
short-is old v = go (eqb old 0) refl
  where
    go : (t : Bool) → eqb old 0 ≡ t → cond (eqb old 0) false (ltb old v) ≡ (ltb 0 old && ltb old v)
    go true e = rw (e, eqb-true old 0 e)
    go false e =
        let k = eqb-false old 0 e in
        rw (e, lt-ltb 0 old (omega arith))

far-is : (z : ℤ) → beyond z ≡ too_far z
unfolding beyond
far-is z = go (lt_z (pos 9000000000000000000) z)
  where
    go : (t : Bool) → cond t true (lt_z z (negsuc 8999999999999999999)) ≡ (t || lt_z z (negsuc 8999999999999999999))
    go true = refl
    go false = refl

-- A sum that was within the limit.
added_is : (sum x : ℤ) → beyond sum ≡ false
    → added_to sum x ≡ cond (too_far (sum +ℤ x)) None (Some (sum +ℤ x))
unfolding added_to
added_is sum x e = rw (e, far-is (sum +ℤ x))

both-answer : (b : Book) (o : Level) (f g : Bool) (x y : ℤ)
    → (match_with b o (both_of (cond f None (Some x)) (cond g None (Some y)))).answer
    ≡ cond (f || g) (Err Volume) (Ok tt)
both-answer b o true g x y = refl
both-answer b o false true x y = refl
both-answer b o false false x y = refl

-- The checks in their order.
checks : (b : Book) (next : Step) (i j k f : Bool) → next.answer ≡ cond f (Err Volume) (Ok tt)
    → (checked_match (cond i (Err Quantity) (cond j (Err Quantity) (cond k (Err Volume) (Ok tt)))) b next).answer
    ≡ cond (i || j) (Err Quantity) (cond (k || f) (Err Volume) (Ok tt))
checks b next true j k f e = refl
checks b next false true k f e = refl
checks b next false false true f e = refl
checks b next false false false f e = e

module _ (b : Book) (es : List Event) (h : Holds b es) (o : Level) where
  sums-answer : (match_summed b o).answer
      ≡ cond (too_far (turnover_of (es ++ (Match o ∷ []))) || too_far (volume_of (es ++ (Match o ∷ [])))) (Err Volume) (Ok tt)
  unfolding match_summed summed_with more_turnover more_volume
  sums-answer =
      rw (
        over-end more_turnover (pos 0) es (Match o),
        over-end more_volume (pos 0) es (Match o),
        ← h.turnover,
        ← h.volume,
        added_is b.sums.turnover (o.price *ℤ pos o.quantity) h.turnover_within,
        added_is b.sums.volume (pos o.quantity) h.volume_within,
      )
      (both-answer b o (too_far (b.sums.turnover +ℤ o.price *ℤ pos o.quantity))
      (too_far (b.sums.volume +ℤ pos o.quantity)) (b.sums.turnover +ℤ o.price *ℤ pos o.quantity)
      (b.sums.volume +ℤ pos o.quantity))

  pub match-verdict : (match_on b o).answer ≡ verdict_of es (Match o)
  unfolding match_on match_check verdict_of
  match-verdict =
      rw (
        quantity-is true b.buying es h.buying o.price,
        quantity-is false b.selling es h.selling o.price,
        ← (short-is (quantity_at true o.price b.buying) o.quantity),
        ← (short-is (quantity_at false o.price b.selling) o.quantity),
      )
      (checks b (match_summed b o) (lacks (quantity_at true o.price b.buying) o.quantity)
      (lacks (quantity_at false o.price b.selling) o.quantity) (ltb 1000000 o.quantity)
      (too_far (turnover_of (es ++ (Match o ∷ []))) || too_far (volume_of (es ++ (Match o ∷ [])))) sums-answer)

-- ─── An event ───

pub event-verdict : (b : Book) (es : List Event) → Holds b es → (e : Event) → Wide e
    → (applied b e).answer ≡ verdict_of es e
unfolding applied quotation_on verdict_of
event-verdict b es h Nothing w = refl
event-verdict b es h (Quotation absolute true o) w = quote-verdict true b.buying es h.buying absolute o w
event-verdict b es h (Quotation absolute false o) w = quote-verdict false b.selling es h.selling absolute o w
event-verdict b es h (Match o) w = match-verdict b es h o
