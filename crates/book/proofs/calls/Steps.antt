-- The steps of the calls, case by case. Assumes nothing.
use Prim.Native.Nat.{ℕ, ◌-◌, ◌<◌, ◌≤◌}
use mathlib.Core.Path.{◌≡◌, sym, ◌∙◌}
use mathlib.Core.List.{List}
use mathlib.Core.Bool.{Bool, true, false}
use borrow.Author.Tests.{lt-ltb, le-ltb, eq-eqb, ne_eqb, ltb-false}
use lib.ListN.{length, get_or}
use lib.IntN.{ℤ, pos, ◌*ℤ◌}
use Rattle.ftd.specs.Table.{string_kind}
use Rattle.ftd.specs.Values.{is_value}
use Rattle.ftd.specs.Fields.{most_content}
use Rattle.ftd.specs.Content.{content_check}
use Rattle.ftd.specs.declared.composition.Direction.TheVariants.{Down}
use Rattle.ftd.specs.Types.{Checked}
use Rattle.ftd.specs.declared.refusal.Refusal.{Refusal}
use Rattle.ftd.specs.declared.refusal.Refusal.TheVariants.{Item, Quantity, Levels, Volume}
use Rattle.book.specs.declared.levels.Level.{Level}
use Rattle.book.specs.declared.levels.Side.{Side}
use Rattle.book.specs.Types.{Quantity as NewQuantity}
use Rattle.book.specs.declared.event.Event.{Event}
use Rattle.book.specs.declared.event.Event.TheVariants.{Nothing, Quotation, Match}
use Rattle.book.specs.declared.sums.Sums.{Sums}
use Rattle.book.specs.Types.{Total}
use Rattle.book.specs.Types.{Totals}
use Rattle.book.specs.declared.calls.Book.{Book}
use Rattle.book.specs.Types.{Outcome}
use Rattle.book.specs.declared.calls.Step.{Step}
use Rattle.book.specs.declared.calls.SideStep.{SideStep}
use Rattle.book.specs.Levels.{empty, held_by, place_in, quantity_at, placed, put_at}
use Rattle.book.specs.Quantity.{new_of, lacks}
use Rattle.book.specs.Sums.{added_to, summed_with}
use Rattle.book.specs.Calls.{one_more, quote_on, with_buying, with_selling, quotation_on, lowered, match_check, Takes}
use Rattle.book.specs.Calls.{matched_with, match_summed, match_on, applied, walked, events_of, done, refusing, started}
use Rattle.book.specs.Calls.{start_of, take_of}
use Rattle.std.specs.Prelude.{Some, None, Ok, Err}

-- ─── The sums ───

module _ (s : Sums) (o : Level) (y : ℤ) (e : y ≡ s.turnover) (t : Total)
    (q : t ≡ added_to y (o.price *ℤ pos o.quantity)) where
  pub totals-over : t ≡ None → None ≡ summed_with s o
  unfolding summed_with
  totals-over b = rw (← e, ← q, b)

  module _ (a z : ℤ) (w : t ≡ Some a) (f : z ≡ s.volume) (u : Total) (r : u ≡ added_to z (pos o.quantity)) where
    pub totals-late : u ≡ None → None ≡ summed_with s o
    unfolding summed_with
    totals-late b = rw (← e, ← q, w, ← f, ← r, b)

    pub totals-both : (b c d : ℤ) → u ≡ Some b → c ≡ a → d ≡ b
        → Some (record { turnover = c; volume = d }) ≡ summed_with s o
    unfolding summed_with
    totals-both b c d v g h = rw (g, h, ← e, ← q, w, ← f, ← r, v)

-- ─── A quotation ───

module _ (side : Side) (buying : Bool) (o : Level) (at old : ℕ) (e : at ≡ place_in buying o.price side.levels)
    (q : old ≡ held_by o.price (get_or side.levels at empty)) where
  found : old ≡ quantity_at buying o.price side
  unfolding quantity_at
  found = rw e at q

  putting : (n : ℕ) → put_at at (record { price = o.price; quantity = n }) side ≡ placed buying o.price n side
  unfolding placed
  putting n = rw e

  module _ (absolute : Bool) (n : NewQuantity) (m : n ≡ new_of absolute old o.quantity) where
    pub quote-wrong : n ≡ None → record { side = side; answer = Err Quantity } ≡ quote_on side absolute buying o
    unfolding quote_on
    quote-wrong w = rw (← found, ← m, w)

    module _ (k : ℕ) (w : n ≡ Some k) (r : Bool) (f : r ≡ one_more side old k) where
      pub quote-full : r ≡ true → record { side = side; answer = Err Levels } ≡ quote_on side absolute buying o
      unfolding quote_on
      quote-full t = rw (← found, ← m, w, ← f, t)

      pub quote-put : r ≡ false → (s : Side) → s ≡ put_at at (record { price = o.price; quantity = k }) side
          → record { side = s; answer = (Ok tt) } ≡ quote_on side absolute buying o
      unfolding quote_on
      quote-put t s p = rw (← found, ← m, w, ← f, t, p, putting k)

  -- ─── A match on a side ───

  pub lower-none : old ≡ 0 → side ≡ lowered buying o side
  unfolding lowered
  lower-none z = rw (← found, z)

  module _ (z : old ≡ 0 → ⊥) where
    pub lower-fits : lacks (quantity_at buying o.price side) o.quantity ≡ false → o.quantity ≤ old
    unfolding lacks
    lower-fits l = ltb-false old o.quantity (rw (← found, ne_eqb old 0 z) at l)

    pub lower-some : (s : Side) → s ≡ put_at at (record { price = o.price; quantity = old - o.quantity }) side
        → s ≡ lowered buying o side
    unfolding lowered
    lower-some s p = rw (← found, ne_eqb old 0 z) (p ∙ putting (old - o.quantity))

module _ (b : Book) (absolute buying : Bool) (o : Level) (s : SideStep) where
  pub buying-step : buying ≡ true → s ≡ quote_on b.buying absolute true o → with_buying b s ≡ quotation_on b absolute buying o
  unfolding quotation_on
  buying-step t e = rw (t, e)

  pub selling-step : buying ≡ false → s ≡ quote_on b.selling absolute false o
      → with_selling b s ≡ quotation_on b absolute buying o
  unfolding quotation_on
  selling-step t e = rw (t, e)

-- ─── A match on the book ───

module _ (b : Book) (o : Level) (x : ℕ) (r : Bool) (e : x ≡ quantity_at true o.price b.buying)
    (f : r ≡ lacks x o.quantity) where
  lack : lacks (quantity_at true o.price b.buying) o.quantity ≡ r
  lack = sym (rw e at f)

  pub check-buying : r ≡ true → Err Quantity ≡ match_check b o
  unfolding match_check
  check-buying t = rw (lack, t)

  module _ (t : r ≡ false) (y : ℕ) (q : Bool) (g : y ≡ quantity_at false o.price b.selling)
      (h : q ≡ lacks y o.quantity) where
    lack-other : lacks (quantity_at false o.price b.selling) o.quantity ≡ q
    lack-other = sym (rw g at h)

    pub check-selling : q ≡ true → Err Quantity ≡ match_check b o
    unfolding match_check
    check-selling u = rw (lack, t, lack-other, u)

    pub check-volume : q ≡ false → 1000000 < o.quantity → Err Volume ≡ match_check b o
    unfolding match_check
    check-volume u v = rw (lack, t, lack-other, u, lt-ltb 1000000 o.quantity v)

    pub check_done : q ≡ false → o.quantity ≤ 1000000 → ((Ok tt) ≡ match_check b o) × Takes b o (Ok tt)
    unfolding match_check
    check_done u v = (rw (lack, t, lack-other, u, le-ltb 1000000 o.quantity v), (lack ∙ t, lack-other ∙ u, v))

module _ (b : Book) (o : Level) where
  pub takes-done : (a : Outcome) → Takes b o a → a ≡ (Ok tt) → Takes b o (Ok tt)
  takes-done a t e = rw e at t

  module _ (a : Outcome) (e : a ≡ match_check b o) (s : Step) where
    pub match-refused : (r : Refusal) → a ≡ Err r → s ≡ refusing b r → s ≡ match_on b o
    unfolding match_on
    match-refused r f g = rw (← e, f) g

    pub match-taken : a ≡ (Ok tt) → s ≡ match_summed b o → s ≡ match_on b o
    unfolding match_on
    match-taken f g = rw (← e, f) g

  module _ (t : Totals) (e : t ≡ summed_with b.sums o) where
    pub match-over : t ≡ None → (s : Step) → s ≡ refusing b Volume → s ≡ match_summed b o
    unfolding match_summed
    match-over f s g = rw (← e, f) g

    pub match-both : (n : Sums) → t ≡ Some n → (m : Book) → m ≡ matched_with b o n → done m ≡ match_summed b o
    unfolding match_summed
    match-both n f m g = rw (g, ← e, f)

-- ─── An event ───

module _ (b : Book) (e : Event) where
  pub applied-nothing : e ≡ Nothing → done b ≡ applied b e
  unfolding applied
  applied-nothing f = rw f

  pub applied-quotation : (absolute buying : Bool) (o : Level) → e ≡ Quotation absolute buying o → (s : Step)
      → s ≡ quotation_on b absolute buying o → s ≡ applied b e
  unfolding applied
  applied-quotation absolute buying o f s g = rw f g

  pub applied-match : (o : Level) → e ≡ Match o → (s : Step) → s ≡ match_on b o → s ≡ applied b e
  unfolding applied
  applied-match o f s g = rw f g

-- ─── Start ───

module _ (b : Book) (code : List ℕ) where
  pub start-long : (length code ≡ 10 → ⊥) → (s : Step) → s ≡ refusing b Item → s ≡ start_of b code
  unfolding start_of
  start-long h s e = rw (ne_eqb (length code) 10 h) e

  module _ (h : length code ≡ 10) (r : Bool) (v : r ≡ is_value string_kind 0 code) where
    pub start-wrong : r ≡ false → (s : Step) → s ≡ refusing b Item → s ≡ start_of b code
    unfolding start_of
    start-wrong t s e = rw (eq-eqb (length code) 10 h, ← v, t) e

    pub start_right : r ≡ true → done (started code) ≡ start_of b code
    unfolding start_of
    start_right t = rw (eq-eqb (length code) 10 h, ← v, t)

-- ─── Take ───

module _ (b : Book) (tid : ℕ) (content : List ℕ) (k : Checked) (e : k ≡ content_check tid Down content most_content)
  where
    pub take-unfit : (r : Refusal) → k ≡ Err r → (s : Step) → s ≡ refusing b r → s ≡ take_of b tid content
    unfolding take_of
    take-unfit r f s g = rw (← e, f) g

    module _ (p : k ≡ (Ok tt)) (w : Step) (q : w ≡ walked b (events_of b.code tid content)) where
      pub take-refused : (r : Refusal) → w.answer ≡ Err r → (s : Step) → s ≡ refusing b r → s ≡ take_of b tid content
      unfolding take_of
      take-refused r f s g = rw (← e, p, ← q, f) g

      pub take_done : w.answer ≡ (Ok tt) → w ≡ take_of b tid content
      unfolding take_of
      take_done f = rw (← e, p, ← q, f)
