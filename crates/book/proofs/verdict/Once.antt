-- Lists of prices: two that have the same prices, each once, are of one length; the prices above zero are such a list.
-- Assumes nothing.
use Prim.Native.Nat.{suc, ◌≤◌}
use mathlib.Core.Path.{◌≡◌, refl, sym, ap, ◌∙◌}
use mathlib.Core.Logic.{inl, inr}
use mathlib.Core.List.{List, [], ◌∷◌}
use mathlib.Core.Bool.{Bool, true, false, cond, ◌&&◌, false≢true}
use native.Mathlib.Omega.{arith}
use lib.ListN.{length}
use lib.IntN.{ℤ, pos, ◌+ℤ◌}
use Rattle.book.specs.declared.levels.Level.{Level}
use Rattle.book.specs.declared.event.Event.{Event}
use Rattle.book.specs.declared.event.Event.TheVariants.{Nothing, Quotation, Match}
use Rattle.book.specs.Levels.{same_price}
use Rattle.book.specs.Quantity.{twos}
use Rattle.book.specs.Agreement.{same_side, changed, over, quantity_of}
use Rattle.book.specs.Verdict.{named_by, is_new, each_of, above_zero, prices_of, Among, Differ, Exactly}
use Rattle.book.proofs.agreement.Prices.{same-equal, same_self}

-- ─── One length ───

taken_out : (p : ℤ) (l : List ℤ) → Among p l
    → (rest : List ℤ) × (length l ≡ suc (length rest)) × ((r : ℤ) → Among r l → (r ≡ p → ⊥) → Among r rest)
taken_out p [] a = absurd a
taken_out p (q ∷ l) (inl e) = (l, refl, here)
  where
    here : (r : ℤ) → Among r (q ∷ l) → (r ≡ p → ⊥) → Among r l
    here r (inl f) n = absurd (n (sym f ∙ e))
    here r (inr a) n = a
taken_out p (q ∷ l) (inr a) = go (taken_out p l a)
  where
    go : (rest : List ℤ) × (length l ≡ suc (length rest)) × ((r : ℤ) → Among r l → (r ≡ p → ⊥) → Among r rest)
        → (rest : List ℤ) × (length (q ∷ l) ≡ suc (length rest))
        × ((r : ℤ) → Among r (q ∷ l) → (r ≡ p → ⊥) → Among r rest)
    go x = (q ∷ x.0, ap suc x.1, there)
      where
        there : (r : ℤ) → Among r (q ∷ l) → (r ≡ p → ⊥) → Among r (q ∷ x.0)
        there r (inl f) n = inl f
        there r (inr b) n = inr (x.2 r b n)

-- What has no price twice is no longer than a list that has all its prices.
no_longer : (l k : List ℤ) → Differ l → ((p : ℤ) → Among p l → Among p k) → length l ≤ length k
no_longer [] k d f = omega arith
no_longer (p ∷ l) k d f =
    let x = taken_out p k (f p (inl refl)) in
    let n = no_longer l x.0 d.1 (λ r a. x.2 r (f r (inr a)) (λ e. d.0 (rw e at a))) in
    omega (arith, x.1, n)

pub one-length : (l k : List ℤ) (f : ℤ → Bool) → Exactly l f → Exactly k f → length l ≡ length k
one-length l k f a b =
    let x = no_longer l k a.differ (λ p m. b.all p (a.has p m)) in
    let y = no_longer k l b.differ (λ p m. a.all p (b.has p m)) in
    omega (arith, x, y)

-- ─── Each once ───

not_new : (p : ℤ) (l : List ℤ) → is_new p l ≡ false → Among p l
not_new p [] e = absurd (false≢true (sym e))
not_new p (r ∷ l) e = go (same_price r p) refl (not_new p l) e
  where
    go : (t : Bool) → same_price r p ≡ t → (is_new p l ≡ false → Among p l) → cond t false (is_new p l) ≡ false
        → Among p (r ∷ l)
    go true f rest q = inl (same-equal r p f)
    go false f rest q = inr (rest q)

new_none : (p : ℤ) (l : List ℤ) → is_new p l ≡ true → Among p l → ⊥
new_none p [] e a = a
new_none p (r ∷ l) e a = go (same_price r p) refl (new_none p l) e a
  where
    go : (t : Bool) → same_price r p ≡ t → (is_new p l ≡ true → Among p l → ⊥) → cond t false (is_new p l) ≡ true
        → Among p (r ∷ l) → ⊥
    go true f rest q b = false≢true q
    go false f rest q (inl x) = false≢true (sym f ∙ (ap (λ (k : ℤ). same_price k p) x ∙ same_self p))
    go false f rest q (inr b) = rest q b

module _ (f : ℤ → Bool) where
  each_in : (l : List ℤ) (p : ℤ) → Among p (each_of f l) → (f p ≡ true) × Among p l
  each_in [] p a = absurd a
  each_in (q ∷ l) p a = go (f q) refl (is_new q l) (each_in l p) a
    where
      go : (t : Bool) → f q ≡ t → (u : Bool) → (Among p (each_of f l) → (f p ≡ true) × Among p l)
          → Among p (cond (t && u) (q ∷ each_of f l) (each_of f l)) → (f p ≡ true) × Among p (q ∷ l)
      go true g true rest (inl e) = (ap f (sym e) ∙ g, inl e)
      go true g true rest (inr b) = ((rest b).0, inr (rest b).1)
      go true g false rest b = ((rest b).0, inr (rest b).1)
      go false g u rest b = ((rest b).0, inr (rest b).1)

  in-each : (l : List ℤ) (p : ℤ) → Among p l → f p ≡ true → Among p (each_of f l)
  in-each [] p a e = absurd a
  in-each (q ∷ l) p a e = go (f q) refl (is_new q l) refl (λ b. in-each l p b e) a
    where
      go : (t : Bool) → f q ≡ t → (u : Bool) → is_new q l ≡ u → (Among p l → Among p (each_of f l)) → Among p (q ∷ l)
          → Among p (cond (t && u) (q ∷ each_of f l) (each_of f l))
      go true g true h rest (inl k) = inl k
      go true g true h rest (inr b) = inr (rest b)
      go true g false h rest (inl k) = rest (rw k at (not_new q l h))
      go true g false h rest (inr b) = rest b
      go false g u h rest (inl k) = absurd (false≢true (sym g ∙ (ap f k ∙ e)))
      go false g u h rest (inr b) = rest b

  each-differ : (l : List ℤ) → Differ (each_of f l)
  each-differ [] = tt
  each-differ (q ∷ l) = go (f q) (is_new q l) refl (each-differ l)
    where
      go : (t u : Bool) → is_new q l ≡ u → Differ (each_of f l) → Differ (cond (t && u) (q ∷ each_of f l) (each_of f l))
      go true true h d = ((λ a. new_none q l h (each_in l q a).1), d)
      go true false h d = d
      go false u h d = d

-- ─── The prices above zero ───

-- A price that no event names has the quantity that it had.
module _ (s : Bool) (p : ℤ) where
  other-price : (r : ℤ) → (r ≡ p → ⊥) → same_price r p ≡ false
  other-price r n = go (same_price r p) refl
    where
      go : (t : Bool) → same_price r p ≡ t → t ≡ false
      go true e = absurd (n (same-equal r p e))
      go false e = refl

  other-quoted : (absolute t : Bool) (o : Level) (q : ℤ) → (o.price ≡ p → ⊥)
      → changed s p q (Quotation absolute t o) ≡ q
  unfolding changed
  other-quoted absolute t o q n = rw (other-price o.price n) (go (same_side s t))
    where
      go : (b : Bool) → cond (b && false) (cond absolute (pos o.quantity) (q +ℤ twos o.quantity)) q ≡ q
      go true = refl
      go false = refl

  other-matched : (o : Level) (q : ℤ) → (o.price ≡ p → ⊥) → changed s p q (Match o) ≡ q
  unfolding changed
  other-matched o q n = rw (other-price o.price n)

  unnamed : (es : List Event) (q : ℤ) → (Among p (named_by es) → ⊥) → over (changed s p) q es ≡ q
  unfolding changed
  unnamed [] q n = refl
  unnamed (Nothing ∷ es) q n = unnamed es q n
  unnamed (Quotation absolute t o ∷ es) q n =
      ap (λ (k : ℤ). over (changed s p) k es) (other-quoted absolute t o q (λ e. n (inl e)))
      ∙ unnamed es q (λ a. n (inr a))
  unnamed (Match o ∷ es) q n =
      ap (λ (k : ℤ). over (changed s p) k es) (other-matched o q (λ e. n (inl e))) ∙ unnamed es q (λ a. n (inr a))

is-named : (es : List Event) (s : Bool) (p : ℤ) → above_zero es s p ≡ true → Among p (named_by es)
is-named es s p e = go (is_new p (named_by es)) refl
  where
    go : (t : Bool) → is_new p (named_by es) ≡ t → Among p (named_by es)
    go false h = not_new p (named_by es) h
    go true h =
        let z : quantity_of es s p ≡ pos 0 = unnamed s p es (pos 0) (new_none p (named_by es) h) in
        absurd (false≢true (rw z at e))

pub prices-exactly : (es : List Event) (s : Bool) → Exactly (prices_of es s) (above_zero es s)
prices-exactly es s = record {
  differ = each-differ (above_zero es s) (named_by es);
  has = λ p a. (each_in (above_zero es s) (named_by es) p a).0;
  all = λ p e. in-each (above_zero es s) (named_by es) p (is-named es s p e) e;
}
