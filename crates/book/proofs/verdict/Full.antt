-- All 64 places of a side are used exactly if 64 prices are above zero. Assumes nothing.
use Prim.Native.Nat.{ℕ, zero, suc, ◌<◌, ◌≤◌}
use mathlib.Core.Path.{◌≡◌, refl, sym, ap, ◌∙◌}
use mathlib.Core.Logic.{inl, inr}
use mathlib.Core.List.{List, [], ◌∷◌}
use mathlib.Core.Bool.{Bool, true, false, cond, ◌&&◌, false≢true}
use native.Mathlib.Omega.{arith}
use borrow.Author.Tests.{lt-ltb, ltb-true, leb-true, le-leb}
use lib.ListN.{length, get_or}
use lib.IntN.{ℤ}
use lib.Dec.{leb}
use Rattle.book.specs.declared.levels.Level.{Level}
use Rattle.book.specs.declared.levels.Side.{Side}
use Rattle.book.specs.declared.event.Event.{Event}
use Rattle.book.specs.Levels.{empty, used, better, same_price, is_full}
use Rattle.book.specs.Verdict.{above_zero, prices_of, Among, Differ, Exactly}
use Rattle.book.proofs.agreement.Prices.{same-equal, same_self, better-self}
use Rattle.book.proofs.agreement.Ranked.{Behind, Ranked, look}
use Rattle.book.proofs.agreement.Events.{SideHolds}
use Rattle.book.proofs.agreement.Shown.{behind-at}
use Rattle.book.proofs.verdict.Once.{one-length, prices-exactly}

-- The prices of the used places.
abbrev used_in : List Level → List ℤ
used_in [] = []
used_in (m ∷ ms) = cond (used m) (m.price ∷ used_in ms) (used_in ms)

-- ─── They are those with a quantity ───

used-has : (p : ℤ) (l : List Level) → Among p (used_in l) → 0 < look p l
used-has p [] a = absurd a
used-has p (m ∷ ms) a = go (same_price m.price p) refl (used m) refl (used-has p ms) a
  where
    go : (t : Bool) → same_price m.price p ≡ t → (u : Bool) → used m ≡ u → (Among p (used_in ms) → 0 < look p ms)
        → Among p (cond u (m.price ∷ used_in ms) (used_in ms)) → 0 < look p (m ∷ ms)
    go true f true g rest b = rw (f, g) (ltb-true 0 m.quantity g)
    go true f false g rest b = rw (f, g) (rest b)
    go false f true g rest (inl e) =
        absurd (false≢true (sym f ∙ (ap (λ (k : ℤ). same_price k p) e ∙ same_self p)))
    go false f true g rest (inr b) = rw f (rest b)
    go false f false g rest b = rw f (rest b)

has-used : (p : ℤ) (l : List Level) → 0 < look p l → Among p (used_in l)
has-used p [] h = absurd (omega arith)
has-used p (m ∷ ms) h = go (same_price m.price p) refl (used m) refl (has-used p ms) h
  where
    go : (t : Bool) → same_price m.price p ≡ t → (u : Bool) → used m ≡ u → (0 < look p ms → Among p (used_in ms))
        → 0 < cond (t && u) m.quantity (look p ms) → Among p (cond (used m) (m.price ∷ used_in ms) (used_in ms))
    go true f true g rest k = rw g (inl (same-equal m.price p f))
    go true f false g rest k = rw g (rest k)
    go false f true g rest k = rw g (inr (rest k))
    go false f false g rest k = rw g (rest k)

module _ (s : Bool) where
  behind-used : (m : Level) (l : List Level) → Behind s m l → (p : ℤ) → Among p (used_in l) → better s m.price p ≡ true
  behind-used m [] b p a = absurd a
  behind-used m (n ∷ ns) b p a = go (used n) refl (behind-used m ns b.1 p) a
    where
      go : (u : Bool) → used n ≡ u → (Among p (used_in ns) → better s m.price p ≡ true)
          → Among p (cond u (n.price ∷ used_in ns) (used_in ns)) → better s m.price p ≡ true
      go true g rest (inl e) = rw e at (b.0 g).1
      go true g rest (inr c) = rest c
      go false g rest c = rest c

  used-differ : (l : List Level) → Ranked s l → Differ (used_in l)
  used-differ [] r = tt
  used-differ (m ∷ ms) r = go (used m) (used-differ ms r.1)
    where
      go : (u : Bool) → Differ (used_in ms) → Differ (cond u (m.price ∷ used_in ms) (used_in ms))
      go true d =
          ((λ a. false≢true (sym (better-self s m.price) ∙ behind-used m ms r.0 m.price a)), d)
      go false d = d

  -- ─── How many ───

  used-most : (l : List Level) → length (used_in l) ≤ length l
  used-most [] = omega arith
  used-most (m ∷ ms) = go (used m) (used-most ms)
    where
      go : (u : Bool) → length (used_in ms) ≤ length ms → length (cond u (m.price ∷ used_in ms) (used_in ms)) ≤ suc (length ms)
      go true h = omega arith
      go false h = omega arith

  -- The last is used: all are.
  last-all : (l : List Level) (n : ℕ) → Ranked s l → length l ≡ suc n → used (get_or l n empty) ≡ true
      → length (used_in l) ≡ suc n
  last-all [] n r h u = absurd (omega arith)
  last-all (m ∷ []) zero r h u = rw u
  last-all (m ∷ (x ∷ xs)) zero r h u = absurd (omega arith)
  last-all (m ∷ ms) (suc n) r h u =
      let i = last-all ms n r.1 (omega arith) u in
      rw (behind-at s m ms n r.0 u).0 (ap suc i)

  -- All are used: the last is.
  all-last : (l : List Level) (n : ℕ) → length l ≤ length (used_in l) → n < length l → used (get_or l n empty) ≡ true
  all-last [] n h k = absurd (omega arith)
  all-last (m ∷ ms) n h k = go n (used m) refl (all-last ms) h k
    where
      go : (n : ℕ) (u : Bool) → used m ≡ u
          → ((i : ℕ) → length ms ≤ length (used_in ms) → i < length ms → used (get_or ms i empty) ≡ true)
          → suc (length ms) ≤ length (cond u (m.price ∷ used_in ms) (used_in ms))
          → n < suc (length ms) → used (get_or (m ∷ ms) n empty) ≡ true
      go zero true g rest h k = g
      go (suc n) true g rest h k = rest n (omega arith) (omega arith)
      go n false g rest h k = absurd (omega (arith, h, used-most ms))

-- ─── A side ───

module _ (s : Bool) (side : Side) (es : List Event) (h : SideHolds s side es) where
  used-exactly : Exactly (used_in side.levels) (above_zero es s)
  used-exactly = record {
    differ = used-differ s side.levels h.ranked;
    has = λ p a. rw (h.quantities p) (lt-ltb 0 (look p side.levels) (used-has p side.levels a));
    all = λ p e. has-used p side.levels (ltb-true 0 (look p side.levels) (rw (h.quantities p) at e));
  }

  pub full_is : is_full side ≡ leb 64 (length (prices_of es s))
  unfolding is_full
  full_is = go (used (get_or side.levels 63 empty)) refl (leb 64 (length (used_in side.levels))) refl
    where
      same : length (used_in side.levels) ≡ length (prices_of es s)
      same = one-length (used_in side.levels) (prices_of es s) (above_zero es s) used-exactly (prices-exactly es s)

      go : (a : Bool) → used (get_or side.levels 63 empty) ≡ a → (b : Bool)
          → leb 64 (length (used_in side.levels)) ≡ b
          → used (get_or side.levels 63 empty) ≡ leb 64 (length (prices_of es s))
      go true e b f =
          let n = last-all s side.levels 63 h.ranked h.places e in
          e ∙ sym (le-leb 64 (length (prices_of es s)) (omega (arith, n, same)))
      go false e true f =
          let n = leb-true 64 (length (used_in side.levels)) f in
          absurd (false≢true (sym e ∙ all-last s side.levels 63 (omega (arith, n, h.places)) (omega (arith, h.places))))
      go false e false f = e ∙ (sym f ∙ ap (leb 64) same)
