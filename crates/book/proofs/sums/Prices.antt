-- The sum of price times volume lies between the least and the greatest price times the volume. Assumes nothing.
use Prim.Native.Nat.{ℕ, zero, suc, ◌+◌, ◌-◌}
use mathlib.Core.Path.{◌≡◌, refl, sym, ap, ◌∙◌}
use mathlib.Core.List.{List, [], ◌∷◌}
use mathlib.Core.Bool.{Bool, true, false, false≢true}
use native.Mathlib.Omega.{arith}
use native.Mathlib.Nat.{add-zero, add-suc}
use borrow.Author.Tests.{lt-ltb, le-ltb, le-leb, leb-true}
use lib.IntN.{ℤ, pos, negsuc, sub_ℕ, ◌+ℤ◌, ◌*ℤ◌, +ℤ_assoc, +ℤ_comm, +ℤ_idr, *ℤ-zero, *ℤ_comm, suc_ℤ-*ℤ}
use lib.Signed.{le_z}
use lib.Dec.{ltb}
use Rattle.book.specs.declared.event.Event.{Event}
use Rattle.book.specs.declared.event.Event.TheVariants.{Nothing, Quotation, Match}
use Rattle.book.specs.Agreement.{over, more_turnover, more_volume}
use Rattle.book.specs.Sums.Laws.{Priced}

-- ─── The order, by what is between two numbers ───

abbrev Reaches : ℤ → ℤ → Type 0
Reaches x y = (d : ℕ) × (y ≡ x +ℤ pos d)

reaches : (x y : ℤ) → le_z x y ≡ true → Reaches x y
reaches (pos a) (pos b) e = let l = leb-true a b e in (b - a, ap pos (omega (arith, l)))
reaches (pos a) (negsuc b) e = absurd (false≢true e)
reaches (negsuc a) (pos b) e = (b + suc a, sym (rw (le-ltb (b + suc a) (suc a) (omega arith)) (ap pos (omega arith))))
reaches (negsuc a) (negsuc b) e =
    let l = leb-true b a e in
    (a - b, sym (rw (lt-ltb (a - b) (suc a) (omega arith)) (ap negsuc (omega (arith, l)))))

reached : (x y : ℤ) → Reaches x y → le_z x y ≡ true
reached x y r = rw r.1 (go x r.0)
  where
    go : (x : ℤ) (d : ℕ) → le_z x (x +ℤ pos d) ≡ true
    go (pos a) d = le-leb a (a + d) (omega arith)
    go (negsuc a) d = on (ltb d (suc a)) refl
      where
        on : (t : Bool) → ltb d (suc a) ≡ t → le_z (negsuc a) (sub_ℕ d (suc a)) ≡ true
        on true e = rw e (le-leb (suc a - suc d) a (omega arith))
        on false e = rw e

-- ─── Sums and products ───

four : (x i z j : ℤ) → (x +ℤ i) +ℤ (z +ℤ j) ≡ (x +ℤ z) +ℤ (i +ℤ j)
four x i z j =
    +ℤ_assoc x i (z +ℤ j)
    ∙ ap (λ (y : ℤ). x +ℤ y) (sym (+ℤ_assoc i z j) ∙ ap (λ (y : ℤ). y +ℤ j) (+ℤ_comm i z) ∙ +ℤ_assoc z i j)
    ∙ sym (+ℤ_assoc x z (i +ℤ j))

together : (x y z w : ℤ) → Reaches x y → Reaches z w → Reaches (x +ℤ z) (y +ℤ w)
together x y z w p q = (p.0 + q.0, rw (p.1, q.1) (four x (pos p.0) z (pos q.0)))

one_more : (p : ℤ) (k : ℕ) → p *ℤ pos (suc k) ≡ p *ℤ pos k +ℤ p
one_more p k = *ℤ_comm p (pos (suc k)) ∙ suc_ℤ-*ℤ (pos k) p ∙ ap (λ (y : ℤ). y +ℤ p) (*ℤ_comm (pos k) p)

-- So many more at a price.
module _ (p t : ℤ) where
  none_more : t +ℤ p *ℤ pos 0 ≡ t
  none_more = ap (λ (y : ℤ). t +ℤ y) (*ℤ-zero p) ∙ +ℤ_idr t

  next_more : (k : ℕ) → t +ℤ p *ℤ pos (suc k) ≡ (t +ℤ p *ℤ pos k) +ℤ p
  next_more k = ap (λ (y : ℤ). t +ℤ y) (one_more p k) ∙ sym (+ℤ_assoc t (p *ℤ pos k) p)

-- Both bounds of a sum at a volume.
abbrev Bound : ℤ → ℤ → ℕ → ℤ → Type 0
Bound a b n t = Reaches (a *ℤ pos n) t × Reaches t (b *ℤ pos n)

module _ (a b p : ℤ) (l : Reaches a p) (u : Reaches p b) where
  bound-more : (n : ℕ) (t : ℤ) (k : ℕ) → Bound a b n t → Bound a b (n + k) (t +ℤ p *ℤ pos k)
  bound-more n t zero h = rw (add-zero n, none_more p t) h
  bound-more n t (suc k) h =
      let i = bound-more n t k h in
      rw (add-suc n k, next_more p t k, one_more a (n + k), one_more b (n + k))
      (together (a *ℤ pos (n + k)) (t +ℤ p *ℤ pos k) a p i.0 l, together (t +ℤ p *ℤ pos k) (b *ℤ pos (n + k)) p b i.1 u)

bound-over : (a b : ℤ) (es : List Event) → Priced a b es → (n : ℕ) (t : ℤ) → Bound a b n t
    → (m : ℕ) × (over more_volume (pos n) es ≡ pos m) × Bound a b m (over more_turnover t es)
unfolding more_turnover more_volume
bound-over a b [] g n t h = (n, refl, h)
bound-over a b (Nothing ∷ es) g n t h = bound-over a b es g n t h
bound-over a b (Quotation absolute buying o ∷ es) g n t h = bound-over a b es g n t h
bound-over a b (Match o ∷ es) g n t h =
    bound-over a b es g.2 (n + o.quantity) (t +ℤ o.price *ℤ pos o.quantity)
    (bound-more a b o.price (reaches a o.price g.0) (reaches o.price b g.1) n t o.quantity h)

bound-none : (a b : ℤ) → Bound a b 0 (pos 0)
bound-none a b = ((0, ap (λ (y : ℤ). y +ℤ pos 0) (sym (*ℤ-zero a))), (0, *ℤ-zero b))

-- The sums over a list of events.
pub sums-between : (a b : ℤ) (es : List Event) → Priced a b es
    → (m : ℕ) × (over more_volume (pos 0) es ≡ pos m) × (le_z (a *ℤ pos m) (over more_turnover (pos 0) es) ≡ true)
    × (le_z (over more_turnover (pos 0) es) (b *ℤ pos m) ≡ true)
sums-between a b es g =
    let r = bound-over a b es g 0 (pos 0) (bound-none a b) in
    let t = over more_turnover (pos 0) es in
    (r.0, r.1, reached (a *ℤ pos r.0) t r.2.0, reached t (b *ℤ pos r.0) r.2.1)
