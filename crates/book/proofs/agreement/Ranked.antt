-- The levels of a side in their order, and the quantity that they have at a price. Assumes nothing.
use Prim.Native.Nat.{ℕ, suc}
use mathlib.Core.Path.{◌≡◌, refl, sym, ap, ◌∙◌}
use mathlib.Core.List.{List, [], ◌∷◌, ◌++◌}
use mathlib.Core.Bool.{Bool, true, false, cond, not, ◌&&◌, false≢true}
use native.Mathlib.Omega.{arith}
use borrow.Author.Tests.{ltb-false}
use lib.ListN.{length, get_or, take, drop}
use lib.IntN.{ℤ, pos}
use lib.Dec.{ltb}
use Rattle.book.specs.Levels.{empty, used, better, same_price, place_in, held_by, pushed, put_first}
use Rattle.book.specs.declared.levels.Level.{Level}
use Rattle.book.proofs.agreement.Prices.{same-equal, better-trans, better-other, better-one}

-- ─── Order ───

-- A level in front of others: where one of them is used, it is used too, and better.
abbrev pub Behind : Bool → Level → List Level → Type 0
Behind s x [] = Unit
Behind s x (m ∷ ms) = (used m ≡ true → (used x ≡ true) × (better s x.price m.price ≡ true)) × Behind s x ms

abbrev pub Ranked : Bool → List Level → Type 0
Ranked s [] = Unit
Ranked s (x ∷ ms) = Behind s x ms × Ranked s ms

-- The quantity of the used level at a price, or 0.
abbrev pub look : ℤ → List Level → ℕ
look p [] = 0
look p (m ∷ ms) = cond (same_price m.price p && used m) m.quantity (look p ms)

unused : (m : Level) → used m ≡ false → m.quantity ≡ 0
unused m e = omega (arith, ltb-false 0 m.quantity e)

-- ─── The place of a price ───

-- Behind a level that is not used, or not better than a price, none has that price.
none-behind : (s : Bool) (p : ℤ) (x : Level) (ms : List Level) → Behind s x ms
    → (used x && better s x.price p) ≡ false → look p ms ≡ 0
none-behind s p x [] b e = refl
none-behind s p x (m ∷ ms) b e = go (none-behind s p x ms b.1 e) (same_price m.price p) refl (used m) refl
  where
    go : look p ms ≡ 0 → (t : Bool) → same_price m.price p ≡ t → (u : Bool) → used m ≡ u → look p (m ∷ ms) ≡ 0
    go rest false f u g = rw f rest
    go rest true f false g = rw (f, g) rest
    go rest true f true g =
        let r : better s x.price p ≡ true = rw (same-equal m.price p f) at (b.0 g).1 in
        absurd (false≢true (sym e ∙ rw ((b.0 g).0, r)))

-- What stands at the place of a price is the quantity at the price.
first-look : (s : Bool) (p : ℤ) (x : Level) (ms : List Level) → Behind s x ms
    → (used x && better s x.price p) ≡ false → held_by p x ≡ look p (x ∷ ms)
unfolding held_by
first-look s p x ms b e = go (same_price x.price p) refl (used x) refl
  where
    go : (t : Bool) → same_price x.price p ≡ t → (u : Bool) → used x ≡ u → held_by p x ≡ look p (x ∷ ms)
    go false f u g = rw (f, none-behind s p x ms b e)
    go true f true g = rw (f, g)
    go true f false g = rw (f, g, none-behind s p x ms b e) (unused x g)

either-zero : (b : Bool) → ◌≡◌ {A = ℕ} (cond b 0 0) 0
either-zero true = refl
either-zero false = refl

pub place-look : (s : Bool) (p : ℤ) (l : List Level) → Ranked s l → held_by p (get_or l (place_in s p l) empty) ≡ look p l
unfolding held_by
place-look s p [] r = either-zero (same_price (pos 0) p)
place-look s p (x ∷ ms) r = go (place-look s p ms r.1) (used x) refl (better s x.price p) refl
  where
    stop : (used x && better s x.price p) ≡ false
        → held_by p (get_or (x ∷ ms) (place_in s p (x ∷ ms)) empty) ≡ look p (x ∷ ms)
    stop e = rw e (first-look s p x ms r.0 e)

    go : held_by p (get_or ms (place_in s p ms) empty) ≡ look p ms → (u : Bool) → used x ≡ u → (t : Bool)
        → better s x.price p ≡ t
        → held_by p (get_or (x ∷ ms) (place_in s p (x ∷ ms)) empty) ≡ look p (x ∷ ms)
    go rest false g t f = stop (rw g)
    go rest true g false f = stop (rw (g, f))
    go rest true g true f = rw (g, f, better-other s x.price p f) rest

-- ─── A level put ───

-- The last place is free.
abbrev pub last_free : List Level → Bool
last_free [] = false
last_free (y ∷ []) = not (used y)
last_free (y ∷ z ∷ zs) = last_free (z ∷ zs)

free-behind : (y : Level) (ys : List Level) → last_free (y ∷ ys) ≡ true → used y ≡ true → last_free ys ≡ true
free-behind y [] e u = absurd (false≢true (rw u at e))
free-behind y (z ∷ zs) e u = e

push-look : (r : ℤ) (y : Level) (ys : List Level) → last_free (y ∷ ys) ≡ true → look r (pushed y ys) ≡ look r (y ∷ ys)
push-look r y [] e = go (used y) refl e (same_price y.price r)
  where
    go : (u : Bool) → used y ≡ u → not u ≡ true → (t : Bool) → 0 ≡ cond (t && used y) y.quantity 0
    go true g q t = absurd (false≢true q)
    go false g q true = rw g
    go false g q false = refl
push-look r y (z ∷ zs) e =
    ap (λ (k : ℕ). cond (same_price y.price r && used y) y.quantity k) (push-look r z zs e)

push-size : (y : Level) (ys : List Level) → length (pushed y ys) ≡ length ys
push-size y [] = refl
push-size y (z ∷ zs) = ap suc (push-size z zs)

module _ (s : Bool) where
  behind-push : (x y : Level) (ys : List Level) → Behind s x (y ∷ ys) → Behind s x (pushed y ys)
  behind-push x y [] b = tt
  behind-push x y (z ∷ zs) b = (b.0, behind-push x z zs b.1)

  rank-push : (y : Level) (ys : List Level) → Ranked s (y ∷ ys) → Ranked s (pushed y ys)
  rank-push y [] r = tt
  rank-push y (z ∷ zs) r = (behind-push y z zs r.0, rank-push z zs r.1)

  behind-end : (x : Level) (ys : List Level) → Behind s x ys → Behind s x (ys ++ (empty ∷ []))
  behind-end x [] b = ((λ u. absurd (false≢true u)), tt)
  behind-end x (y ∷ ys) b = (b.0, behind-end x ys b.1)

  rank-end : (ys : List Level) → Ranked s ys → Ranked s (ys ++ (empty ∷ []))
  rank-end [] r = (tt, tt)
  rank-end (y ∷ ys) r = (behind-end y ys r.0, rank-end ys r.1)

  behind-same : (x y : Level) (ys : List Level) → y.price ≡ x.price → used x ≡ true → Behind s y ys → Behind s x ys
  behind-same x y [] e u b = tt
  behind-same x y (m ∷ ms) e u b =
      ((λ w. (u, (rw e at (b.0 w).1))), behind-same x y ms e u b.1)

  behind-better : (x y : Level) (ys : List Level) → used x ≡ true
      → (used y ≡ true → better s x.price y.price ≡ true)
      → Behind s y ys → Behind s x ys
  behind-better x y [] u t b = tt
  behind-better x y (m ∷ ms) u t b = (
    (λ w. (u, better-trans s x.price y.price m.price (t (b.0 w).0) (b.0 w).1)),
    behind-better x y ms u t b.1,
  )

either : (a : Bool) (n : ℕ) → n ≡ 0 → cond (a && false) n 0 ≡ 0
either true n e = refl
either false n e = refl

look-end : (r : ℤ) (ys : List Level) → look r (ys ++ (empty ∷ [])) ≡ look r ys
look-end r [] = either (same_price (pos 0) r) 0 refl
look-end r (y ∷ ys) = ap (λ (k : ℕ). cond (same_price y.price r && used y) y.quantity k) (look-end r ys)

end-size : (ys : List Level) → length (ys ++ (empty ∷ [])) ≡ suc (length ys)
end-size [] = refl
end-size (y ∷ ys) = ap suc (end-size ys)

-- What holds of a side with a level put: its order, the quantity at each price, what it stands behind, its places.
pub record Put (s : Bool) (x : Level) (l new : List Level) : Type 0 where
  pub ranked : Ranked s new
  pub looks : (r : ℤ) → look r new ≡ cond (same_price x.price r) x.quantity (look r l)
  pub keeps : (y : Level) → Behind s y l
      → (used x ≡ true → (used y ≡ true) × (better s y.price x.price ≡ true))
      → Behind s y new
  pub size : length new ≡ length l

held-yes : (p : ℤ) (y : Level) → ltb 0 (held_by p y) ≡ true → (same_price y.price p ≡ true) × (used y ≡ true)
unfolding held_by
held-yes p y e = go (same_price y.price p) refl e
  where
    go : (t : Bool) → same_price y.price p ≡ t → ltb 0 (cond t y.quantity 0) ≡ true
        → (same_price y.price p ≡ true) × (used y ≡ true)
    go true f q = (f, q)
    go false f q = absurd (false≢true q)

module _ (s : Bool) (x y : Level) (ys : List Level) (k : Ranked s (y ∷ ys))
    (e : (used y && better s y.price x.price) ≡ false) where
  module _ (h : ltb 0 (held_by x.price y) ≡ true) where
    the-price : y.price ≡ x.price
    the-price = same-equal y.price x.price (held-yes x.price y h).0

    other : (r : ℤ) → same_price x.price r ≡ false → look r (y ∷ ys) ≡ look r ys
    other r f = rw (the-price, f)

    put-replaced : used x ≡ true → Put s x (y ∷ ys) (x ∷ ys)
    put-replaced u = record {
      ranked = (behind-same s x y ys the-price u k.0, k.1);
      looks = λ r. replaced r (same_price x.price r) refl;
      keeps = λ z b t. (t, b.1);
      size = refl;
    }
      where
        replaced : (r : ℤ) (t : Bool) → same_price x.price r ≡ t
            → look r (x ∷ ys) ≡ cond (same_price x.price r) x.quantity (look r (y ∷ ys))
        replaced r true f = rw (f, u)
        replaced r false f = rw (other r f, f)

    put-removed : used x ≡ false → Put s x (y ∷ ys) (ys ++ (empty ∷ []))
    put-removed u = record {
      ranked = rank-end s ys k.1;
      looks = λ r. look-end r ys ∙ removed r (same_price x.price r) refl;
      keeps = λ z b t. behind-end s z ys b.1;
      size = end-size ys;
    }
      where
        removed : (r : ℤ) (t : Bool) → same_price x.price r ≡ t
            → look r ys ≡ cond (same_price x.price r) x.quantity (look r (y ∷ ys))
        removed r true f =
            rw (f, unused x u) (rw (same-equal x.price r f) at (none-behind s x.price y ys k.0 e))
        removed r false f = rw (other r f, f)

  module _ (h : ltb 0 (held_by x.price y) ≡ false) where
    no-level : look x.price (y ∷ ys) ≡ 0
    no-level = sym (first-look s x.price y ys k.0 e) ∙ omega (arith, ltb-false 0 (held_by x.price y) h)

    differs : used y ≡ true → same_price y.price x.price ≡ false
    differs u = go (same_price y.price x.price) refl
      where
        go : (t : Bool) → same_price y.price x.price ≡ t → same_price y.price x.price ≡ false
        go false f = f
        go true f =
            let z : y.quantity ≡ 0 = rw (f, u) at no-level in
            absurd (false≢true ((sym (rw z)) ∙ u))

    put-pushed : used x ≡ true → last_free (y ∷ ys) ≡ true → Put s x (y ∷ ys) (x ∷ pushed y ys)
    put-pushed u free = record {
      ranked = (behind-push s x y ys ((λ w. (u, above w)), behind-better s x y ys u above k.0), rank-push s y ys k);
      looks = λ r. rw (u, push-look r y ys free) (pushing r (same_price x.price r));
      keeps = λ z b t. (t, behind-push s z y ys b);
      size = ap suc (push-size y ys);
    }
      where
        above : used y ≡ true → better s x.price y.price ≡ true
        above w = better-one s y.price x.price (rw w at e) (differs w)

        pushing : (r : ℤ) (t : Bool) → cond (t && true) x.quantity (look r (y ∷ ys))
            ≡ cond t x.quantity (look r (y ∷ ys))
        pushing r true = refl
        pushing r false = refl

    put-none : used x ≡ false → Put s x (y ∷ ys) (y ∷ ys)
    put-none u = record {
      ranked = k;
      looks = λ r. same r (same_price x.price r) refl;
      keeps = λ z b t. b;
      size = refl;
    }
      where
        same : (r : ℤ) (t : Bool) → same_price x.price r ≡ t
            → look r (y ∷ ys) ≡ cond (same_price x.price r) x.quantity (look r (y ∷ ys))
        same r true f =
            rw (f, unused x u) (sym (ap (λ (p : ℤ). look p (y ∷ ys)) (same-equal x.price r f)) ∙ no-level)
        same r false f = rw f

  put_first-is : (used x ≡ true → look x.price (y ∷ ys) ≡ 0 → last_free (y ∷ ys) ≡ true)
      → Put s x (y ∷ ys) (put_first x (y ∷ ys))
  put_first-is room = go (used x) refl (ltb 0 (held_by x.price y)) refl
    where
      go : (u : Bool) → used x ≡ u → (h : Bool) → ltb 0 (held_by x.price y) ≡ h
          → Put s x (y ∷ ys) (put_first x (y ∷ ys))
      go true u true h = rw (u, h) (put-replaced h u)
      go true u false h = rw (u, h) (put-pushed h u (room u (no-level h)))
      go false u true h = rw (u, h) (put-removed h u)
      go false u false h = rw (u, h) (put-none h u)

-- A level put at its price's place.
abbrev pub placed_in : Bool → Level → List Level → List Level
placed_in s x l = take (place_in s x.price l) l ++ put_first x (drop (place_in s x.price l) l)

module _ (s : Bool) (x y : Level) (ys : List Level) (k : Ranked s (y ∷ ys))
    (room : used x ≡ true → look x.price (y ∷ ys) ≡ 0 → last_free (y ∷ ys) ≡ true) where
  here : (used y && better s y.price x.price) ≡ false → Put s x (y ∷ ys) (placed_in s x (y ∷ ys))
  here e = rw e (put_first-is s x y ys k e room)

  module _ (u : used y ≡ true) (b : better s y.price x.price ≡ true) where
    apart : look x.price (y ∷ ys) ≡ look x.price ys
    apart = rw (better-other s y.price x.price b)

    looking : (n : List Level) → ((r : ℤ) → look r n ≡ cond (same_price x.price r) x.quantity (look r ys)) → (r : ℤ)
        → (t : Bool)
        → same_price x.price r ≡ t
        → look r (y ∷ n) ≡ cond (same_price x.price r) x.quantity (look r (y ∷ ys))
    looking n l r true f =
        let d : same_price y.price r ≡ false =
        rw (same-equal x.price r f) at (better-other s y.price x.price b) in
        rw (d, l r, f)
    looking n l r false f = rw (l r, f)

    further : (n : List Level) → Put s x ys n → Put s x (y ∷ ys) (y ∷ n)
    further n q = record {
      ranked = (q.keeps y k.0 (λ w. (u, b)), q.ranked);
      looks = λ r. looking n q.looks r (same_price x.price r) refl;
      keeps = λ z c t. (c.0, q.keeps z c.1 t);
      size = ap suc q.size;
    }

  put_on : ((used x ≡ true → look x.price ys ≡ 0 → last_free ys ≡ true) → Put s x ys (placed_in s x ys)) → (u : Bool)
      → used y ≡ u
      → (t : Bool) → better s y.price x.price ≡ t
      → Put s x (y ∷ ys) (placed_in s x (y ∷ ys))
  put_on rest false u t b = here (rw u)
  put_on rest true u false b = here (rw (u, b))
  put_on rest true u true b =
      rw (u, b)
      (further u b (placed_in s x ys) (rest (λ w z. free-behind y ys (room w (apart u b ∙ z)) u)))

-- Where a new one has room.
pub put-level : (s : Bool) (x : Level) (l : List Level) → Ranked s l
    → (used x ≡ true → look x.price l ≡ 0 → last_free l ≡ true)
    → Put s x l (placed_in s x l)
put-level s x [] k room =
    record { ranked = tt; looks = λ r. none (used x) refl (same_price x.price r); keeps = λ y b t. tt; size = refl }
  where
    none : (u : Bool) → used x ≡ u → (t : Bool) → 0 ≡ cond t x.quantity 0
    none true u t = absurd (false≢true (room u refl))
    none false u true = sym (unused x u)
    none false u false = refl
put-level s x (y ∷ ys) k room =
    put_on s x y ys k room (put-level s x ys k.1) (used y) refl (better s y.price x.price) refl
