-- All of a list; and what a list holds since then, and of one series. Assumes nothing.
use Prim.Native.Nat.{ℕ, zero, suc, ◌≤◌}
use mathlib.Core.Path.{◌≡◌, refl, ap, ◌∙◌}
use mathlib.Core.List.{List, [], ◌∷◌, ◌++◌, append_assoc}
use lib.Seq.{drop-append_seam, drop-length, drop-append-le}
use mathlib.Core.Option.{some, none-ne-some}
use lib.ListN.{get_elem?, length, drop, length-append}
use Rattle.flow.specs.World.{InSeries, in_series}
use Rattle.flow.specs.Agreement.{since, in_that}
use Rattle.flow.proofs.common.Extends.{Extends}
use native.Mathlib.Omega.{arith}
use mathlib.Core.Bool.{Bool, true, false, cond}
use lib.Dec.{eqb}

module _ {A : Type 0} where
  abbrev pub Every : (A → Type 0) → List A → Type 0
  Every P [] = Unit {0}
  Every P (x ∷ l) = P x × Every P l

  pub every_append : (P : A → Type 0) (l t : List A) → Every P l → Every P t → Every P (l ++ t)
  every_append P [] t h k = k
  every_append P (x ∷ l) t h k = (h.0, every_append P l t h.1 k)

  pub every_map : (P Q : A → Type 0) → ((x : A) → P x → Q x) → (l : List A) → Every P l → Every Q l
  every_map P Q f [] h = tt
  every_map P Q f (x ∷ l) h = (f x h.0, every_map P Q f l h.1)

  pub every-at : (P : A → Type 0) (l : List A) (i : ℕ) (x : A) → Every P l → get_elem? l i ≡ some x → P x
  every-at P [] i x h e = absurd (none-ne-some x e)
  every-at P (y ∷ l) zero x h e = let q : y ≡ x = cc in rw q at h.0
  every-at P (y ∷ l) (suc i) x h e = every-at P l i x h.1 e

  -- From a place on.
  pub every-from : (P : A → Type 0) (n : ℕ) (l : List A) (i : ℕ) (x : A) → Every P (drop n l) → n ≤ i
      → get_elem? l i ≡ some x → P x
  every-from P zero l i x h k e = every-at P l i x h e
  every-from P (suc n) [] i x h k e = absurd (none-ne-some x e)
  every-from P (suc n) (y ∷ l) zero x h k e = absurd (omega arith)
  every-from P (suc n) (y ∷ l) (suc i) x h k e = every-from P n l i x h (omega arith) e

-- ─── What a list holds behind another ───

module _ {A : Type 0} where
  pub since-is : (a b c : List A) → b ≡ a ++ c → since a b ≡ c
  since-is a b c e = rw e (drop-append_seam a c)

  pub since-along : (a b c : List A) → Extends a b → Extends b c → since a c ≡ since a b ++ since b c
  since-along a b c g h =
      let x = since-is a b g.0 g.1 in
      let y = since-is b c h.0 h.1 in
      since-is a c (g.0 ++ h.0) (h.1 ∙ ap (λ l. l ++ h.0) g.1 ∙ append_assoc a g.0 h.0) ∙ rw (x, y)

module _ {A : Type 0} where
  pub since-same : (a : List A) → since a a ≡ []
  since-same a = drop-length a

  pub since-append : (a b m : List A) → Extends a b → since a (b ++ m) ≡ since a b ++ m
  since-append a b m x =
      drop-append-le (length a) b m (let k = ap length x.1 ∙ length-append a x.0 in omega arith)

  pub that-append : (s : ℕ) (l m : List (InSeries A)) → in_that s (l ++ m) ≡ in_that s l ++ in_that s m
  that-append s [] m = refl
  that-append s (x ∷ l) m = go (eqb x.series s) (that-append s l m)
    where
      go : (b : Bool) → in_that s (l ++ m) ≡ in_that s l ++ in_that s m →
          cond b (x.what ∷ in_that s (l ++ m)) (in_that s (l ++ m)) ≡ cond b (x.what ∷ in_that s l)
          (in_that s l) ++ in_that s m
      go true ih = rw ih
      go false ih = ih

-- One more, in its series or in another.
pub that-more : {A : Type 0} (s t : ℕ) (a b : List (InSeries A)) (x : A) → Extends a b →
    in_that s (since a (b ++ (in_series t x ∷ []))) ≡ in_that s (since a b) ++ cond (eqb t s) (x ∷ []) []
that-more s t a b x e =
    ap (in_that s) (since-append a b (in_series t x ∷ []) e) ∙ that-append s (since a b) (in_series t x ∷ [])

pub append-empty : {A : Type 0} (a b : List A) → a ++ b ≡ [] → (a ≡ []) × (b ≡ [])
append-empty [] b q = (refl, q)
append-empty (x ∷ a) b q = absurd (let z : ◌≡◌ {A = ℕ} 0 1 = cc in omega arith)
