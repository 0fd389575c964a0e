-- What a computed test says: of lists, and of the conditions of the second half. Assumes nothing.
use Prim.Native.Nat.{ℕ}
use mathlib.Core.Path.{◌≡◌, refl}
use mathlib.Core.List.{List, [], ◌∷◌, ◌++◌, map}
use mathlib.Core.Bool.{Bool, true, false, cond, ◌&&◌}
use lib.Dec.{T, eqb, leb, eqb→eq, leb→le}
use lib.ListN.{length}
use Rattle.ftd.specs.Types.{TradeDate}
use Rattle.flow.specs.Ends.{is_day, all_parts}
use Rattle.flow.specs.Serving.{send_of}
use Rattle.flow.specs.World.{InSeries, in_series, Delivery, answer, message, World}
use Rattle.flow.specs.Agreement.{Subsequence, done, skip, keep, since, in_that, CaughtUp}
use Rattle.std.specs.Prelude.{Some, None, Ok, Err}
use Rattle.flow.specs.Types.{SendAnswer}

both : (a b : Bool) → T (a && b) → T a × T b
both true b t = (tt, t)
both false b t = absurd t

-- ─── Several tests at once ───

abbrev pub hold_all : List Bool → Bool
hold_all [] = true
hold_all (b ∷ l) = b && hold_all l

abbrev pub Each : List Bool → Type 0
Each [] = Unit {0}
Each (b ∷ l) = T b × Each l

pub each : (l : List Bool) → T (hold_all l) → Each l
each [] t = tt
each (b ∷ l) t = let h = both b (hold_all l) t in (h.0, each l h.1)

-- ─── Lists ───

module _ {A : Type 0} (like : A → A → Bool) where
  abbrev pub alike : List A → List A → Bool
  alike [] [] = true
  alike [] (y ∷ ys) = false
  alike (x ∷ xs) [] = false
  alike (x ∷ xs) (y ∷ ys) = like x y && alike xs ys

  -- The first of xs that stands in ys is found, and what is behind it there is searched for the others.
  abbrev pub is_within : List A → List A → Bool
  is_within [] [] = true
  is_within [] (y ∷ ys) = is_within [] ys
  is_within (x ∷ xs) [] = false
  is_within (x ∷ xs) (y ∷ ys) = cond (like x y) (is_within xs ys) (is_within (x ∷ xs) ys)

  module _ (sound : (x y : A) → T (like x y) → x ≡ y) where
    pub alike-eq : (xs ys : List A) → T (alike xs ys) → xs ≡ ys
    alike-eq [] [] t = refl
    alike-eq [] (y ∷ ys) t = absurd t
    alike-eq (x ∷ xs) [] t = absurd t
    alike-eq (x ∷ xs) (y ∷ ys) t =
        let h = both (like x y) (alike xs ys) t in
        let e = sound x y h.0 in
        let f = alike-eq xs ys h.1 in
        rw (e, f)

    pub within-sub : (xs ys : List A) → T (is_within xs ys) → Subsequence xs ys
    within-sub [] [] t = done
    within-sub [] (y ∷ ys) t = skip (within-sub [] ys t)
    within-sub (x ∷ xs) [] t = absurd t
    within-sub (x ∷ xs) (y ∷ ys) t = go (like x y) refl (within-sub xs ys) (within-sub (x ∷ xs) ys) t
      where
        go : (b : Bool) → like x y ≡ b → (T (is_within xs ys) → Subsequence xs ys)
            → (T (is_within (x ∷ xs) ys) → Subsequence (x ∷ xs) ys) →
            T (cond b (is_within xs ys) (is_within (x ∷ xs) ys)) → Subsequence (x ∷ xs) (y ∷ ys)
        go true q f g u = let h : T (like x y) = rw q tt in rw (sound x y h) (keep (f u))
        go false q f g u = skip (g u)

-- ─── Bytes, answers on the line, deliveries ───

abbrev pub same_bytes : List ℕ → List ℕ → Bool
same_bytes = alike eqb

pub bytes_eq : (a b : List ℕ) → T (same_bytes a b) → a ≡ b
bytes_eq = alike-eq eqb eqb→eq

abbrev pub same_reply : InSeries (List ℕ) → InSeries (List ℕ) → Bool
same_reply x y = eqb x.series y.series && same_bytes x.what y.what

pub reply-eq : (x y : InSeries (List ℕ)) → T (same_reply x y) → x ≡ y
reply-eq x y t =
    let h = both (eqb x.series y.series) (same_bytes x.what y.what) t in
    let e = eqb→eq x.series y.series h.0 in
    let f = bytes_eq x.what y.what h.1 in
    let g : in_series x.series x.what ≡ in_series y.series y.what = rw (e, f) in
    g

abbrev pub same_delivery : Delivery → Delivery → Bool
same_delivery (answer s p) (answer t q) = eqb s t && same_bytes p q
same_delivery (answer s p) (message qs) = false
same_delivery (message ps) (answer t q) = false
same_delivery (message ps) (message qs) = alike same_bytes ps qs

pub delivery-eq : (x y : Delivery) → T (same_delivery x y) → x ≡ y
delivery-eq (answer s p) (answer t q) h =
    let k = both (eqb s t) (same_bytes p q) h in
    let e = eqb→eq s t k.0 in
    let f = bytes_eq p q k.1 in
    rw (e, f)
delivery-eq (answer s p) (message qs) h = absurd h
delivery-eq (message ps) (answer t q) h = absurd h
delivery-eq (message ps) (message qs) h = let e = alike-eq same_bytes bytes_eq ps qs h in rw e

-- ─── The second half's conditions ───

is-day : (d : ℕ) (e : TradeDate) → T (is_day d e) → e ≡ Some d
is-day d None t = absurd t
is-day d (Some e) t = let h = eqb→eq e d t in rw h

abbrev pub is_empty : {A : Type 0} → List A → Bool
is_empty [] = true
is_empty (x ∷ l) = false

pub is-empty : {A : Type 0} (l : List A) → T (is_empty l) → l ≡ []
is-empty [] t = refl
is-empty (x ∷ l) t = absurd t

abbrev pub is_drained : SendAnswer → Bool
is_drained (Ok None) = true
is_drained (Ok (Some found)) = false
is_drained (Err r) = false

is-drained : (a : SendAnswer) → T (is_drained a) → a ≡ (Ok None)
is-drained (Ok None) t = refl
is-drained (Ok (Some found)) t = absurd t
is-drained (Err r) t = absurd t

-- One test for each condition, in their order.
abbrev tests : World → World → World → ℕ → ℕ → List ℕ → List ℕ → List Bool
tests u v w s d a out =
    alike same_reply v.serving.answers (u.serving.answers ++ (in_series s a ∷ []))
    ∷ is_day d v.serving.day
    ∷ is_empty (in_that s (since v.serving.answers w.serving.answers))
    ∷ is_within same_delivery
    (answer s a ∷ map message (in_that s (since v.serving.messages w.serving.messages)))
    (since v.receiving.delivered w.receiving.delivered)
    ∷ is_drained (send_of w.serving.end s w.serving.log out).answer
    ∷ leb (all_parts w.receiving.end) (length w.receiving.buffer)
    ∷ eqb w.serving.openings v.serving.openings
    ∷ eqb w.receiving.restarts v.receiving.restarts
    ∷ []

unfoldable pub is_caught_up : World → World → World → ℕ → ℕ → List ℕ → List ℕ → Bool
is_caught_up u v w s d a out = hold_all (tests u v w s d a out)

pub caught-up : (u v w : World) (s d : ℕ) (a out : List ℕ) → T (is_caught_up u v w s d a out) → CaughtUp u v w s d a out
unfolding is_caught_up
caught-up u v w s d a out t =
    let h = each (tests u v w s d a out) t in
    record {
      login = alike-eq same_reply reply-eq _ _ h.0;
      day = is-day d _ h.1.0;
      last = is-empty _ h.1.1.0;
      delivered = within-sub same_delivery delivery-eq _ _ h.1.1.1.0;
      drained = is-drained _ h.1.1.1.1.0;
      room = leb→le _ _ h.1.1.1.1.1.0;
      no-opening = eqb→eq _ _ h.1.1.1.1.1.1.0;
      no-restart = eqb→eq _ _ h.1.1.1.1.1.1.1.0;
    }
