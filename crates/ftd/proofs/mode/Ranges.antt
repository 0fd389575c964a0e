-- The mode of a TID, by the ranges that a `match` tells apart. Assumes nothing.
use Prim.Native.Nat.{ℕ, ◌<◌, ◌≤◌}
use mathlib.Core.Path.{◌≡◌, refl}
use mathlib.Core.List.{List, [], ◌∷◌}
use mathlib.Core.Logic.{◌⊎◌, inl, inr}
use mathlib.Core.Bool.{Bool, true, false, cond, ◌||◌}
use native.Mathlib.Omega.{arith}
use borrow.Author.Tests.{le-leb, lt-leb, le-ltb, eq-eqb, ne_eqb, eqb-true, eqb-false, ltb-true}
use lib.Dec.{leb, ltb, eqb, T, leb→le}
use Rattle.ftd.specs.Table.Helpers.{all_below}
use Rattle.ftd.specs.Values.{every, among}
use Rattle.ftd.specs.Mode.{listed_tids, mode_of}
use Rattle.ftd.specs.declared.mode.Mode.TheVariants.{Private, Broadcast, Management, Dialog, Unknown}
use Rattle.ftd.proofs.table.Rule.{both_left, both_right, is_true, below_at}

-- No TID of a list lies in a gap.
abbrev outside : ℕ → ℕ → ℕ → Bool
outside low high v = ltb v low || leb high v

not_there : (low high t : ℕ) → low ≤ t → t < high → (l : List ℕ) → T (every (outside low high) l) → among t l ≡ false
not_there low high t p q [] h = refl
not_there low high t p q (v ∷ vs) h =
    rw (ne_eqb t v (λ e. apart (ltb v low) refl e (both_left (outside low high v) (every (outside low high) vs) h)))
    (not_there low high t p q vs (both_right (outside low high v) (every (outside low high) vs) h))
  where
    apart : (b : Bool) → ltb v low ≡ b → t ≡ v → T (b || leb high v) → ⊥
    apart true e s h = omega (arith, ltb-true v low e)
    apart false e s h = omega (arith, leb→le high v h)

module _ (t : ℕ) where
  pub in-private : 4097 ≤ t → t < 4100 → Private ≡ mode_of t
  unfolding mode_of
  in-private p q = rw (le-leb 4097 t p, le-leb t 4099 (omega arith))

  pub in-broadcast : 8193 ≤ t → t < 8200 → Broadcast ≡ mode_of t
  unfolding mode_of
  in-broadcast p q =
      rw (lt-leb t 4099 (omega arith), le-leb 4097 t (omega arith), le-leb 8193 t p, le-leb t 8199 (omega arith))

  pub in-management : 22 ≤ t → t < 24 → Management ≡ mode_of t
  unfolding mode_of
  in-management p q = rw (lt-leb 4097 t (omega arith), lt-leb 8193 t (omega arith)) (two (eqb t 22) refl)
    where
      two : (b : Bool) → eqb t 22 ≡ b → Management ≡ cond (b || (eqb t 23 || eqb t 4101)) Management
          (cond (among t listed_tids) Dialog Unknown)
      two true e = refl
      two false e = rw (eq-eqb t 23 (omega (arith, eqb-false t 22 e)))

  pub is-management : t ≡ 4101 → Management ≡ mode_of t
  unfolding mode_of
  is-management e = rw e

  -- Below 0x1001, 0x0016 and 0x0017 aside, and between the ranges, Appendix A decides.
  rest : (t < 4097) ⊎ ((4100 ≤ t) × (t < 8193)) ⊎ (8200 ≤ t) → (t ≡ 22 → ⊥) → (t ≡ 23 → ⊥) → (t ≡ 4101 → ⊥)
      → mode_of t ≡ cond (among t listed_tids) Dialog Unknown
  unfolding mode_of
  rest (inl h) a b c = rw (lt-leb 4097 t h, lt-leb 8193 t (omega arith), ne_eqb t 22 a, ne_eqb t 23 b, ne_eqb t 4101 c)
  rest (inr (inl h)) a b c =
      rw (
        le-leb 4097 t (omega arith),
        lt-leb t 4099 (omega arith),
        lt-leb 8193 t (omega arith),
        ne_eqb t 22 a,
        ne_eqb t
            23 b,
        ne_eqb t 4101 c,
      )
  rest (inr (inr h)) a b c =
      rw (
        le-leb 4097 t (omega arith),
        lt-leb t 4099 (omega arith),
        le-leb 8193 t (omega arith),
        lt-leb t 8199
            (omega arith),
        ne_eqb t 22 a,
        ne_eqb t 23 b,
        ne_eqb t 4101 c,
      )

  low-listed : T (all_below (λ v. outside 1 15 v || among v listed_tids) 15)
  unfolding listed_tids
  low-listed = tt

  mid-listed : T (all_below (λ v. outside 18 22 v || among v listed_tids) 22)
  unfolding listed_tids
  mid-listed = tt

  small : t < 22 → mode_of t ≡ cond (among t listed_tids) Dialog Unknown
  small h = rest (inl (omega arith)) (λ e. omega arith) (λ e. omega arith) (λ e. omega arith)

  pub in-low : 1 ≤ t → t < 15 → Dialog ≡ mode_of t
  in-low p q =
      let a : T (outside 1 15 t || among t listed_tids) =
      below_at (λ v. outside 1 15 v || among v listed_tids) 15 low-listed t q in
      let b : among t listed_tids ≡ true = is_true (among t listed_tids) (rw (le-ltb t 1 p, lt-leb 15 t q) at a) in
      rw (small (omega arith), b)

  pub in-mid : 18 ≤ t → t < 22 → Dialog ≡ mode_of t
  in-mid p q =
      let a : T (outside 18 22 t || among t listed_tids) =
      below_at (λ v. outside 18 22 v || among v listed_tids) 22 mid-listed t q in
      let b : among t listed_tids ≡ true = is_true (among t listed_tids) (rw (le-ltb t 18 p, lt-leb 22 t q) at a) in
      rw (small q, b)

  pub is-dialog : t ≡ 24 → Dialog ≡ mode_of t
  unfolding mode_of listed_tids
  is-dialog e = rw e

  pub no-tid : t < 1 → Unknown ≡ mode_of t
  unfolding listed_tids
  no-tid h = rw (small (omega arith), not_there 0 1 t (omega arith) h listed_tids tt)

  pub gap-low : 15 ≤ t → t < 18 → Unknown ≡ mode_of t
  unfolding listed_tids
  gap-low p q = rw (small (omega arith), not_there 15 18 t p q listed_tids tt)

  pub gap-mid : 24 ≤ t → (t ≡ 24 → ⊥) → t < 4097 → Unknown ≡ mode_of t
  unfolding listed_tids
  gap-mid p n q =
      rw (
        rest (inl q) (λ e. omega arith) (λ e. omega arith) (λ e. omega arith),
        not_there 25 4097 t (omega arith) q
            listed_tids tt,
      )

  pub gap-high : 4100 ≤ t → (t ≡ 4101 → ⊥) → t < 8193 → Unknown ≡ mode_of t
  unfolding listed_tids
  gap-high p n q =
      rw (rest (inr (inl (p, q))) (λ e. omega arith) (λ e. omega arith) n, high (eqb t 4100) refl)
    where
      high : (b : Bool) → eqb t 4100 ≡ b → among t listed_tids ≡ false
      high true e =
          not_there 4100 4101 t (omega (arith, eqb-true t 4100 e)) (omega (arith, eqb-true t 4100 e)) listed_tids tt
      high false e = not_there 4102 8193 t (omega (arith, eqb-false t 4100 e)) q listed_tids tt

  pub past_all : 8200 ≤ t → t < 4294967296 → Unknown ≡ mode_of t
  unfolding listed_tids
  past_all p q =
      rw (
        rest (inr (inr p)) (λ e. omega arith) (λ e. omega arith) (λ e. omega arith),
        not_there 8200 4294967296 t p q
            listed_tids tt,
      )
