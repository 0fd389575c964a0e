-- Of sessions that Set takes at most one has a second. Assumes nothing.
use Prim.Native.Nat.{ℕ, ◌/◌, ◌%◌, ◌<◌}
use native.Mathlib.Omega.{arith}
use mathlib.Core.Path.{◌≡◌, refl, sym, ◌∙◌}
use mathlib.Core.List.{List}
use mathlib.Core.Bool.{Bool, true, false, not, false≢true}
use borrow.Author.Tests.{ltb-true, ltb-false}
use lib.ListN.{length}
use lib.Dec.{eqb, ltb}
use Rattle.calendar.specs.Calendar.{some, wrong_session, overlap, overlaps_before, wrong_sessions, holds}
use Rattle.calendar.proofs.Some.{or-neither, none-at}
use Rattle.calendar.proofs.sessions.Common.{common}

module _ (l : List ℕ) (second : ℕ) where
  module _ (w : wrong_sessions l ≡ false) where
    apart : (i j : ℕ) → i < length l / 3 → j < i → overlap l i j ≡ false
    unfolding wrong_sessions
    apart i j h k =
        let n = length l / 3 in
        let a = (or-neither (not (eqb (length l % 3) 0)) _ w).1 in
        let b = (or-neither (ltb 8 n) _ a).1 in
        let c = (or-neither (some n (wrong_session l)) _ b).1 in
        none-at (overlap l i) i j (none-at (overlaps_before l) n i c h) k

    never : (i j : ℕ) → i < length l / 3 → j < i → holds l second i ≡ true → holds l second j ≡ true → ⊥
    never i j h k p q = false≢true (sym (apart i j h k) ∙ common l second i j p q)

    pub one-alone : (i j : ℕ) → i < length l / 3 → j < length l / 3
        → holds l second i ≡ true → holds l second j ≡ true → i ≡ j
    one-alone i j h k p q = go (ltb j i) refl (ltb i j) refl
      where
        go : (a : Bool) → ltb j i ≡ a → (b : Bool) → ltb i j ≡ b → i ≡ j
        go true e b f = absurd (never i j h (ltb-true j i e) p q)
        go false e true f = absurd (never j i k (ltb-true i j f) q p)
        go false e false f =
            let x = ltb-false j i e in
            let y = ltb-false i j f in
            omega arith
