-- The bytes that entries take in a log, by series, and what series with their reserves take. Assumes nothing.
use Prim.Native.Nat.{ℕ, zero, suc, ◌+◌, ◌≤◌}
use native.Mathlib.Omega.{arith}
use mathlib.Core.Path.{◌≡◌, refl}
use mathlib.Core.List.{List, [], ◌∷◌, ◌++◌}
use mathlib.Core.Bool.{Bool, true, false, cond}
use borrow.Author.Tests.{ltb-true, ltb-false}
use lib.ListN.{length, take}
use lib.Dec.{ltb}
use Rattle.flow.specs.Ends.{sum_of, larger}
use Rattle.flow.specs.Answers.{Message}
use Rattle.flow.specs.World.{Dated}
use Rattle.flow.specs.Agreement.{of}
use Rattle.flow.proofs.common.Histories.{of-append}
use Rattle.relay.specs.Agreement.{bytes_of, needed}

-- ─── Of messages ───

pub bytes-append : (a b : List Message) → bytes_of (a ++ b) ≡ bytes_of a + bytes_of b
bytes-append [] b = omega arith
bytes-append (m ∷ a) b = let h = bytes-append a b in omega arith

bytes_take : (n : ℕ) (l : List Message) → bytes_of (take n l) ≤ bytes_of l
bytes_take zero l = omega arith
bytes_take (suc n) [] = omega arith
bytes_take (suc n) (m ∷ l) = let h = bytes_take n l in omega arith

-- ─── The larger of two ───

larger-more : (a b r : ℕ) → a ≤ b → larger a r ≤ larger b r
larger-more a b r h = go (ltb a r) refl (ltb b r) refl
  where
    go : (x : Bool) → ltb a r ≡ x → (y : Bool) → ltb b r ≡ y → cond x r a ≤ cond y r b
    go true p true q = omega arith
    go true p false q = let k = ltb-false b r q in omega arith
    go false p true q = let k = ltb-true b r q in let l = ltb-false a r p in omega arith
    go false p false q = omega arith

larger-least : (a r : ℕ) → r ≤ larger a r
larger-least a r = go (ltb a r) refl
  where
    go : (x : Bool) → ltb a r ≡ x → r ≤ cond x r a
    go true p = omega arith
    go false p = let l = ltb-false a r p in omega arith

-- ─── Of series ───

module _ (d : ℕ) where
  -- What takes no more of each series takes no more.
  needed-less : (ss rs : List ℕ) (H X : List (Dated Message))
      → ((u : ℕ) → bytes_of (of u d H) ≤ bytes_of (of u d X)) → needed ss rs d H ≤ needed ss rs d X
  needed-less [] rs H X f = omega arith
  needed-less (s ∷ ss) [] H X f = let a = f s in let h = needed-less ss [] H X f in omega arith
  needed-less (s ∷ ss) (r ∷ rs) H X f =
      let a = larger-more (bytes_of (of s d H)) (bytes_of (of s d X)) r (f s) in
      let h = needed-less ss rs H X f in
      omega arith

  -- So what has of each series a start of the other's;
  pub needed-starts : (ss rs : List ℕ) (H X : List (Dated Message))
      → ((u : ℕ) → (n : ℕ) × (of u d H ≡ take n (of u d X))) → needed ss rs d H ≤ needed ss rs d X
  needed-starts ss rs H X f =
      needed-less ss rs H X λ u. let z = f u in rw z.1 (bytes_take z.0 (of u d X))

  -- and what was there before more came.
  pub needed-more : (ss rs : List ℕ) (l k : List (Dated Message)) → needed ss rs d l ≤ needed ss rs d (l ++ k)
  needed-more ss rs l k =
      needed-less ss rs l (l ++ k) λ u.
      (let a = bytes-append (of u d l) (of u d k) in rw (of-append u d l k) (omega arith))

  -- The reserves are within it.
  pub reserves-needed : (ss rs : List ℕ) (l : List (Dated Message)) → length rs ≡ length ss
      → sum_of rs ≤ needed ss rs d l
  reserves-needed [] [] l q = omega arith
  reserves-needed [] (r ∷ rs) l q = absurd (omega arith)
  reserves-needed (s ∷ ss) [] l q = absurd (omega arith)
  reserves-needed (s ∷ ss) (r ∷ rs) l q =
      let a = larger-least (bytes_of (of s d l)) r in
      let h = reserves-needed ss rs l (omega arith) in
      omega arith
