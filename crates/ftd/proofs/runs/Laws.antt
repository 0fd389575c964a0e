-- Laws of runs. Assumes nothing.
use Prim.Native.Nat.{ℕ, zero, suc, ◌+◌, ◌-◌, ◌<◌, ◌≤◌}
use mathlib.Core.Path.{◌≡◌, refl, sym, ap, ◌∙◌}
use mathlib.Core.List.{List, [], ◌∷◌, ◌++◌, append_assoc, append-nil}
use mathlib.Core.Bool.{Bool, true, false, cond}
use native.Mathlib.Omega.{arith}
use borrow.Author.Tests.{lt-leb, leb-true, eqb-true}
use lib.ListN.{length, take, drop, length-drop, length-take, take-append-drop}
use lib.Seq.{drop-drop}
use lib.Dec.{leb}
use Rattle.ftd.specs.Bytes.{joined}
use Rattle.ftd.specs.Runs.{Form, front, Run, in_front, cut_off, run_in, run_of, ended}

-- An entry at the front lies inside the bytes.
pub front-inside : (F : Form) (l : List ℕ) → front F l ≤ length l
unfolding front
front-inside F l = go (leb (F.head + F.follow l) (length l)) refl
  where
    go : (b : Bool) → leb (F.head + F.follow l) (length l) ≡ b → cond b (F.head + F.follow l) 0 ≤ length l
    go true e = leb-true _ _ e
    go false e = omega arith

-- An entry takes its head at least.
pub front-head : (F : Form) (l : List ℕ) → 0 < front F l → F.head ≤ front F l
unfolding front
front-head F l = go (leb (F.head + F.follow l) (length l))
  where
    go : (b : Bool) → 0 < cond b (F.head + F.follow l) 0 → F.head ≤ cond b (F.head + F.follow l) 0
    go true h = omega arith
    go false h = absurd (omega arith)

module _ (F : Form) (some : 0 < F.head) where
  front-none : (l : List ℕ) → length l ≤ 0 → front F l ≡ 0
  unfolding front
  front-none l h = rw (lt-leb (F.head + F.follow l) (length l) (omega arith))

  fuel : (n m : ℕ) (l : List ℕ) → length l ≤ n → length l ≤ m → run_in F n l ≡ run_in F m l
  fuel zero zero l h k = refl
  fuel zero (suc m) l h k = rw (front-none l h)
  fuel (suc n) zero l h k = rw (front-none l k)
  fuel (suc n) (suc m) l h k = go (front F l) (front-inside F l) (λ r p q. fuel n m r p q)
    where
      go : (w : ℕ) → w ≤ length l → ((r : List ℕ) → length r ≤ n → length r ≤ m → run_in F n r ≡ run_in F m r)
          → cut_off (run_in F n) l w ≡ cut_off (run_in F m) l w
      go zero w ih = refl
      go (suc x) w ih =
          ap (in_front (take (suc x) l))
          (ih (drop (suc x) l) (rw length-drop (omega arith)) (rw length-drop (omega arith)))

  -- A run is the entry at its front and the run behind it.
  pub run_step : (l : List ℕ) → run_of F l ≡ cut_off (run_of F) l (front F l)
  unfolding run_of
  run_step l = fuel (length l) (suc (length l)) l (omega arith) (omega arith) ∙ go (front F l) (front-inside F l)
    where
      go : (w : ℕ) → w ≤ length l → cut_off (run_in F (length l)) l w ≡ cut_off (λ (r : List ℕ). run_in F (length r) r) l w
      go zero w = refl
      go (suc x) w =
          ap (in_front (take (suc x) l))
          (fuel (length l) (length (drop (suc x) l)) (drop (suc x) l) (rw length-drop (omega arith)) (omega arith))

-- The run from a place on, by what the entry there takes.
module _ (F : Form) (some : 0 < F.head) (l : List ℕ) (at n : ℕ) (e : n ≡ front F (drop at l)) where
  -- Nothing stands there whole: the run is over.
  pub run-over : n ≡ 0 → run_of F (drop at l) ≡ record { entries = []; rest = drop at l }
  run-over z = rw (run_step F some (drop at l), ← e, z)

  -- An entry stands there: it is cut off, and the run goes on behind it.
  pub run-next : (n ≡ 0 → ⊥) → run_of F (drop at l) ≡ in_front (take n (drop at l)) (run_of F (drop (at + n) l))
  run-next z = rw (run_step F some (drop at l), ← e, ← (drop-drop n at l)) (go n z)
    where
      go : (k : ℕ) → (k ≡ 0 → ⊥) → cut_off (run_of F) (drop at l) k ≡ in_front (take k (drop at l))
          (run_of F (drop k (drop at l)))
      go zero z = absurd (z refl)
      go (suc k) z = refl

  -- The entry lies inside the bytes.
  pub entry-inside : n ≤ length l - at
  entry-inside = rw e (rw length-drop at (front-inside F (drop at l)))

  pub entry-head : (n ≡ 0 → ⊥) → F.head ≤ n
  entry-head z = rw e (front-head F (drop at l) (rw e at (go n z)))
    where
      go : (k : ℕ) → (k ≡ 0 → ⊥) → 0 < k
      go zero z = absurd (z refl)
      go (suc k) z = omega arith

  pub entry_length : length (take n (drop at l)) ≡ n
  entry_length = simp (length-take, length-drop) (omega (arith, entry-inside))

-- The entries, with what is left behind them, make up the bytes.
cut-joined : (more : List ℕ → Run) → ((l : List ℕ) → joined (more l).entries ++ (more l).rest ≡ l)
    → (l : List ℕ) (n : ℕ)
    → joined (cut_off more l n).entries ++ (cut_off more l n).rest ≡ l
cut-joined more ih l zero = refl
cut-joined more ih l (suc k) =
    append_assoc (take (suc k) l) (joined (more (drop (suc k) l)).entries) (more (drop (suc k) l)).rest
    ∙ ap (λ (r : List ℕ). take (suc k) l ++ r) (ih (drop (suc k) l))
    ∙ take-append-drop (suc k) l

in-joined : (F : Form) (most : ℕ) (l : List ℕ) → joined (run_in F most l).entries ++ (run_in F most l).rest ≡ l
in-joined F zero l = refl
in-joined F (suc most) l = cut-joined (run_in F most) (λ r. in-joined F most r) l (front F l)

pub run-joined : (F : Form) (l : List ℕ) → joined (run_of F l).entries ++ (run_of F l).rest ≡ l
unfolding run_of
run-joined F l = in-joined F (length l) l

-- Where nothing is left, the entries alone make them up.
pub run-whole : (F : Form) (l : List ℕ) → ended (run_of F l) ≡ true → joined (run_of F l).entries ≡ l
run-whole F l e = go (run_of F l).rest (eqb-true (length (run_of F l).rest) 0 e) (run-joined F l)
  where
    go : (rest : List ℕ) → length rest ≡ 0 → joined (run_of F l).entries ++ rest ≡ l → joined (run_of F l).entries ≡ l
    go [] z p = sym (append-nil (joined (run_of F l).entries)) ∙ p
    go (x ∷ xs) z p = absurd (omega arith)
