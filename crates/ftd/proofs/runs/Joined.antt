-- Entries joined are cut into the same entries, and those of a run are such entries. Assumes nothing.
use Prim.Native.Nat.{ℕ, zero, suc, ◌+◌, ◌<◌, ◌≤◌}
use mathlib.Core.Path.{◌≡◌, refl, sym, ap, ◌∙◌}
use mathlib.Core.List.{List, [], ◌∷◌, ◌++◌, append_assoc, append-nil}
use mathlib.Core.Bool.{Bool, true, false, cond}
use native.Mathlib.Omega.{arith}
use borrow.Author.Tests.{le-leb, leb-true}
use lib.ListN.{length, take, drop, length-append, length-take}
use lib.Seq.{take-append_seam, drop-append_seam}
use lib.Dec.{leb}
use Rattle.ftd.specs.Bytes.{joined}
use Rattle.ftd.specs.Runs.{Form, front, Run, in_front, cut_off, run_in, run_of}
use Rattle.ftd.proofs.runs.Laws.{run_step}

-- Some bytes are an entry: at the front of any bytes they are the entry there.
pub record Entry (F : Form) (e : List ℕ) : Type 0 where
  pub some : 0 < length e
  pub stands : (r : List ℕ) → front F (e ++ r) ≡ length e

abbrev pub Entries : Form → List (List ℕ) → Type 0
Entries F [] = Unit
Entries F (e ∷ es) = Entry F e × Entries F es

cut-front : (more : List ℕ → Run) (e r : List ℕ) → 0 < length e → cut_off more (e ++ r) (length e) ≡ in_front e (more r)
cut-front more [] r h = absurd (omega arith)
cut-front more (x ∷ e) r h =
    ap (λ (t : List ℕ). in_front t (more (drop (suc (length e)) (x ∷ e ++ r)))) (take-append_seam (x ∷ e) r)
    ∙ ap (λ (t : List ℕ). in_front (x ∷ e) (more t)) (drop-append_seam (x ∷ e) r)

-- Entries, joined, with anything behind them, are those entries and the run of what is behind.
pub run-behind : (F : Form) → 0 < F.head → (es : List (List ℕ)) → Entries F es → (r : List ℕ)
    → run_of F (joined es ++ r) ≡ record { entries = es ++ (run_of F r).entries; rest = (run_of F r).rest }
run-behind F some [] a r = refl
run-behind F some (e ∷ es) a r =
    ap (run_of F) (append_assoc e (joined es) r)
    ∙ run_step F some (e ++ (joined es ++ r))
    ∙ ap (cut_off (run_of F) (e ++ (joined es ++ r))) (a.0.stands (joined es ++ r))
    ∙ cut-front (run_of F) e (joined es ++ r) a.0.some
    ∙ ap (in_front e) (run-behind F some es a.1 r)

run-empty : (F : Form) → run_of F [] ≡ record { entries = []; rest = [] }
unfolding run_of
run-empty F = refl

-- A run of entries, joined, is those entries.
pub run-of : (F : Form) → 0 < F.head → (es : List (List ℕ)) → Entries F es
    → run_of F (joined es) ≡ record { entries = es; rest = [] }
run-of F some es a =
    ap (run_of F) (sym (append-nil (joined es)))
    ∙ run-behind F some es a []
    ∙ rw (run-empty F, append-nil es)

-- How many bytes follow is said by the head alone.
abbrev pub Local : Form → Type 0
Local F = (l r : List ℕ) (n : ℕ) → F.head ≤ n → n ≤ length l → F.follow (take n l ++ r) ≡ F.follow l

module _ (F : Form) (some : 0 < F.head) (local : Local F) where
  -- What a run cuts off at the front is an entry.
  front-entry : (l : List ℕ) (n : ℕ) → front F l ≡ suc n → Entry F (take (suc n) l)
  unfolding front
  front-entry l n e =
      go (leb (F.head + F.follow l) (length l)) refl e
    where
      go : (b : Bool) → leb (F.head + F.follow l) (length l) ≡ b → cond b (F.head + F.follow l) 0 ≡ suc n
          → Entry F (take (suc n) l)
      go false q p = absurd (omega arith)
      go true q p =
          let inside : suc n ≤ length l = omega (arith, leb-true (F.head + F.follow l) (length l) q) in
          let long : length (take (suc n) l) ≡ suc n = rw length-take (omega arith) in
          record {
            some = rw long (omega arith);
            stands =
                λ r.
                let f : F.follow (take (suc n) l ++ r) ≡ F.follow l = local l r (suc n) (omega arith) inside in
                let h : F.head + F.follow l ≤ length (take (suc n) l ++ r) = rw (length-append, long) (omega arith) in
                rw (f, le-leb (F.head + F.follow l) (length (take (suc n) l ++ r)) h, long) p;
          }

  in-entries : (most : ℕ) (l : List ℕ) → Entries F (run_in F most l).entries
  in-entries zero l = tt
  in-entries (suc most) l = go (front F l) refl (λ r. in-entries most r)
    where
      go : (w : ℕ) → front F l ≡ w → ((r : List ℕ) → Entries F (run_in F most r).entries)
          → Entries F (cut_off (run_in F most) l w).entries
      go zero e ih = tt
      go (suc n) e ih = (front-entry l n e, ih (drop (suc n) l))

  pub run-entries : (l : List ℕ) → Entries F (run_of F l).entries
  unfolding run_of
  run-entries l = in-entries (length l) l
