-- The laws of `put`: a run of stores is one put, a put keeps the length, and a put right behind a put, or right before
-- one, is one put. Assumes nothing.
use Prim.Native.Nat.{ℕ, ◌+◌, ◌≤◌}
use mathlib.Core.Path.{◌≡◌, refl, sym, ap, ◌∙◌}
use mathlib.Core.List.{List, [], ◌++◌, append_assoc, append-nil}
use native.Mathlib.Omega.{arith}
use native.Mathlib.Nat.{zero-add, add_assoc, add-zero}
use lib.ListN.{length, take, drop, length-append, length-take, length-drop, take-append-drop}
use lib.Seq.{sets, sets-eq, paste, take-length, length-take-le, take_at, drop_at, take-append-le, drop-append-le}
use lib.Seq.{drop-append-add, take-take, drop-drop}
use Rattle.std.proofs.lemmas.Slice.{put_mid-paste}
use borrow.Rule.Slice.PartMut.{put_mid}
use Rattle.ftd.specs.Bytes.{put}

pub sets-put : (vs l : List ℕ) (at : ℕ) → at + length vs ≤ length l → sets l at vs ≡ put l at vs
unfolding put
sets-put vs l at h = sets-eq vs l at h

pub paste-put : (l : List ℕ) (at : ℕ) (s : List ℕ) → paste l at s (length s) ≡ put l at s
unfolding put
paste-put l at s = rw take-length

-- A part that was written whole is a put.
pub mid-put : (l : List ℕ) (at k : ℕ) (zs vs : List ℕ) → zs ≡ vs → length vs ≡ k → put_mid at k l zs ≡ put l at vs
mid-put l at k zs vs e h = put_mid-paste at k l zs vs (length vs) e h refl ∙ paste-put l at vs

pub length-put : (l : List ℕ) (at : ℕ) (vs : List ℕ) → at + length vs ≤ length l → length (put l at vs) ≡ length l
unfolding put
length-put l at vs h = simp (length-append, length-take, length-drop) (omega arith)

pub put-zero : (l vs : List ℕ) → put l 0 vs ≡ vs ++ drop (length vs) l
unfolding put
put-zero l vs = rw zero-add

-- what stands before the end of a put
head-length : (l : List ℕ) (at : ℕ) (vs : List ℕ) → at ≤ length l → length (take at l ++ vs) ≡ at + length vs
head-length l at vs h = simp (length-append, length-take-le)

pub put-put : (l : List ℕ) (at : ℕ) (vs ws : List ℕ) → at ≤ length l
    → put (put l at vs) (at + length vs) ws ≡ put l at (vs ++ ws)
unfolding put
put-put l at vs ws h =
    let p : List ℕ = take at l ++ vs in
    let e : length p ≡ at + length vs = head-length l at vs h in
    rw (take_at p (drop (at + length vs) l) (at + length vs) e)
    (rw (← e) (rw (drop-append-add p (drop (length p) l) (length ws), drop-drop, length-append)
    (simp (append_assoc, length-append, length-take-le, add_assoc))))

pub put-nil : (l : List ℕ) (at : ℕ) → put l at [] ≡ l
unfolding put
put-nil l at = rw (append-nil, add-zero) (take-append-drop at l)

-- A put right before a put is one put of both.
module _ (l : List ℕ) (at next : ℕ) (vs ws : List ℕ) (e : at + length vs ≡ next) (h : next ≤ length l) where
  front_kept : take at (put l next ws) ≡ take at l
  unfolding put
  front_kept =
      take-append-le at (take next l ++ ws) (drop (next + length ws) l)
      (simp (length-append, length-take-le) (omega arith))
      ∙ take-append-le at (take next l) ws (rw (length-take-le next l h) (omega arith))
      ∙ take-take at next l (omega arith)

  back-kept : drop next (put l next ws) ≡ ws ++ drop (next + length ws) l
  unfolding put
  back-kept =
      drop-append-le next (take next l ++ ws) (drop (next + length ws) l)
      (simp (length-append, length-take-le) (omega arith))
      ∙ ap (λ (r : List ℕ). r ++ drop (next + length ws) l) (drop_at (take next l) ws next (length-take-le next l h))

  pub put-before : put (put l next ws) at vs ≡ put l at (vs ++ ws)
  unfolding put
  put-before = go (put l next ws) front_kept back-kept
    where
      go : (m : List ℕ) → take at m ≡ take at l → drop next m ≡ ws ++ drop (next + length ws) l
          → put m at vs ≡ put l at (vs ++ ws)
      go m f b =
          let k : at + length (vs ++ ws) ≡ next + length ws = rw length-append (omega arith) in
          rw (e, f, b, k)
          (sym (append_assoc (take at l ++ vs) ws (drop (next + length ws) l))
          ∙ ap (λ (r : List ℕ). r ++ drop (next + length ws) l) (append_assoc (take at l) vs ws))
