-- The parts of the reassembly buffer: a piece put behind what a part holds, and other parts untouched. Assumes nothing.
use Prim.Native.Nat.{ℕ, suc, ◌+◌, ◌-◌, ◌*◌, ◌≤◌}
use native.Mathlib.Omega.{arith}
use mathlib.Core.Path.{◌≡◌, refl, sym, ap, ◌∙◌}
use mathlib.Core.List.{List, ◌++◌, append_assoc}
use mathlib.Core.Bool.{Bool, true, false}
use mathlib.Core.Logic.{◌⊎◌, inl, inr}
use borrow.Author.Tests.{leb-true, leb-false}
use lib.ListN.{length, take, drop, length-append, length-take, length-drop, take-append-drop}
use lib.Seq.{length-take-le, take_at, drop_at, take-add, drop-drop, drop-append-add}
use lib.Dec.{leb}
use Rattle.ftd.specs.Bytes.{part, put}
use Rattle.ftd.proofs.Lists.{part-append}
use Rattle.flow.specs.declared.receiver.Receiver.{Receiver}
use Rattle.flow.specs.Ends.{index_of, kept_series, is_open, part_start}
use Rattle.flow.proofs.ends.Lookups.{index-differs}
use Rattle.flow.proofs.ends.ReceiverLookups.{Eight, part-inside}
use Rattle.flow.proofs.calls.Receive.{Room}

-- ─── Bytes ───

-- What is put behind n bytes of a part stands behind them.
pub part-put : (l vs : List ℕ) (a n : ℕ) → a + n ≤ length l
    → part (put l (a + n) vs) a (n + length vs) ≡ part l a n ++ vs
unfolding put
part-put l vs a n h =
    let x = part l a n in
    let r = drop (a + n + length vs) l in
    let e : take a l ++ x ++ vs ++ r ≡ take a l ++ (x ++ vs ++ r) = simp append_assoc in
    let k : length (x ++ vs) ≡ n + length vs = simp (length-append, length-take, length-drop) (omega arith) in
    rw (take-add a n l)
    (ap (λ (q : List ℕ). take (n + length vs) (drop a q)) e
    ∙ ap (take (n + length vs)) (drop_at (take a l) (x ++ vs ++ r) a (length-take-le a l (omega arith)))
    ∙ take_at (x ++ vs) r (n + length vs) k)

module _ (l vs : List ℕ) (at b n : ℕ) (h : at + length vs ≤ length l) where
  part-take : b + n ≤ at → part (take at l) b n ≡ part l b n
  part-take k =
      sym (part-append (take at l) (drop at l) b n (rw (length-take-le at l (omega arith)) k))
      ∙ ap (λ (q : List ℕ). part q b n) (take-append-drop at l)

  -- What lies before it stays, and what lies behind it.
  pub part-before : b + n ≤ at → part (put l at vs) b n ≡ part l b n
  unfolding put
  part-before k =
      let f = length-take-le at l (omega arith) in
      ap (λ (q : List ℕ). part q b n) (append_assoc (take at l) vs (drop (at + length vs) l))
      ∙ part-append (take at l) (vs ++ drop (at + length vs) l) b n (rw f k) ∙ part-take k

  pub part-behind : at + length vs ≤ b → part (put l at vs) b n ≡ part l b n
  unfolding put
  part-behind k =
      let p = take at l ++ vs in
      let f : length p ≡ at + length vs = simp (length-append, length-take) (omega arith) in
      let g : b ≡ length p + (b - (at + length vs)) = omega arith in
      let i : at + length vs + (b - (at + length vs)) ≡ b = omega arith in
      ap (take n)
      (ap (λ (q : ℕ). drop q (p ++ drop (at + length vs) l)) g
      ∙ drop-append-add p (drop (at + length vs) l) (b - (at + length vs))
      ∙ drop-drop (b - (at + length vs)) (at + length vs) l
      ∙ ap (λ (q : ℕ). drop q l) i)

-- ─── Parts ───

-- A piece of series t leaves the part of any other series as it is.
module _ (e : Receiver) (eight : Eight e) (s t : ℕ) (open-t : is_open e t ≡ true) (other : s ≡ t → ⊥) where
  apart : (part_start e s + 32768 ≤ part_start e t) ⊎ (part_start e t + 32768 ≤ part_start e s)
  unfolding part_start is_open
  apart = go (leb (suc (index_of s (kept_series e))) (index_of t (kept_series e))) refl
    where
      d : index_of s (kept_series e) ≡ index_of t (kept_series e) → ⊥
      d = index-differs s t (kept_series e) open-t other

      go : (b : Bool) → leb (suc (index_of s (kept_series e))) (index_of t (kept_series e)) ≡ b
          → (32768 * index_of s (kept_series e) + 32768 ≤ 32768 * index_of t (kept_series e))
          ⊎ (32768 * index_of t (kept_series e) + 32768 ≤ 32768 * index_of s (kept_series e))
      go true q = inl (omega (arith, leb-true (suc (index_of s (kept_series e))) (index_of t (kept_series e)) q))
      go false q = inr (omega (arith, leb-false (suc (index_of s (kept_series e))) (index_of t (kept_series e)) q, d))

  pub part-untouched : (buffer content : List ℕ) (held n : ℕ) → Room e buffer held content → n ≤ 32768
      → part (put buffer (part_start e t + held) content) (part_start e s) n ≡ part buffer (part_start e s) n
  part-untouched buffer content held n room few = go apart
    where
      inside : part_start e t + held + length content ≤ length buffer
      inside = omega (arith, part-inside e eight t open-t, room.parts, room.chain)

      go : (part_start e s + 32768 ≤ part_start e t) ⊎ (part_start e t + 32768 ≤ part_start e s)
          → part (put buffer (part_start e t + held) content) (part_start e s) n ≡ part buffer (part_start e s) n
      go (inl x) = part-before buffer content (part_start e t + held) (part_start e s) n inside (omega arith)
      go (inr x) =
          part-behind buffer content (part_start e t + held) (part_start e s) n inside (omega (arith, room.chain))
