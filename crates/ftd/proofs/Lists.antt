-- Bytes with anything behind them, and lists joined. Assumes nothing.
use Prim.Native.Nat.{ℕ, zero, suc, ◌+◌, ◌-◌, ◌<◌, ◌≤◌}
use mathlib.Core.Path.{◌≡◌, refl, ap, ◌∙◌}
use mathlib.Core.List.{List, [], ◌∷◌, ◌++◌}
use mathlib.Core.Bool.{Bool, true, false}
use native.Mathlib.Nat.{zero-add, suc-add}
use native.Mathlib.Omega.{arith}
use borrow.Author.Tests.{leb-true, leb-false}
use lib.ListN.{length, get_or, take, drop, length-append, length-drop, length-take, drop_of_length-le, get_or-append}
use lib.Dec.{leb}
use lib.Seq.{drop-append-le, take-append-le, take-append_seam, drop-append-add, take-nil, take-take, drop-drop}
use Rattle.ftd.specs.Bytes.{be16_of, be32_of, part, joined, Bytes}

module _ (p q : List ℕ) where
  pub byte-append : (i : ℕ) → i < length p → get_or (p ++ q) i 0 ≡ get_or p i 0
  byte-append i h = get_or-append p q 0 i h

  pub be16-append : (i : ℕ) → i + 2 ≤ length p → be16_of (p ++ q) i ≡ be16_of p i
  unfolding be16_of
  be16-append i h = rw (byte-append i (omega arith), byte-append (i + 1) (omega arith))

  pub be32-append : (i : ℕ) → i + 4 ≤ length p → be32_of (p ++ q) i ≡ be32_of p i
  unfolding be32_of
  be32-append i h =
      rw (
        byte-append i (omega arith),
        byte-append (i + 1) (omega arith),
        byte-append (i + 2) (omega arith),
        byte-append
            (i + 3) (omega arith),
      )

  pub part-append : (start len : ℕ) → start + len ≤ length p → part (p ++ q) start len ≡ part p start len
  part-append start len h =
      let a : start ≤ length p = omega arith in
      let b : len ≤ length (drop start p) = rw length-drop (omega arith) in
      rw (drop-append-le start p q a, take-append-le len (drop start p) q b)

-- A number of bytes is below its width.
module _ (p : List ℕ) (bytes : Bytes p) where
  pub be16-width : (i : ℕ) → be16_of p i < 65536
  unfolding be16_of
  be16-width i = omega (arith, bytes i, bytes (i + 1))

  pub be32-width : (i : ℕ) → be32_of p i < 4294967296
  unfolding be32_of
  be32-width i = omega (arith, bytes i, bytes (i + 1), bytes (i + 2), bytes (i + 3))

-- A part that starts in the middle of a part.
drop-take : (p n : ℕ) (s : List ℕ) → drop p (take (p + n) s) ≡ take n (drop p s)
drop-take zero n s = rw zero-add
drop-take (suc p) n [] = rw (suc-add, take-nil)
drop-take (suc p) n (x ∷ xs) = rw suc-add (drop-take p n xs)

pub part-part : (l : List ℕ) (start len a n : ℕ) → a + n ≤ len → part (part l start len) a n ≡ part l (start + a) n
part-part l start len a n h =
    let e : len ≡ a + (len - a) = omega arith in
    ap (λ (k : ℕ). take n (drop a (take k (drop start l)))) e
    ∙ ap (take n) (drop-take a (len - a) (drop start l))
    ∙ take-take n (len - a) (drop a (drop start l)) (omega arith)
    ∙ ap (take n) (drop-drop a start l)

pub drop-part : (a n : ℕ) (s : List ℕ) → drop a (take n s) ≡ take (n - a) (drop a s)
drop-part a n s = go (leb a n) refl
  where
    go : (b : Bool) → leb a n ≡ b → drop a (take n s) ≡ take (n - a) (drop a s)
    go true e =
        let h : a ≤ n = leb-true a n e in
        let k : n ≡ a + (n - a) = omega arith in
        ap (λ (m : ℕ). drop a (take m s)) k ∙ drop-take a (n - a) s
    go false e =
        let h : n < a = leb-false a n e in
        let z : n - a ≡ 0 = omega arith in
        let none : length (take n s) ≤ a = rw length-take (omega arith) in
        rw (z, drop_of_length-le (take n s) none)

-- Entry i of joined lists is the part behind those before it.
pub joined-part : (ls : List (List ℕ)) (i : ℕ) → i < length ls
    → part (joined ls) (length (joined (take i ls))) (length (get_or ls i [])) ≡ get_or ls i []
joined-part [] i h = absurd (omega arith)
joined-part (l ∷ ls) zero h = take-append_seam l (joined ls)
joined-part (l ∷ ls) (suc i) h =
    rw (length-append l (joined (take i ls)), drop-append-add l (joined ls) (length (joined (take i ls))))
    (joined-part ls i (omega arith))

pub joined-inside : (ls : List (List ℕ)) (i : ℕ) → i < length ls
    → length (joined (take i ls)) + length (get_or ls i []) ≤ length (joined ls)
joined-inside [] i h = absurd (omega arith)
joined-inside (l ∷ ls) zero h = rw length-append (omega arith)
joined-inside (l ∷ ls) (suc i) h =
    rw (length-append l (joined (take i ls)), length-append l (joined ls))
    (omega (arith, joined-inside ls i (omega arith)))
