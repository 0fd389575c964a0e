-- Front parts of lists, and bytes put into a buffer read back, over plain variables. Assumes nothing.
use Prim.Native.Nat.{ℕ, ◌+◌, ◌-◌, ◌*◌, ◌/◌, ◌<◌, ◌≤◌}
use mathlib.Core.Path.{◌≡◌, sym, ◌∙◌}
use mathlib.Core.List.{List, ◌++◌, append_assoc}
use native.Mathlib.Nat.{add-sub_cancel_left}
use native.Mathlib.Omega.{arith}
use lib.ListN.{length, take, drop}
use lib.Seq.{length-take-le, take_at, drop_at}
use Rattle.ftd.specs.Bytes.{put}
use Rattle.ftd.proofs.bytes.Put.{length-put, put-zero, put-put}
use Rattle.play.specs.Words.{argument, said_bytes}
use Rattle.play.proofs.words.Turns.{length-bytes}
use Rattle.play.proofs.words.Arguments.{argument-short}

-- A front part has as many elements as it was taken for.
pub taken : (l : List ℕ) (n : ℕ) → n ≤ length l → n ≡ length (take n l)
taken l n h = sym (length-take-le n l h)

pub taken-below : (l : List ℕ) (n : ℕ) → n < length l → n ≡ length (take n l)
taken-below l n h = taken l n (omega arith)

pub taken_back : (l : List ℕ) (n : ℕ) → n ≤ length l → length (take n l) ≡ n
taken_back l n h = length-take-le n l h

-- Twice as many digits as bytes, of a front part or of one that an argument says.
pub digits-fit : (l : List ℕ) (n m : ℕ) → n ≤ length l → 64 + 2 * n ≤ m → 64 + 2 * length (take n l) ≤ m
digits-fit l n m h g = rw (taken_back l n h) g

-- ─── The bytes that an argument says, put into a buffer that holds the line ───

module _ (line : List ℕ) (i m : ℕ) (w : List ℕ) (e : w ≡ argument line i) (h : length line ≤ m) where
  short : length w ≤ length line
  short = rw e (argument-short line i)

  pub said-room : 0 + length w / 2 ≤ m
  said-room = omega (arith, short)

  pub both-room : (j n k : ℕ) (v : List ℕ) → n ≡ length w / 2 → v ≡ argument line j → k ≡ length v / 2 → n + k ≤ m
  both-room j n k v z f q =
      let g : length v ≤ length line = rw f (argument-short line j) in
      omega (arith, short)

  pub said-part : (l o : List ℕ) (n : ℕ) → o ≡ put l 0 (said_bytes w) → m ≡ length l → n ≡ length w / 2 → n ≤ length o
  said-part l o n q g z =
      let d : length (said_bytes w) ≡ length w / 2 = length-bytes w in
      let f : 0 + length (said_bytes w) ≤ length l = omega (arith, short) in
      rw (q, length-put l 0 (said_bytes w) f) (omega (arith, short))

  -- Its digits.
  pub said-digits : (o : List ℕ) (n k : ℕ) → n ≤ length o → n ≡ length w / 2 → 64 + length line ≤ k
      → 64 + 2 * length (take n o) ≤ k
  said-digits o n k g z f = rw (taken_back o n g) (omega (arith, short))

-- Behind those of another argument.
pub behind-room : (line : List ℕ) (i j : ℕ) (w v l o : List ℕ) (n : ℕ) → w ≡ argument line i → v ≡ argument line j
    → length line ≤ length l → o ≡ put l 0 (said_bytes v) → n ≡ length v / 2 → n + length w / 2 ≤ length o
behind-room line i j w v l o n e f h q z =
    let d : length (said_bytes v) ≡ length v / 2 = length-bytes v in
    let x : length w ≤ length line = rw e (argument-short line i) in
    let y : length v ≤ length line = rw f (argument-short line j) in
    rw (q, length-put l 0 (said_bytes v) (omega arith)) (omega arith)

module _ (l o w v : List ℕ) (n : ℕ) (e : w ≡ v) (q : o ≡ put l 0 (said_bytes w)) (z : n ≡ length (said_bytes w)) where
  pub said-front : take n o ≡ said_bytes v
  said-front =
      rw (q, put-zero l (said_bytes w), ← e)
      (take_at (said_bytes w) (drop (length (said_bytes w)) l) n (sym z))

  module _ (o₂ x y : List ℕ) (m : ℕ) (f : x ≡ y) (p : o₂ ≡ put o n (said_bytes x)) (k : m ≡ length (said_bytes x)) where
    joined : o₂ ≡ said_bytes w ++ (said_bytes x ++ drop (length (said_bytes w ++ said_bytes x)) l)
    joined =
        let j : put (put l 0 (said_bytes w)) (0 + length (said_bytes w)) (said_bytes x) ≡ put l 0 (said_bytes w ++ said_bytes x) =
        put-put l 0 (said_bytes w) (said_bytes x) (omega arith) in
        let n-is : n ≡ 0 + length (said_bytes w) = omega arith in
        p ∙ rw (q, n-is) (j ∙ put-zero l (said_bytes w ++ said_bytes x)
        ∙ append_assoc (said_bytes w) (said_bytes x) (drop (length (said_bytes w ++ said_bytes x)) l))

    pub both-front : take n o₂ ≡ said_bytes v
    both-front =
        rw (joined, ← e)
        (take_at (said_bytes w) (said_bytes x ++ drop (length (said_bytes w ++ said_bytes x)) l) n (sym z))

    pub both_behind : take ((n + m) - n) (drop n o₂) ≡ said_bytes y
    both_behind =
        rw (
          add-sub_cancel_left,
          joined,
          drop_at (said_bytes w) (said_bytes x ++ drop (length (said_bytes w ++ said_bytes x)) l) n (sym z),
          ← f,
        ) (take_at (said_bytes x) (drop (length (said_bytes w ++ said_bytes x)) l) m (sym k))
