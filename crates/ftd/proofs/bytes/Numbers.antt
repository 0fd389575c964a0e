-- A number that is put is read back, and the bytes of a number that was read are those bytes. Assumes nothing.
use Prim.Native.Nat.{ℕ, suc, ◌+◌, ◌*◌, ◌/◌, ◌%◌, ◌<◌, ◌≤◌}
use mathlib.Core.Path.{◌≡◌, refl, sym, ap, ◌∙◌}
use mathlib.Core.List.{List, [], ◌∷◌, ◌++◌}
use native.Mathlib.Nat.{add-zero}
use native.Mathlib.Omega.{arith}
use native.Mathlib.Numerals.{add-one}
use lib.ListN.{length, get_or, take, drop}
use lib.Seq.{drop-cons, drop-append_seam}
use Rattle.ftd.specs.Bytes.{be16_of, be32_of, Bytes, bytes16, bytes32}
use Rattle.ftd.proofs.runs.Heads.{be16-drop, be32-drop}

pub back16 : (x : ℕ) (l : List ℕ) → be16_of (bytes16 x ++ l) 0 ≡ x
unfolding be16_of
back16 x l = omega arith

pub back32 : (x : ℕ) (l : List ℕ) → be32_of (bytes32 x ++ l) 0 ≡ x
unfolding be32_of
back32 x l = omega arith

-- ─── Behind other bytes ───

module _ (l r : List ℕ) (k : ℕ) where
  pub be16-behind : be16_of (l ++ r) (length l + k) ≡ be16_of r k
  be16-behind = sym (be16-drop (length l) (l ++ r) k) ∙ ap (λ (t : List ℕ). be16_of t k) (drop-append_seam l r)

  pub be32-behind : be32_of (l ++ r) (length l + k) ≡ be32_of r k
  be32-behind = sym (be32-drop (length l) (l ++ r) k) ∙ ap (λ (t : List ℕ). be32_of t k) (drop-append_seam l r)

module _ (l : List ℕ) (x : ℕ) (r : List ℕ) where
  pub back16-at : be16_of (l ++ (bytes16 x ++ r)) (length l) ≡ x
  back16-at = (rw add-zero at (be16-behind l (bytes16 x ++ r) 0)) ∙ back16 x r

  pub back32-at : be32_of (l ++ (bytes32 x ++ r)) (length l) ≡ x
  back32-at = (rw add-zero at (be32-behind l (bytes32 x ++ r) 0)) ∙ back32 x r

-- ─── Bytes read ───

again16 : (a b : ℕ) → a < 256 → b < 256 → bytes16 (a * 256 + b) ≡ a ∷ b ∷ []
again16 a b h k =
    let p : (a * 256 + b) / 256 ≡ a = omega arith in
    let q : (a * 256 + b) % 256 ≡ b = omega arith in
    rw (p, q)

again32 : (a b c d : ℕ) → a < 256 → b < 256 → c < 256 → d < 256
    → bytes32 (a * 16777216 + b * 65536 + c * 256 + d) ≡ a ∷ b ∷ c ∷ d ∷ []
again32 a b c d h k m n =
    let x : ℕ = a * 16777216 + b * 65536 + c * 256 + d in
    let p : x / 16777216 ≡ a = omega arith in
    let q : x / 65536 % 256 ≡ b = omega arith in
    let r : x / 256 % 256 ≡ c = omega arith in
    let s : x % 256 ≡ d = omega arith in
    rw (p, q, r, s)

-- ─── The bytes at a place ───

next : (l : List ℕ) (n m k : ℕ) → m ≡ n + 1 → n < length l → take (suc k) (drop n l) ≡ get_or l n 0 ∷ take k (drop m l)
next l n m k e h = rw (drop-cons l n 0 h, e, add-one)

pub one_byte : (l : List ℕ) (n : ℕ) → n < length l → take 1 (drop n l) ≡ get_or l n 0 ∷ []
one_byte l n h = next l n (n + 1) 0 refl h

two-listed : (l : List ℕ) (n : ℕ) → n + 2 ≤ length l → take 2 (drop n l) ≡ get_or l n 0 ∷ get_or l (n + 1) 0 ∷ []
two-listed l n h =
    next l n (n + 1) 1 refl (omega arith) ∙ ap (λ (r : List ℕ). get_or l n 0 ∷ r) (one_byte l (n + 1) (omega arith))

four-listed : (l : List ℕ) (n : ℕ) → n + 4 ≤ length l
    → take 4 (drop n l) ≡ get_or l n 0 ∷ get_or l (n + 1) 0 ∷ get_or l (n + 2) 0 ∷ get_or l (n + 3) 0 ∷ []
four-listed l n h =
    next l n (n + 1) 3 refl (omega arith)
    ∙ ap (λ (r : List ℕ). get_or l n 0 ∷ r)
    (next l (n + 1) (n + 2) 2 (omega arith) (omega arith)
    ∙ ap (λ (r : List ℕ). get_or l (n + 1) 0 ∷ r)
    (next l (n + 2) (n + 3) 1 (omega arith) (omega arith)
    ∙ ap (λ (r : List ℕ). get_or l (n + 2) 0 ∷ r) (one_byte l (n + 3) (omega arith))))

module _ (l : List ℕ) (bytes : Bytes l) (n : ℕ) where
  pub two_bytes : n + 2 ≤ length l → take 2 (drop n l) ≡ bytes16 (be16_of l n)
  unfolding be16_of
  two_bytes h = two-listed l n h ∙ sym (again16 (get_or l n 0) (get_or l (n + 1) 0) (bytes n) (bytes (n + 1)))

  pub four_bytes : n + 4 ≤ length l → take 4 (drop n l) ≡ bytes32 (be32_of l n)
  unfolding be32_of
  four_bytes h =
      four-listed l n h
      ∙ sym (again32 (get_or l n 0) (get_or l (n + 1) 0) (get_or l (n + 2) 0) (get_or l (n + 3) 0) (bytes n) (bytes (n + 1))
      (bytes (n + 2)) (bytes (n + 3)))
