-- An entry put into the log part by part. Assumes nothing.
use Prim.Native.Nat.{ℕ, ◌+◌, ◌%◌, ◌<◌, ◌≤◌}
use native.Mathlib.Omega.{arith}
use mathlib.Core.Path.{◌≡◌, refl, ap, ◌∙◌}
use mathlib.Core.List.{List, ◌++◌, append_assoc}
use lib.ListN.{length, length-append}
use Rattle.ftd.specs.Bytes.{put, bytes16, bytes32}
use Rattle.ftd.proofs.write.Puts.{then}
use Rattle.flow.specs.Log.{entry_bytes}

-- A content in two parts fits behind the head: so do both.
module _ (at : ℕ) (head tail l : List ℕ) (h : at + 16 + length (head ++ tail) ≤ length l) where
  pub head-within : at + 16 + length head ≤ length l
  head-within = omega (arith, h, length-append head tail)

  pub tail_within : at + 16 + length head + length tail ≤ length l
  tail_within = omega (arith, h, length-append head tail)

pub entry-put : (l o1 o2 o3 o4 o5 o6 o7 : List ℕ) (at series tid number : ℕ) (head tail : List ℕ) → at ≤ length l
    → length (head ++ tail) < 4294967296 → o1 ≡ put l at (bytes16 series) → o2 ≡ put o1 (at + 2) (bytes16 0)
    → o3 ≡ put o2 (at + 4) (bytes32 tid) → o4 ≡ put o3 (at + 8) (bytes32 number)
    → o5 ≡ put o4 (at + 12) (bytes32 ((length head + length tail) % 4294967296)) → o6 ≡ put o5 (at + 16) head
    → o7 ≡ put o6 (at + 16 + length head) tail → o7 ≡ put l at (entry_bytes series tid number (head ++ tail))
unfolding entry_bytes
entry-put l o1 o2 o3 o4 o5 o6 o7 at series tid number head tail room small b1 b2 b3 b4 b5 b6 b7 =
    let k = length-append head tail in
    let n : (length head + length tail) % 4294967296 ≡ length (head ++ tail) = omega arith in
    let v2 : List ℕ = bytes16 series ++ bytes16 0 in
    let v3 : List ℕ = v2 ++ bytes32 tid in
    let v4 : List ℕ = v3 ++ bytes32 number in
    let v5 : List ℕ = v4 ++ bytes32 (length (head ++ tail)) in
    let m : at + 16 + length head ≡ at + length (v5 ++ head) = rw length-append (omega arith) in
    let w : o7 ≡ put l at ((v5 ++ head) ++ tail) =
    then l o6 o7 at (at + 16 + length head) (v5 ++ head) tail room m
    (then l o5 o6 at (at + 16) v5 head room refl
    (then l o4 o5 at (at + 12) v4 (bytes32 (length (head ++ tail))) room refl
    (then l o3 o4 at (at + 8) v3 (bytes32 number) room refl
    (then l o2 o3 at (at + 4) v2 (bytes32 tid) room refl
    (then l o1 o2 at (at + 2) (bytes16 series) (bytes16 0) room refl b1 b2) b3) b4) (rw n at b5)) b6) b7 in
    w ∙ ap (put l at) (append_assoc v5 head tail)
