-- The field at a place, and one turn of each loop over the fields, over plain variables. Assumes nothing.
use Prim.Native.Nat.{ℕ, suc, ◌+◌, ◌-◌, ◌<◌, ◌≤◌}
use mathlib.Core.Path.{◌≡◌, ◌∙◌}
use mathlib.Core.List.{List}
use mathlib.Core.Bool.{Bool, false, ◌&&◌}
use native.Mathlib.Nat.{add-zero}
use native.Mathlib.Omega.{arith}
use lib.ListN.{length, take, drop, length-drop}
use lib.Dec.{eqb}
use Rattle.ftd.specs.Bytes.{be32_of, be16_of}
use Rattle.ftd.specs.Runs.{front, run_of, ended}
use Rattle.ftd.specs.Fields.{field}
use Rattle.ftd.proofs.runs.Laws.{run-over, run-next, entry-head}
use Rattle.ftd.proofs.runs.Turns.{not-ended, is-ended, entry-byte}
use Rattle.ftd.proofs.runs.Heads.{be16-drop, front-short, front-whole}

module _ (l : List ℕ) (at : ℕ) where
  pub field-short : length l - at < 6 + be16_of l (at + 4) → front field (drop at l) ≡ 0
  unfolding field
  field-short h = front-short field (drop at l) (rw (length-drop, be16-drop) h)

  pub field-whole : 6 + be16_of l (at + 4) ≤ length l - at → front field (drop at l) ≡ 6 + be16_of l (at + 4)
  unfolding field
  field-whole h = front-whole field (drop at l) (rw (length-drop, be16-drop) h) ∙ rw be16-drop

pub some-field : 0 < field.head
unfolding field
some-field = omega arith

pub be32-entry : (l : List ℕ) (at n : ℕ) → 6 ≤ n → be32_of (take n (drop at l)) 0 ≡ be32_of l at
unfolding be32_of
be32-entry l at n h =
    rw (
      entry-byte l at n 0 (omega arith),
      entry-byte l at n 1 (omega arith),
      entry-byte l at n 2 (omega arith),
      entry-byte l at n 3 (omega arith),
      add-zero,
    )

module _ (l : List ℕ) (at n : ℕ) (e : n ≡ front field (drop at l)) where
  -- A field has its head.
  pub field-head : (n ≡ 0 → ⊥) → 6 ≤ n
  unfolding field
  field-head z = entry-head field some-field l at n e z

  module _ (seen count : ℕ) (t : Bool)
      (inv : (ended (run_of field (drop at l)) && eqb (seen + length (run_of field (drop at l)).entries) count) ≡ t)
    where
      pub fields-stop : n ≡ 0 → at < length l → false ≡ t
      fields-stop z h = rw (run-over field some-field l at n e z, not-ended l at h) at inv

      pub fields-end : n ≡ 0 → length l ≤ at → eqb seen count ≡ t
      fields-end z h = rw (run-over field some-field l at n e z, is-ended l at h, add-zero) at inv

      pub fields-turn : (n ≡ 0 → ⊥)
          → (ended (run_of field (drop (at + n) l))
          && eqb (seen + 1 + length (run_of field (drop (at + n) l)).entries) count) ≡ t
      fields-turn z =
          let a : (k : ℕ) → seen + suc k ≡ seen + 1 + k = λ k. omega arith in
          rw (run-next field some-field l at n e z, a (length (run_of field (drop (at + n) l)).entries)) at inv
