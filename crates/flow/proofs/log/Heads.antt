-- The entry that stands at a place, parts that are lent, and the number behind the last. Assumes nothing.
use Prim.Native.Nat.{ℕ, ◌+◌, ◌-◌, ◌<◌, ◌≤◌}
use mathlib.Core.Path.{◌≡◌, ◌∙◌}
use mathlib.Core.List.{List}
use native.Mathlib.Omega.{arith}
use lib.ListN.{length, take, drop, length-drop}
use lib.Seq.{take_all}
use Rattle.ftd.specs.Bytes.{be32_of}
use Rattle.ftd.specs.Runs.{front}
use Rattle.ftd.proofs.runs.Heads.{be32-drop, front-short, front-whole}
use Rattle.flow.specs.Log.{entry}

module _ (l : List ℕ) (at : ℕ) where
  pub entry-short : length l - at < 16 + be32_of l (at + 12) → front entry (drop at l) ≡ 0
  unfolding entry
  entry-short h = front-short entry (drop at l) (rw (length-drop, be32-drop) h)

  pub entry_whole : 16 + be32_of l (at + 12) ≤ length l - at → front entry (drop at l) ≡ 16 + be32_of l (at + 12)
  unfolding entry
  entry_whole h = front-whole entry (drop at l) (rw (length-drop, be32-drop) h) ∙ rw be32-drop

-- The length of a part from a place on, as the code has it.
pub part-size : (at n : ℕ) → at + n - at ≡ n
part-size at n = omega arith

-- Bytes from a place on, as a part that ends with them.
pub part_end : (n : ℕ) (x : List ℕ) → take (length x - n) (drop n x) ≡ drop n x
part_end n x = take_all (length x - n) (drop n x) (rw length-drop (omega arith))
